use Rattle.std.proofs.Common.{◌≡◌, ◌++◌, ◌∷◌, ◌≤◌, length, drop, reverse}
use Rattle.prolog_arith.specs.declared.evaluation.Task.TheVariants.{Apply}
use Rattle.prolog_arith.specs.Work.{opened}
use Rattle.prolog_arith.proofs.evaluation.open.Given as goal

abbrev pub invariant-loop-at : goal.invariant-loop-at
invariant-loop-at l = record {
  low : l.at ≤ length l.operands;
  pushed : reverse l.tasks.items ≡ opened (drop l.at l.operands) ++ Apply l.fn.operation ∷ reverse l.fn.tasks.items;
}

abbrev pub decreases-loop-at : goal.decreases-loop-at
decreases-loop-at l = l.at
