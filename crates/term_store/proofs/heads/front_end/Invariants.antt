use Rattle.std.proofs.Common.{◌-◌, length}
use Rattle.term_store.proofs.Fronts.{IsPassing}
use Rattle.term_store.proofs.heads.front_end.Given as goal

abbrev pub invariant-loop-left : goal.invariant-loop-left
invariant-loop-left l = IsPassing l.nodes l.at l.left l.end

abbrev pub decreases-loop-left : goal.decreases-loop-left
decreases-loop-left l = length l.nodes - l.end
