use Rattle.std.proofs.Common.{◌≡◌, ◌-◌}
use Rattle.term_builtins.proofs.NewCells.{cells_from}
use Rattle.term_builtins.proofs.compounds.make_compound.Given as goal

abbrev pub invariant-loop-number : goal.invariant-loop-number
invariant-loop-number l = l.cells.items ≡ cells_from l.fn.store.variables (l.number - l.fn.store.variables)
