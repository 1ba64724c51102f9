use Rattle.wam_machine.proofs.Gathered.{IsListing}
use Rattle.wam_machine.proofs.findall.list_of_cells.Given as goal

abbrev pub invariant-loop-left : goal.invariant-loop-left
invariant-loop-left g l = IsListing l.fn.terms l.terms l.list l.cells l.left

abbrev pub decreases-loop-left : goal.decreases-loop-left
decreases-loop-left g l = l.left
