use Rattle.std.proofs.Common.{length}
use Rattle.wam_machine.proofs.Gathered.{IsPutting}
use Rattle.wam_machine.proofs.findall.put_copies.Given as goal

abbrev pub invariant-loop-copy : goal.invariant-loop-copy
invariant-loop-copy g l = IsPutting l.fn.terms l.terms l.cells.items l.left l.found

abbrev pub decreases-loop-copy : goal.decreases-loop-copy
decreases-loop-copy g l = length l.left
