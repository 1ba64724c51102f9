use Rattle.std.proofs.Common.{◌≤◌, length, drop}
use Rattle.wam_machine.proofs.ShownCells.{IsListed}
use Rattle.wam_machine.proofs.shown.list_with.Given as goal

abbrev pub invariant-loop-left : goal.invariant-loop-left
invariant-loop-left l = record { within : l.left ≤ length l.shown; listed : IsListed l.names l.fn.store l.store l.list (drop l.left l.shown) }

abbrev pub decreases-loop-left : goal.decreases-loop-left
decreases-loop-left l = l.left
