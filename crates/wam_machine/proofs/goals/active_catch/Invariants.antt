use Rattle.wam_machine.proofs.Active.{IsSought}
use Rattle.wam_machine.proofs.goals.active_catch.Given as goal

abbrev pub invariant-loop-left : goal.invariant-loop-left
invariant-loop-left g l = IsSought l.terms l.left

abbrev pub decreases-loop-left : goal.decreases-loop-left
decreases-loop-left g l = l.left
