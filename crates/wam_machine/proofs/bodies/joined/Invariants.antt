use Rattle.wam_machine.proofs.BodyFolds.{IsFolding}
use Rattle.wam_machine.proofs.bodies.joined.Given as goal

abbrev pub invariant-loop-left : goal.invariant-loop-left
invariant-loop-left g l = IsFolding l.fn.terms l.terms l.parts l.left l.stack.items

-- proposed from the loop's first test
abbrev pub decreases-loop-left : goal.decreases-loop-left
decreases-loop-left g l = l.left
