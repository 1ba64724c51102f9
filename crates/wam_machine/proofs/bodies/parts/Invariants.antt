use Rattle.std.proofs.Common.{length}
use Rattle.wam_machine.specs.Terms.{built}
use Rattle.wam_machine.proofs.SpineWalks.{IsWalking, ahead}
use Rattle.wam_machine.proofs.bodies.parts.Given as goal

abbrev pub invariant-loop-next : goal.invariant-loop-next
invariant-loop-next g l = IsWalking l.terms (built l.terms l.fn.goal) l.parts.items l.next l.todo.items

abbrev pub decreases-loop-next : goal.decreases-loop-next
decreases-loop-next g l = length (ahead (built l.terms) l.next l.todo.items)
