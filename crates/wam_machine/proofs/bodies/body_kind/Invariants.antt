use Rattle.std.proofs.Common.{length}
use Rattle.wam_machine.specs.Terms.{built}
use Rattle.wam_machine.proofs.SpineWalks.{ahead}
use Rattle.wam_machine.proofs.SpineKinds.{IsSorting}
use Rattle.wam_machine.proofs.bodies.body_kind.Given as goal

abbrev pub invariant-loop-next : goal.invariant-loop-next
invariant-loop-next g l = IsSorting l.terms (built l.terms l.fn.goal) l.unbound l.next l.todo.items

abbrev pub decreases-loop-next : goal.decreases-loop-next
decreases-loop-next g l = length (ahead (built l.terms) l.next l.todo.items)
