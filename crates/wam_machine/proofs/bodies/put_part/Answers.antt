use Rattle.std.proofs.lemmas.Result.{on_ok_weaker}
use Rattle.wam_machine.proofs.Built.{grown-itself}
use Rattle.wam_machine.proofs.BodyStack.{variable-part, goal-part, joint-part, no-integer, goal-put, variable-put, put-all, joint-two, joint-put}
use Rattle.wam_machine.proofs.bodies.put_part.Goals as goal

pub call_goal-requires-clause-goal : goal.call_goal-requires-clause-goal
call_goal-requires-clause-goal g c = (variable-part c.args.terms.now c.args.part c.requires.part c.in-Variable.cell c.in-Variable.is).0

pub join-requires-clause-name : goal.join-requires-clause-name
join-requires-clause-name g c = (joint-part c.args.terms.now c.args.part c.requires.part c.in-Joint.name c.in-Joint.is).0

pub join-requires-clause-two : goal.join-requires-clause-two
join-requires-clause-two g c = joint-two c.args.terms.now c.args.part c.requires.part c.in-Joint.name c.args.stack.now.items c.in-Joint.is c.requires.can

pub returns-in_ok-push-in-Variable-clause-stack : goal.returns-in_ok-push-in-Variable-clause-stack
returns-in_ok-push-in-Variable-clause-stack g c =
    put-all c.args.terms.now c.call_goal.new.terms c.in_ok-called-in-Variable.ensures.grown c.args.stack.now.items c.push.new.self.items c.in_ok-called-in-Variable.called
    c.in_ok-push-in-Variable.ensures.items c.requires.stack c.in_ok-called-in-Variable.ensures.cell

pub returns-in_ok-push-in-Variable-clause-put : goal.returns-in_ok-push-in-Variable-clause-put
returns-in_ok-push-in-Variable-clause-put g c =
    variable-put c.args.terms.now c.args.part c.requires.part c.call_goal.new.terms c.in_ok-called-in-Variable.ensures.grown c.in-Variable.cell c.in_ok-called-in-Variable.called
    c.args.stack.now.items c.push.new.self.items c.in-Variable.is c.in_ok-push-in-Variable.ensures.items c.requires.stack c.in_ok-called-in-Variable.ensures.term

pub returns-in_ok-push-in-Integer-clause-stack : goal.returns-in_ok-push-in-Integer-clause-stack
returns-in_ok-push-in-Integer-clause-stack g c = absurd (no-integer c.args.terms.now c.args.part c.requires.part c.in-Integer.cell _ c.in-Integer.is c.requires.can)

pub returns-in_ok-push-in-Integer-clause-put : goal.returns-in_ok-push-in-Integer-clause-put
returns-in_ok-push-in-Integer-clause-put g c = absurd (no-integer c.args.terms.now c.args.part c.requires.part c.in-Integer.cell _ c.in-Integer.is c.requires.can)

pub returns-in_ok-push-in-Goal-clause-stack : goal.returns-in_ok-push-in-Goal-clause-stack
returns-in_ok-push-in-Goal-clause-stack g c =
    let t = c.args.terms.now in
    put-all t t (grown-itself t c.requires.terms) c.args.stack.now.items c.push-in-Goal.new.self.items c.in-Goal.cell
    c.in_ok-push-in-Goal.ensures.items c.requires.stack (goal-part t c.args.part c.requires.part c.in-Goal.cell c.in-Goal.is).0

pub returns-in_ok-push-in-Goal-clause-put : goal.returns-in_ok-push-in-Goal-clause-put
returns-in_ok-push-in-Goal-clause-put g c =
    goal-put c.args.terms.now c.args.part c.requires.part c.in-Goal.cell c.args.stack.now.items c.push-in-Goal.new.self.items c.in-Goal.is c.in_ok-push-in-Goal.ensures.items

pub returns-in-Joint-clause-put : goal.returns-in-Joint-clause-put
returns-in-Joint-clause-put g c =
    on_ok_weaker c.join.result (joint-put c.args.terms.now c.args.part c.requires.part c.in-Joint.name _ _ c.in-Joint.is) c.join.ensures.put

pub returns-in_ok-push-in-Goal-clause-grown : goal.returns-in_ok-push-in-Goal-clause-grown
returns-in_ok-push-in-Goal-clause-grown g c = grown-itself c.args.terms.now c.requires.terms

pub returns-in_ok-push-in-Integer-clause-grown : goal.returns-in_ok-push-in-Integer-clause-grown
returns-in_ok-push-in-Integer-clause-grown g c = grown-itself c.args.terms.now c.requires.terms
