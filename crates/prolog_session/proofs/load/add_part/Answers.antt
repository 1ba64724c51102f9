use Rattle.std.proofs.Common.{refl}
use Rattle.prolog_session.proofs.Takings.{takes_clause, takes_operators, takes_kept, takes_nothing, takes_raises}
use Rattle.prolog_session.proofs.load.add_part.Goals as goal

pub returns-in_ok-add_run-in-Clause : goal.returns-in_ok-add_run-in-Clause
returns-in_ok-add_run-in-Clause g c =
    rw c.in-Clause.is (takes_clause c.args.steps c.args.load _ _ _ _ _ _ c.in_ok-fits-in-Clause.ensures c.in_ok-add_run-in-Clause.ensures c.in_ok-at-in-Clause.ensures refl refl)

pub returns-in_ok-add_operators-in-Operators : goal.returns-in_ok-add_operators-in-Operators
returns-in_ok-add_operators-in-Operators g c =
    rw c.in-Operators.is (takes_operators c.args.steps c.args.load _ _ _ refl c.in_ok-add_operators-in-Operators.ensures.table c.in_ok-add_operators-in-Operators.ensures.runs refl)

pub returns-in_ok-push-in-Kept : goal.returns-in_ok-push-in-Kept
returns-in_ok-push-in-Kept g c = rw c.in-Kept.is (takes_kept c.args.steps c.args.load _ _ refl refl refl c.in_ok-push-in-Kept.ensures)

pub returns-in-Nothing : goal.returns-in-Nothing
returns-in-Nothing g c = rw c.in-Nothing.is (takes_nothing c.args.steps c.args.load)

pub returns-in_ok-push-in-Raises : goal.returns-in_ok-push-in-Raises
returns-in_ok-push-in-Raises g c =
    rw c.in-Raises.is (takes_raises c.args.steps c.args.load _ _ _ _ _ refl refl c.in_ok-push-in-Raises.ensures c.in_ok-raised-in-Raises.ensures refl)

pub returns-in_ok-add_dynamics-in-Procedures : goal.returns-in_ok-add_dynamics-in-Procedures
returns-in_ok-add_dynamics-in-Procedures g c = rw c.in-Procedures.is (c.in_ok-add_dynamics-in-Procedures.ensures c.args.steps)
