use Rattle.std.proofs.Common.{refl, subst, ap, List}
use Rattle.term_store.specs.Terms.{trees_of}
use Rattle.wam_machine.specs.Called.{IsRowCalled}
use Rattle.wam_machine.specs.Terms.{Saved, said, built, calls_in}
use Rattle.wam_machine.specs.declared.builtins.Called.{Called}
use Rattle.wam_machine.specs.declared.state.Machine.{Machine}
use Rattle.wam_machine.specs.declared.state.Mode.TheVariants.{Failing as IsFailing, Raising as RaisingBall}
use Rattle.wam_machine.proofs.ActedRows.{acts-called, row-keeps}
use Rattle.wam_machine.proofs.Told.{at_err}
use Rattle.wam_machine.proofs.constructs.builtin.Goals as goal

pub returns-in-Yes-clause-acts : goal.returns-in-Yes-clause-acts
returns-in-Yes-clause-acts g c =
    let m = c.args.machine.now in
    let t1 = c.call_row.new.terms in
    let n : Machine _ = record m { terms = t1 } in
    let args = trees_of (built m.terms) c.args.args.now in
    acts-called c.args.ops.now m n c.args.row args _ c.in_ok-call_row.ensures.terms refl
    (subst (λ (d : Called). IsRowCalled c.args.ops.now c.args.row args (said m.terms) (said t1) d) c.in-Yes.is c.in_ok-call_row.ensures.called) refl refl

pub returns-in-No-clause-acts : goal.returns-in-No-clause-acts
returns-in-No-clause-acts g c =
    let m = c.args.machine.now in
    let t1 = c.call_row.new.terms in
    let n : Machine _ = record m { mode = IsFailing; terms = t1 } in
    let args = trees_of (built m.terms) c.args.args.now in
    acts-called c.args.ops.now m n c.args.row args _ c.in_ok-call_row.ensures.terms refl
    (subst (λ (d : Called). IsRowCalled c.args.ops.now c.args.row args (said m.terms) (said t1) d) c.in-No.is c.in_ok-call_row.ensures.called) refl refl

pub returns-in-Ball-clause-acts : goal.returns-in-Ball-clause-acts
returns-in-Ball-clause-acts g c =
    let m = c.args.machine.now in
    let t1 = c.call_row.new.terms in
    let n : Machine _ = record m { mode = RaisingBall c.in-Ball.ball; terms = t1 } in
    let args = trees_of (built m.terms) c.args.args.now in
    acts-called c.args.ops.now m n c.args.row args _ c.in_ok-call_row.ensures.terms refl
    (subst (λ (d : Called). IsRowCalled c.args.ops.now c.args.row args (said m.terms) (said t1) d) c.in-Ball.is c.in_ok-call_row.ensures.called) refl refl

pub returns-in_ok-push-in-Wrote-clause-acts : goal.returns-in_ok-push-in-Wrote-clause-acts
returns-in_ok-push-in-Wrote-clause-acts g c =
    let m = c.args.machine.now in
    let t1 = c.call_row.new.terms in
    let n : Machine _ = record m { terms = t1; events = c.push.new.self } in
    let args = trees_of (built m.terms) c.args.args.now in
    acts-called c.args.ops.now m n c.args.row args _ c.in_ok-call_row.ensures.terms refl
    (subst (λ (d : Called). IsRowCalled c.args.ops.now c.args.row args (said m.terms) (said t1) d) c.in-Wrote.is c.in_ok-call_row.ensures.called) refl
    c.in_ok-push-in-Wrote.ensures.items

pub returns-in_err-push-in-Wrote-clause-err : goal.returns-in_err-push-in-Wrote-clause-err
returns-in_err-push-in-Wrote-clause-err g c =
    let m = c.args.machine.now in
    let t1 = c.call_row.new.terms in
    let args = trees_of (built m.terms) c.args.args.now in
    at_err c.from_residual-in_err-push-in-Wrote.result _
    (ap (λ (ss : List (Saved _)). calls_in ss)
    (row-keeps c.args.ops.now (said m.terms) (said t1) c.args.row args c.in_ok-call_row.field-0 c.in_ok-call_row.ensures.called).1)
