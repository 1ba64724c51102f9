use Rattle.std.proofs.Common.{◌++◌, ◌∷◌, [], refl, sym, subst}
use Rattle.std.specs.Prelude.{All}
use Rattle.wam_machine.specs.Cursors.{AreNamed}
use Rattle.wam_machine.specs.States.{Do}
use Rattle.wam_machine.specs.Terms.{OfRight, OfRepeat, built, call_now, turn_now}
use Rattle.wam_machine.specs.View.{setting, calls, turn_calls, IsFronted, Resumes}
use Rattle.wam_machine.specs.declared.state.Machine.{Machine}
use Rattle.wam_machine.specs.declared.terms.Alternative.{Alternative}
use Rattle.wam_machine.proofs.Acted.{acts-onwards}
use Rattle.wam_machine.proofs.Begins.{grows_refl, looks_refl, makes_none, makes_as}
use Rattle.wam_machine.proofs.Resumed.{resumes_call, resumes_acts, counts_same}
use Rattle.wam_machine.proofs.machine.resume.Goals as goal

pub returns-in_err-push_next-in-Right-clause-seen : goal.returns-in_err-push_next-in-Right-clause-seen
returns-in_err-push_next-in-Right-clause-seen g c = grows_refl _ c.requires.sound

pub returns-in_err-repeat-in-Again-clause-seen : goal.returns-in_err-repeat-in-Again-clause-seen
returns-in_err-repeat-in-Again-clause-seen g c = grows_refl _ c.requires.sound

pub returns-in_ok-take-in-Clauses-clause-resumed : goal.returns-in_ok-take-in-Clauses-clause-resumed
returns-in_ok-take-in-Clauses-clause-resumed g c =
    let m = c.args.machine.now in
    let n = c.take.new.machine in
    makes_as _ _ _ _
    (λ made h j b.
    let x = setting c.args.host.now m j in
    subst (λ (a : Alternative _). Resumes g.B.Base.rest g.B.Base.may_visit g.B.Base.looked_at g.B.Base.ahead made x (turn_now m.terms a) m n) (sym c.in-Clauses.is)
    (resumes_call g.B.Base.rest g.B.Base.may_visit g.B.Base.looked_at g.B.Base.ahead x made (call_now m.terms c.in-Clauses.call) m n (h j b)))
    c.in_ok-take-in-Clauses.ensures.tried

pub returns-in_ok-push_next-in-Right-clause-seen : goal.returns-in_ok-push_next-in-Right-clause-seen
returns-in_ok-push_next-in-Right-clause-seen g c = grows_refl _ c.requires.sound

pub returns-in_ok-push_next-in-Right-clause-resumed : goal.returns-in_ok-push_next-in-Right-clause-resumed
returns-in_ok-push_next-in-Right-clause-resumed g c = makes_none _ _ _ (looks_refl _ c.requires.sound) (λ j b.
    let m = c.args.machine.now in
    let x = setting c.args.host.now m j in
    let n : Machine _ = record m { terms = c.push_next.new.terms } in
    let w = built m.terms c.in-Right.goal in
    let e = c.in_ok-push_next-in-Right.ensures in
    subst (λ (a : Alternative _). All (AreNamed g.B.Base.rest g.B.Base.looked_at j) (calls m ++ turn_calls (turn_now m.terms a)) → Resumes g.B.Base.rest g.B.Base.may_visit g.B.Base.looked_at g.B.Base.ahead [] x (turn_now m.terms a) m n) (sym c.in-Right.is)
    (resumes_acts g.B.Base.rest g.B.Base.may_visit g.B.Base.looked_at g.B.Base.ahead x (OfRight w c.in-Right.cut) m n refl
    (acts-onwards m n e.terms refl (λ _. Do w c.in-Right.cut ∷ []) refl e.said)) (c.requires.named j b))

pub returns-in_ok-repeat-in-Again-clause-seen : goal.returns-in_ok-repeat-in-Again-clause-seen
returns-in_ok-repeat-in-Again-clause-seen g c = grows_refl _ c.requires.sound

pub returns-in_ok-repeat-in-Again-clause-resumed : goal.returns-in_ok-repeat-in-Again-clause-resumed
returns-in_ok-repeat-in-Again-clause-resumed g c = makes_none _ _ _ (looks_refl _ c.requires.sound) (λ j b.
    let m = c.args.machine.now in
    let x = setting c.args.host.now m j in
    let n = c.repeat.new.machine in
    subst (λ (a : Alternative _). All (AreNamed g.B.Base.rest g.B.Base.looked_at j) (calls m ++ turn_calls (turn_now m.terms a)) → Resumes g.B.Base.rest g.B.Base.may_visit g.B.Base.looked_at g.B.Base.ahead [] x (turn_now m.terms a) m n) (sym c.in-Again.is)
    (resumes_acts g.B.Base.rest g.B.Base.may_visit g.B.Base.looked_at g.B.Base.ahead x OfRepeat m n refl c.in_ok-repeat-in-Again.ensures.acts) (c.requires.named j b))

pub returns-in_ok-repeat-in-Again-clause-front : goal.returns-in_ok-repeat-in-Again-clause-front
returns-in_ok-repeat-in-Again-clause-front g c =
    subst (λ (m : Machine _). IsFronted (g.B.Base.view c.args.base.now) m.front) (sym c.repeat.ensures.same) c.requires.front

pub returns-in_ok-repeat-in-Again-clause-counts : goal.returns-in_ok-repeat-in-Again-clause-counts
returns-in_ok-repeat-in-Again-clause-counts g c =
    let e = c.in_ok-repeat-in-Again.ensures in
    counts_same c.args.machine.now c.repeat.new.machine e.acts.terms e.acts.shown c.repeat.ensures.same
