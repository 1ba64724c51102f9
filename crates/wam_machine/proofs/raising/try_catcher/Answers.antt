use Rattle.std.proofs.Common.{◌≡◌, ◌+◌, [], Bool, refl, ap, ◌∙◌, subst}
use Rattle.prolog_terms.specs.Substitutions.{renamed, beyond}
use Rattle.term_unifier.specs.Unifier.{unifier}
use Rattle.wam_machine.specs.Terms.{Said, IsSolved, said, built, calls_in}
use Rattle.wam_machine.specs.declared.state.Machine.{Machine}
use Rattle.wam_machine.specs.declared.state.Mode.TheVariants.{Going as IsGoing}
use Rattle.wam_machine.proofs.Told.{at_err}
use Rattle.wam_machine.proofs.BallTerms.{not_taken, is_taken, bound-built, solved-stack}
use Rattle.wam_machine.proofs.raising.try_catcher.Goals as goal

pub call_goal-requires-clause-goal : goal.call_goal-requires-clause-goal
call_goal-requires-clause-goal g c =
    let m = c.args.machine.now in
    let ball = c.requires.raising in
    let u = unifier (renamed (said m.terms).fresh ball.0) (built m.terms c.args.catcher) in
    bound-built u m.terms c.takes.new.machine.terms c.args.recovery (c.in_ok-takes.ensures.cells ball.0 ball.1) c.requires.recovery

pub returns-in_err-goal-clause-err : goal.returns-in_err-goal-clause-err
returns-in_err-goal-clause-err g c =
    let m = c.args.machine.now in
    let ball = c.requires.raising in
    let u = unifier (renamed (said m.terms).fresh ball.0) (built m.terms c.args.catcher) in
    let solved = solved-stack [] _ _ _ u (c.in_ok-takes.ensures.done ball.0 ball.1) in
    at_err c.from_residual-in_err-goal.result _ (ap calls_in (c.in_err-goal.ensures.err ∙ solved))

pub returns-in_err-push_next-clause-err : goal.returns-in_err-push_next-clause-err
returns-in_err-push_next-clause-err g c =
    let m = c.args.machine.now in
    let ball = c.requires.raising in
    let u = unifier (renamed (said m.terms).fresh ball.0) (built m.terms c.args.catcher) in
    let solved = solved-stack [] _ _ _ u (c.in_ok-takes.ensures.done ball.0 ball.1) in
    at_err c.from_residual-in_err-push_next.result _ (ap calls_in (ap (λ (s : Said _). s.stack) (c.in_err-push_next.ensures.err ∙ c.in_ok-goal.ensures.grown.said_is) ∙ solved))

pub returns-in_ok-push_next-clause-acts : goal.returns-in_ok-push_next-clause-acts
returns-in_ok-push_next-clause-acts g c = λ ball mode.
    let m = c.args.machine.now in
    let k = c.takes.new.machine in
    let t3 = c.push_next.new.terms in
    let n : Machine _ = record k { mode = IsGoing; terms = t3 } in
    let w = built m.terms c.args.catcher in
    let u = unifier (renamed (said m.terms).fresh ball) w in
    let e = c.in_ok-takes.ensures in
    let same : n ≡ record m { mode = IsGoing; terms = t3 } = ap (λ (x : Machine _). let r : Machine _ = record x { mode = IsGoing; terms = t3 } in r) e.same in
    is_taken m n ball w c.args.recovery c.requires.recovery k.terms c.call_goal.new.terms c.in_ok-goal.goal c.height-before.result c.in_ok-push_next.ensures.terms same refl u refl (e.cells ball mode)
    (subst (λ (b : Bool). IsSolved [] (record (said m.terms) { fresh = (said m.terms).fresh + beyond ball }) (said k.terms) b u) c.if-branch.true (e.done ball mode))
    c.in_ok-goal.ensures.grown.said_is c.in_ok-goal.ensures.term c.height-before.ensures c.in_ok-push_next.ensures.said

pub returns-else-branch-clause-acts : goal.returns-else-branch-clause-acts
returns-else-branch-clause-acts g c = λ ball mode.
    let m = c.args.machine.now in
    let k = c.takes.new.machine in
    let w = built m.terms c.args.catcher in
    let u = unifier (renamed (said m.terms).fresh ball) w in
    let e = c.in_ok-takes.ensures in
    not_taken m k ball w (built m.terms c.args.recovery) mode e.terms e.same u refl
    (subst (λ (b : Bool). IsSolved [] (record (said m.terms) { fresh = (said m.terms).fresh + beyond ball }) (said k.terms) b u) c.if-branch.false (e.done ball mode))
