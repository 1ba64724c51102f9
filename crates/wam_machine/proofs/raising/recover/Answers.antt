use Rattle.std.proofs.Common.{◌≡◌, ◌++◌, ◌∷◌, [], refl, sym, ap, ◌∙◌, subst}
use Rattle.wam_machine.specs.Terms.{OfCatch, said, built, saved_now, calls_in}
use Rattle.wam_machine.specs.declared.terms.Alternative.{Alternative}
use Rattle.wam_machine.proofs.Acted.{on_ok, calls-beside}
use Rattle.wam_machine.proofs.Told.{err_weaker}
use Rattle.wam_machine.proofs.Resumed.{moment}
use Rattle.wam_machine.proofs.BallTerms.{recovered}
use Rattle.wam_machine.proofs.raising.recover.Goals as goal

pub returns-clause-acts : goal.returns-clause-acts
returns-clause-acts g c =
    let m = c.args.machine.now in
    let t = c.go_back.new.terms in
    let n = c.try_catcher.new.machine in
    let a = c.in-Some-CatchMark in
    let is = subst (λ (k : Alternative _). (said m.terms).stack ≡ (said t).stack ++ saved_now t k ∷ []) a.field-0-is a.ensures.none in
    on_ok c.try_catcher.result _ _
    (λ h x ball mode. recovered x m n t ball (built t a.catcher) (built t a.recovery) is a.ensures.fresh a.ensures.shown (h ball mode))
    c.try_catcher.ensures.acts

pub returns-clause-err : goal.returns-clause-err
returns-clause-err g c =
    let m = c.args.machine.now in
    let t = c.go_back.new.terms in
    let a = c.in-Some-CatchMark in
    let is = subst (λ (k : Alternative _). (said m.terms).stack ≡ (said t).stack ++ saved_now t k ∷ []) a.field-0-is a.ensures.none in
    err_weaker c.try_catcher.result _ _
    (λ h. h ∙ sym (ap calls_in is ∙ calls-beside (said t).stack (moment (OfCatch (built t a.catcher) (built t a.recovery)) (said t)) refl)) c.try_catcher.ensures.err
