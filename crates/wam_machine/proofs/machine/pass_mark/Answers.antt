use Rattle.std.proofs.Common.{◌≡◌, ◌++◌, ◌∷◌, [], List, refl, sym, ap, ◌∙◌, subst}
use Rattle.prolog_terms.specs.Tree.{Tree}
use Rattle.wam_machine.specs.States.{Going}
use Rattle.wam_machine.specs.Machine.{gathered}
use Rattle.wam_machine.specs.Terms.{OfFindall, said, built, saved_now, calls_in}
use Rattle.wam_machine.specs.View.{Acts}
use Rattle.wam_machine.specs.declared.state.Machine.{Machine}
use Rattle.wam_machine.specs.declared.terms.Alternative.{Alternative}
use Rattle.wam_machine.proofs.Acted.{on_ok, calls-beside}
use Rattle.wam_machine.proofs.Told.{err_weaker}
use Rattle.wam_machine.proofs.Resumed.{moment, passed, passed-catch}
use Rattle.wam_machine.proofs.Gathered.{passed-findall}
use Rattle.wam_machine.proofs.machine.pass_mark.Goals as goal

pub returns-in-Some-NotMark : goal.returns-in-Some-NotMark
returns-in-Some-NotMark g c =
    let m = c.args.machine.now in
    let t = c.go_back.new.terms in
    let e = c.in-Some-NotMark.ensures in
    let is = subst (λ (a : Alternative _). (said m.terms).stack ≡ (said t).stack ++ saved_now t a ∷ []) c.in-Some-NotMark.field-0-is e.none in
    record { acts = λ x. passed x m c.requires.failing t e.terms is e.fresh e.shown; err = tt }

pub returns-in-Some-CatchMark : goal.returns-in-Some-CatchMark
returns-in-Some-CatchMark g c =
    let m = c.args.machine.now in
    let t = c.go_back.new.terms in
    let e = c.in-Some-CatchMark.ensures in
    let is = subst (λ (a : Alternative _). (said m.terms).stack ≡ (said t).stack ++ saved_now t a ∷ []) c.in-Some-CatchMark.field-0-is e.none in
    record { acts = λ x. passed-catch x m c.requires.failing t (built t c.in-Some-CatchMark._catcher) (built t c.in-Some-CatchMark._recovery) e.terms is e.fresh e.shown; err = tt }

pub returns-in-Some-FindallMark-clause-acts : goal.returns-in-Some-FindallMark-clause-acts
returns-in-Some-FindallMark-clause-acts g c =
    let m = c.args.machine.now in
    let t = c.go_back.new.terms in
    let n = c.finish.new.machine in
    let a = c.in-Some-FindallMark in
    let is = subst (λ (k : Alternative _). (said m.terms).stack ≡ (said t).stack ++ saved_now t k ∷ []) a.field-0-is a.ensures.none in
    let mid : Machine _ = record m { terms = t } in
    on_ok c.finish.result _ _
    (λ h x. passed-findall m n x t (built t a.list) a.found.items c.requires.failing is a.ensures.fresh a.ensures.shown
    (subst (λ (l : List Tree). Acts (λ s. gathered (built t a.list) l (record s { mode = Going })) mid n) c.as_slice.ensures.value h))
    c.finish.ensures.acts

pub returns-in-Some-FindallMark-clause-err : goal.returns-in-Some-FindallMark-clause-err
returns-in-Some-FindallMark-clause-err g c =
    let m = c.args.machine.now in
    let t = c.go_back.new.terms in
    let a = c.in-Some-FindallMark in
    let is = subst (λ (k : Alternative _). (said m.terms).stack ≡ (said t).stack ++ saved_now t k ∷ []) a.field-0-is a.ensures.none in
    err_weaker c.finish.result _ _
    (λ h. h ∙ sym (ap calls_in is ∙ calls-beside (said t).stack (moment (OfFindall (built t a.list) a.found.items) (said t)) refl)) c.finish.ensures.err
