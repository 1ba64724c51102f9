use Rattle.std.proofs.Common.{suc, length, [], ◌∷◌, ◌++◌, refl, ap, ap₂, ◌∙◌}
use Rattle.prolog_terms.specs.Tree.{Tree}
use Rattle.wam_machine.specs.States.{Do, CatchEnd, CatchMark}
use Rattle.wam_machine.specs.Terms.{Saved, Said, OfCatch, said, built, calls_in}
use Rattle.wam_machine.proofs.Acted.{acts-pushed, said-saved, said-put, cells-on, on_ok, calls-beside, higher}
use Rattle.wam_machine.proofs.Told.{at_err, err_weaker}
use Rattle.wam_machine.proofs.constructs.catch_body.Goals as goal

pub returns-in_err-push_next-clause-err : goal.returns-in_err-push_next-clause-err
returns-in_err-push_next-clause-err g c =
    let m = c.args.machine.now in
    let o = said m.terms in
    let p = c.make_place.new.terms in
    let turn = OfCatch (built m.terms c.args.catcher) (built m.terms c.args.recovery) in
    let s : Saved _ = record { turn = turn; goals = o.goals; bindings = o.bindings } in
    let same = ap₂ (λ (x y : Tree). OfCatch x y) (c.make_place.ensures.cells c.args.catcher c.requires.catcher).1 (c.make_place.ensures.cells c.args.recovery c.requires.recovery).1 in
    let saved = said-saved o (said p) (said c.save.new.terms) (OfCatch (built p c.args.catcher) (built p c.args.recovery)) turn c.make_place.ensures.said same c.save.ensures.said in
    at_err c.from_residual-in_err-push_next.result _ (ap (λ (t : Said _). calls_in t.stack) (c.in_err-push_next.ensures.err ∙ saved) ∙ calls-beside o.stack s refl)

pub returns-clause-acts : goal.returns-clause-acts
returns-clause-acts g c =
    let m = c.args.machine.now in
    let p = c.make_place.new.terms in
    let sv = c.save.new.terms in
    let t1 = c.push_next.new.terms in
    let t2 = c.push_next-2.new.terms in
    let o = said m.terms in
    let h = length o.stack in
    let turn = OfCatch (built m.terms c.args.catcher) (built m.terms c.args.recovery) in
    let s : Saved _ = record { turn = turn; goals = o.goals; bindings = o.bindings } in
    let same = ap₂ (λ (x y : Tree). OfCatch x y) (c.make_place.ensures.cells c.args.catcher c.requires.catcher).1 (c.make_place.ensures.cells c.args.recovery c.requires.recovery).1 in
    let saved = said-saved o (said p) (said sv) (OfCatch (built p c.args.catcher) (built p c.args.recovery)) turn c.make_place.ensures.said same c.save.ensures.said in
    let within = higher o (said sv) s c.height-within.result c.height-within.ensures saved in
    let made = (cells-on m.terms sv t1 (cells-on m.terms p sv c.make_place.ensures.cells c.save.ensures.cells) c.in_ok-push_next.ensures.cells c.args.made c.requires.made.built_is).1 in
    let one = said-put (said sv) (record o { stack = o.stack ++ s ∷ [] }) (said t1) (CatchEnd c.height-within.result) (CatchEnd (suc h)) saved (ap CatchEnd within) c.in_ok-push_next.ensures.said in
    on_ok c.push_next-2.result _ _
    (λ is. acts-pushed m (record m { terms = t2 }) c.push_next-2.ensures.terms refl s (CatchMark (built m.terms c.args.catcher) (built m.terms c.args.recovery)) refl (λ rest at j. refl) refl refl
    (λ k. Do (built m.terms c.args.made) (suc k) ∷ CatchEnd (suc k) ∷ []) refl
    (said-put (said t1) (record o { goals = CatchEnd (suc h) ∷ o.goals; stack = o.stack ++ s ∷ [] }) (said t2) (Do (built t1 c.args.made) c.height-within.result) (Do (built m.terms c.args.made) (suc h))
    one (ap₂ Do made within) is))
    c.push_next-2.ensures.said

pub returns-clause-err : goal.returns-clause-err
returns-clause-err g c =
    let m = c.args.machine.now in
    let o = said m.terms in
    let p = c.make_place.new.terms in
    let turn = OfCatch (built m.terms c.args.catcher) (built m.terms c.args.recovery) in
    let s : Saved _ = record { turn = turn; goals = o.goals; bindings = o.bindings } in
    let same = ap₂ (λ (x y : Tree). OfCatch x y) (c.make_place.ensures.cells c.args.catcher c.requires.catcher).1 (c.make_place.ensures.cells c.args.recovery c.requires.recovery).1 in
    let saved = said-saved o (said p) (said c.save.new.terms) (OfCatch (built p c.args.catcher) (built p c.args.recovery)) turn c.make_place.ensures.said same c.save.ensures.said in
    let one = ap (λ (t : Said _). calls_in t.stack) c.in_ok-push_next.ensures.said in
    err_weaker c.push_next-2.result _ _ (λ h. ap (λ (t : Said _). calls_in t.stack) h ∙ one ∙ ap (λ (t : Said _). calls_in t.stack) saved ∙ calls-beside o.stack s refl) c.push_next-2.ensures.err
