use Rattle.std.proofs.Common.{suc, length, [], ◌∷◌, ◌++◌, refl, ap, ap₂, ◌∙◌}
use Rattle.wam_machine.specs.States.{Do, ConditionEnd, Right}
use Rattle.wam_machine.specs.Terms.{Saved, Said, OfRight, said, built, calls_in}
use Rattle.wam_machine.proofs.Acted.{acts-pushed, said-saved, said-put, cells-on, on_ok, calls-beside, higher}
use Rattle.wam_machine.proofs.Told.{at_err, err_weaker}
use Rattle.wam_machine.proofs.constructs.if_else.Goals as goal

pub returns-in_err-push_next-clause-err : goal.returns-in_err-push_next-clause-err
returns-in_err-push_next-clause-err g c =
    let m = c.args.machine.now in
    let o = said m.terms in
    let other = (c.make_place.ensures.cells c.args.other c.requires.other.built_is).1 in
    let s : Saved _ = record { turn = OfRight (built m.terms c.args.other) c.args.cut; goals = o.goals; bindings = o.bindings } in
    let saved = said-saved o (said c.make_place.new.terms) (said c.save.new.terms) (OfRight (built c.make_place.new.terms c.args.other) c.args.cut) (OfRight (built m.terms c.args.other) c.args.cut)
    c.make_place.ensures.said (ap (λ t. OfRight t c.args.cut) other) c.save.ensures.said in
    at_err c.from_residual-in_err-push_next.result _ (ap (λ (t : Said _). calls_in t.stack) (c.in_err-push_next.ensures.err ∙ saved) ∙ calls-beside o.stack s refl)

pub returns-in_err-push_next-2-clause-err : goal.returns-in_err-push_next-2-clause-err
returns-in_err-push_next-2-clause-err g c =
    let m = c.args.machine.now in
    let o = said m.terms in
    let other = (c.make_place.ensures.cells c.args.other c.requires.other.built_is).1 in
    let s : Saved _ = record { turn = OfRight (built m.terms c.args.other) c.args.cut; goals = o.goals; bindings = o.bindings } in
    let saved = said-saved o (said c.make_place.new.terms) (said c.save.new.terms) (OfRight (built c.make_place.new.terms c.args.other) c.args.cut) (OfRight (built m.terms c.args.other) c.args.cut)
    c.make_place.ensures.said (ap (λ t. OfRight t c.args.cut) other) c.save.ensures.said in
    let one = ap (λ (t : Said _). calls_in t.stack) c.in_ok-push_next.ensures.said in
    at_err c.from_residual-in_err-push_next-2.result _
    (ap (λ (t : Said _). calls_in t.stack) c.in_err-push_next-2.ensures.err ∙ one ∙ ap (λ (t : Said _). calls_in t.stack) saved ∙ calls-beside o.stack s refl)

pub returns-clause-acts : goal.returns-clause-acts
returns-clause-acts g c =
    let m = c.args.machine.now in
    let sv = c.save.new.terms in
    let t1 = c.push_next.new.terms in
    let t2 = c.push_next-2.new.terms in
    let t3 = c.push_next-3.new.terms in
    let o = said m.terms in
    let before = c.height-before.result in
    let h = length o.stack in
    let other = (c.make_place.ensures.cells c.args.other c.requires.other.built_is).1 in
    let s : Saved _ = record { turn = OfRight (built m.terms c.args.other) c.args.cut; goals = o.goals; bindings = o.bindings } in
    let saved = said-saved o (said c.make_place.new.terms) (said sv) (OfRight (built c.make_place.new.terms c.args.other) c.args.cut) (OfRight (built m.terms c.args.other) c.args.cut)
    c.make_place.ensures.said (ap (λ t. OfRight t c.args.cut) other) c.save.ensures.said in
    let within = higher o (said sv) s c.height-within.result c.height-within.ensures saved in
    let to_saved = cells-on m.terms c.make_place.new.terms sv c.make_place.ensures.cells c.save.ensures.cells in
    let then_is = (to_saved c.args.then c.requires.then.built_is).1 in
    let then_ = Do (built m.terms c.args.then) c.args.cut in
    let cond = (cells-on m.terms t1 t2 (cells-on m.terms sv t1 to_saved c.in_ok-push_next.ensures.cells) c.in_ok-push_next-2.ensures.cells c.args.condition c.requires.condition.built_is).1 in
    let one = said-put (said sv) (record o { stack = o.stack ++ s ∷ [] }) (said t1) (Do (built sv c.args.then) c.args.cut) then_ saved (ap (λ t. Do t c.args.cut) then_is) c.in_ok-push_next.ensures.said in
    let two = said-put (said t1) (record o { goals = then_ ∷ o.goals; stack = o.stack ++ s ∷ [] }) (said t2) (ConditionEnd before) (ConditionEnd h)
    one (ap ConditionEnd c.height-before.ensures) c.in_ok-push_next-2.ensures.said in
    on_ok c.push_next-3.result _ _
    (λ is. acts-pushed m (record m { terms = t3 }) c.push_next-3.ensures.terms refl s (Right (built m.terms c.args.other) c.args.cut) refl (λ rest at j. refl) refl refl
    (λ k. Do (built m.terms c.args.condition) (suc k) ∷ ConditionEnd k ∷ then_ ∷ []) refl
    (said-put (said t2) (record o { goals = ConditionEnd h ∷ then_ ∷ o.goals; stack = o.stack ++ s ∷ [] }) (said t3) (Do (built t2 c.args.condition) c.height-within.result) (Do (built m.terms c.args.condition) (suc h))
    two (ap₂ Do cond within) is))
    c.push_next-3.ensures.said

pub returns-clause-err : goal.returns-clause-err
returns-clause-err g c =
    let m = c.args.machine.now in
    let o = said m.terms in
    let other = (c.make_place.ensures.cells c.args.other c.requires.other.built_is).1 in
    let s : Saved _ = record { turn = OfRight (built m.terms c.args.other) c.args.cut; goals = o.goals; bindings = o.bindings } in
    let saved = said-saved o (said c.make_place.new.terms) (said c.save.new.terms) (OfRight (built c.make_place.new.terms c.args.other) c.args.cut) (OfRight (built m.terms c.args.other) c.args.cut)
    c.make_place.ensures.said (ap (λ t. OfRight t c.args.cut) other) c.save.ensures.said in
    let one = ap (λ (t : Said _). calls_in t.stack) c.in_ok-push_next.ensures.said in
    let two = ap (λ (t : Said _). calls_in t.stack) c.in_ok-push_next-2.ensures.said in
    err_weaker c.push_next-3.result _ _
    (λ h. ap (λ (t : Said _). calls_in t.stack) h ∙ two ∙ one ∙ ap (λ (t : Said _). calls_in t.stack) saved ∙ calls-beside o.stack s refl) c.push_next-3.ensures.err
