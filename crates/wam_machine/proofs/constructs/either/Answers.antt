use Rattle.std.proofs.Common.{[], ◌∷◌, ◌++◌, refl, ap, ◌∙◌}
use Rattle.wam_machine.specs.States.{Do, Right}
use Rattle.wam_machine.specs.Terms.{Saved, Said, OfRight, said, built, calls_in}
use Rattle.wam_machine.specs.declared.state.Machine.{Machine}
use Rattle.wam_machine.proofs.Acted.{acts-pushed, said-saved, said-put, cells-on, on_ok, calls-beside}
use Rattle.wam_machine.proofs.Told.{err_weaker}
use Rattle.wam_machine.proofs.constructs.either.Goals as goal

pub returns-clause-acts : goal.returns-clause-acts
returns-clause-acts g c =
    let m = c.args.machine.now in
    let n : Machine _ = record m { terms = c.push_next.new.terms } in
    let o = said m.terms in
    let left = ((cells-on m.terms c.make_place.new.terms c.save.new.terms c.make_place.ensures.cells c.save.ensures.cells) c.args.left c.requires.left.built_is).1 in
    let right = (c.make_place.ensures.cells c.args.right c.requires.right.built_is).1 in
    let s : Saved _ = record { turn = OfRight (built m.terms c.args.right) c.args.cut; goals = o.goals; bindings = o.bindings } in
    let saved = said-saved o (said c.make_place.new.terms) (said c.save.new.terms) (OfRight (built c.make_place.new.terms c.args.right) c.args.cut) (OfRight (built m.terms c.args.right) c.args.cut)
    c.make_place.ensures.said (ap (λ t. OfRight t c.args.cut) right) c.save.ensures.said in
    on_ok c.push_next.result _ _
    (λ h. acts-pushed m n c.push_next.ensures.terms refl s (Right (built m.terms c.args.right) c.args.cut) refl (λ rest at j. refl) refl refl (λ _. Do (built m.terms c.args.left) c.args.cut ∷ []) refl
    (said-put (said c.save.new.terms) (record o { stack = o.stack ++ s ∷ [] }) (said n.terms) (Do (built c.save.new.terms c.args.left) c.args.cut) (Do (built m.terms c.args.left) c.args.cut)
    saved (ap (λ t. Do t c.args.cut) left) h))
    c.push_next.ensures.said

pub returns-clause-err : goal.returns-clause-err
returns-clause-err g c =
    let m = c.args.machine.now in
    let o = said m.terms in
    let right = (c.make_place.ensures.cells c.args.right c.requires.right.built_is).1 in
    let s : Saved _ = record { turn = OfRight (built m.terms c.args.right) c.args.cut; goals = o.goals; bindings = o.bindings } in
    let saved = said-saved o (said c.make_place.new.terms) (said c.save.new.terms) (OfRight (built c.make_place.new.terms c.args.right) c.args.cut) (OfRight (built m.terms c.args.right) c.args.cut)
    c.make_place.ensures.said (ap (λ t. OfRight t c.args.cut) right) c.save.ensures.said in
    err_weaker c.push_next.result _ _ (λ h. ap (λ (t : Said _). calls_in t.stack) (h ∙ saved) ∙ calls-beside o.stack s refl) c.push_next.ensures.err
