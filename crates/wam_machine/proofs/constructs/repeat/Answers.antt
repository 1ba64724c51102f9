use Rattle.std.proofs.Common.{[], refl}
use Rattle.wam_machine.specs.States.{Again}
use Rattle.wam_machine.specs.Terms.{Saved, OfRepeat, said}
use Rattle.wam_machine.specs.declared.state.Machine.{Machine}
use Rattle.wam_machine.proofs.Acted.{acts-pushed, said-saved}
use Rattle.wam_machine.proofs.constructs.repeat.Goals as goal

pub returns-clause-acts : goal.returns-clause-acts
returns-clause-acts g c =
    let m = c.args.machine.now in
    let n : Machine _ = record m { terms = c.save.new.terms } in
    let s : Saved _ = record { turn = OfRepeat; goals = (said m.terms).goals; bindings = (said m.terms).bindings } in
    acts-pushed m n c.save.ensures.terms refl s Again refl (λ rest at j. refl) refl refl (λ h. []) refl
    (said-saved (said m.terms) (said c.make_place.new.terms) (said n.terms) OfRepeat OfRepeat c.make_place.ensures.said refl c.save.ensures.said)
