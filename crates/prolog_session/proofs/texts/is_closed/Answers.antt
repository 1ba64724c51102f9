use Rattle.std.proofs.Common.{◌≡◌, List, [], ◌∷◌, ◌++◌, refl, sym, ◌∙◌}
use Rattle.wam_machine.specs.declared.run.Event.{Event}
use Rattle.prolog_session.specs.Output.{closes, is_closed}
use Rattle.prolog_session.proofs.texts.is_closed.Goals as goal

-- it looks at the last event alone
is_closed-last : (events : List Event) (event : Event) → is_closed (events ++ event ∷ []) ≡ closes event
is_closed-last [] event = refl
is_closed-last (e ∷ []) event = refl
is_closed-last (e ∷ f ∷ events) event = is_closed-last (f ∷ events) event

pub returns-in-Some : goal.returns-in-Some
returns-in-Some c =
    rw c.in-Some.ensures.cases.0 (c.closes.ensures ∙ sym (is_closed-last c.in-Some.field-0-1.now c.in-Some.event.now))
