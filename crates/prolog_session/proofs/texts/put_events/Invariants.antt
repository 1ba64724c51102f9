use Rattle.std.proofs.Common.{◌≡◌, drop}
use Rattle.prolog_session.specs.Output.{events_after}
use Rattle.prolog_session.proofs.texts.put_events.Given as goal

abbrev pub invariant-loop-event : goal.invariant-loop-event
invariant-loop-event l = events_after l.ops l.shown l.text.items (drop l.event-index l.events) ≡ events_after l.ops l.shown l.fn.text.items l.events
