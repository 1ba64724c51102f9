use Rattle.std.proofs.Common.{◌≡◌, drop}
use Rattle.prolog_session.specs.Output.{written_after}
use Rattle.prolog_session.proofs.texts.put_written.Given as goal

abbrev pub invariant-loop-event : goal.invariant-loop-event
invariant-loop-event l = written_after l.text.items (drop l.event-index l.events) ≡ written_after l.fn.text.items l.events
