use Rattle.std.proofs.Common.{◌≡◌}
use Rattle.std.specs.Io.KnownBytes.{Keeps}
use Rattle.prolog_session.proofs.standard.StdSinkSink.write.Given as goal

abbrev pub invariant-loop : goal.invariant-loop
invariant-loop g l = (l.self-inside.faults ≡ l.fn.self.faults)
    × Keeps (g.O.Write.contents l.fn.self.device) (g.O.Write.contents l.self-inside.writer)
