use Rattle.std.proofs.Common.{◌≡◌}
use Rattle.std.specs.Io.KnownBytes.{Keeps}
use Rattle.prolog_session.proofs.standard.StdSourceSource.read.Given as goal

abbrev pub invariant-loop : goal.invariant-loop
invariant-loop g l = (l.self-inside.faults ≡ l.fn.self.faults)
    × Keeps (g.I.Read.remaining l.fn.self.device) (g.I.Read.remaining l.self-inside.reader)
