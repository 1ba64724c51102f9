use Rattle.std.proofs.Common.{vec_len, ◌-◌, ◌+◌, ◌≤◌}
use Rattle.std.specs.Io.KnownBytes.{Consumes}
use Rattle.prolog_session.proofs.reading.read_all.Given as goal

abbrev pub invariant-loop-piece : goal.invariant-loop-piece
invariant-loop-piece g l = (g.S.Source.faults l.fn.source ≤ g.S.Source.faults l.source)
    × Consumes (g.S.Source.left l.fn.source) (g.S.Source.left l.source) l.text.items

abbrev pub decreases-loop-piece : goal.decreases-loop-piece
decreases-loop-piece g l = 67_108_864 + 1 - vec_len l.text
