use Rattle.std.proofs.Common.{◌≡◌, drop}
use Rattle.prolog_lexer.specs.Pieces as spec
use Rattle.prolog_lexer.proofs.piece.comment.Given as goal

abbrev pub invariant-loop-i : goal.invariant-loop-i
invariant-loop-i l = spec.before_close l.inside ≡ spec.later l.i (spec.before_close (drop l.i l.inside))
