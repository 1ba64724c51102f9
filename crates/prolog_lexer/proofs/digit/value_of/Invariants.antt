use Rattle.std.proofs.Common.{◌≡◌, ◌≤◌, drop}
use Rattle.prolog_lexer.specs.Digits as spec
use Rattle.prolog_lexer.proofs.digit.value_of.Given as goal

abbrev pub invariant-loop-d : goal.invariant-loop-d
invariant-loop-d l = record { value : spec.value_from l.base l.value (drop l.d-index l.digits) ≡ spec.value_from l.base 0 l.digits; few : l.value ≤ l.most }
