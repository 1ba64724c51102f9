use Rattle.std.proofs.Common.{◌≡◌, drop}
use Rattle.std.specs.List.{list_all}
use Rattle.prolog_session.specs.Words.{is_digit, value_after, value_of}
use Rattle.prolog_session.proofs.words.steps.Given as goal

abbrev pub invariant-loop-byte : goal.invariant-loop-byte
invariant-loop-byte l = record {
  value : value_after l.value (drop l.byte-index l.word) ≡ value_of l.word;
  digits : list_all is_digit (drop l.byte-index l.word) ≡ list_all is_digit l.word;
}
