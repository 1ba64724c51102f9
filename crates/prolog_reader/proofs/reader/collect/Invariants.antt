use Rattle.std.proofs.Common.{◌≡◌, ◌++◌}
use Rattle.prolog_lexer.specs.Streams.{ahead}
use Rattle.prolog_reader.specs.Texts as texts
use Rattle.prolog_reader.proofs.reader.collect.Given as goal

abbrev pub invariant-tokens : goal.invariant-tokens
invariant-tokens l = record {
  tokens : l.tokens.items ++ texts.upto (ahead l.lexer) ≡ l.fn.tokens.items ++ texts.upto (ahead l.fn.lexer);
  ended : texts.tail (ahead l.lexer) ≡ texts.tail (ahead l.fn.lexer);
}

abbrev pub decreases-tokens : goal.decreases-tokens
decreases-tokens l = texts.size (ahead l.lexer)
