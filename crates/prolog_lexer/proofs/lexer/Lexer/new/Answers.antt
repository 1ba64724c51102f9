use Rattle.prolog_lexer.specs.Streams.{ahead}
use Rattle.prolog_lexer.proofs.Complete.{tokens_had}
use Rattle.prolog_lexer.proofs.lexer.Lexer.new.Goals as goal

pub returns-clause-cases : goal.returns-clause-cases
unfolding ahead
returns-clause-cases c = tokens_had 0 1 c.args.text.now
