use Rattle.prolog_lexer.proofs.Fits.{blank_within, ahead_blank, rest_less}
use Rattle.prolog_lexer.proofs.lexer.Lexer.pass.Goals as goal

pub advance-requires : goal.advance-requires
advance-requires c = (blank_within c.args.self.now c.args.len c.requires.some c.requires.blank).1

pub returns-clause-ahead : goal.returns-clause-ahead
returns-clause-ahead c = ahead_blank c.args.self.now c.advance.new.self c.args.len c.requires.some c.requires.blank c.advance.ensures.text c.advance.ensures.at c.advance.ensures.line

pub returns-clause-less : goal.returns-clause-less
returns-clause-less c = rest_less c.args.self.now c.advance.new.self c.args.len c.requires.some c.requires.blank c.advance.ensures.text c.advance.ensures.at
