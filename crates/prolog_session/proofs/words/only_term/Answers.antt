use Rattle.prolog_lexer.specs.Streams.{ahead}
use Rattle.prolog_session.proofs.OneTerm.{said-nothing, said-refused, said-term, first-nothing, first-refused, second-nothing, second-term, second-refused}
use Rattle.prolog_session.proofs.words.only_term.Goals as goal

pub returns-in-End-clause-none : goal.returns-in-End-clause-none
returns-in-End-clause-none c =
    first-nothing c.args.ops.now (ahead c.new-lexer.result) c.args.text.now c.requires c.new-lexer.ensures.tokens
    (said-nothing _ _ c.in_ok-read.ensures.read c.in-End.is)

pub returns-in-Refused-clause-none : goal.returns-in-Refused-clause-none
returns-in-Refused-clause-none c =
    first-refused c.args.ops.now (ahead c.new-lexer.result) c.args.text.now _ _ c.requires c.new-lexer.ensures.tokens
    (said-refused _ _ _ _ c.in_ok-read.ensures.read c.in-Refused.is)

pub returns-in-End-2-clause-some : goal.returns-in-End-2-clause-some
returns-in-End-2-clause-some c =
    second-nothing c.args.ops.now (ahead c.new-lexer.result) (ahead c.read_term.new.lexer) c.args.text.now _ _ c.requires c.new-lexer.ensures.tokens
    (said-term _ _ _ c.in_ok-read.ensures.read c.in-Term.is) c.in_ok-read.ensures.rest
    (said-nothing _ _ c.in_ok-read_term.ensures.read c.in-End-2.is)

pub returns-in-Term-2-clause-none : goal.returns-in-Term-2-clause-none
returns-in-Term-2-clause-none c =
    second-term c.args.ops.now (ahead c.new-lexer.result) (ahead c.read_term.new.lexer) c.args.text.now _ _ _ _ c.requires c.new-lexer.ensures.tokens
    (said-term _ _ _ c.in_ok-read.ensures.read c.in-Term.is) c.in_ok-read.ensures.rest
    (said-term _ _ _ c.in_ok-read_term.ensures.read c.in-Term-2.is)

pub returns-in-Refused-2-clause-none : goal.returns-in-Refused-2-clause-none
returns-in-Refused-2-clause-none c =
    second-refused c.args.ops.now (ahead c.new-lexer.result) (ahead c.read_term.new.lexer) c.args.text.now _ _ _ _ c.requires c.new-lexer.ensures.tokens
    (said-term _ _ _ c.in_ok-read.ensures.read c.in-Term.is) c.in_ok-read.ensures.rest
    (said-refused _ _ _ _ c.in_ok-read_term.ensures.read c.in-Refused-2.is)
