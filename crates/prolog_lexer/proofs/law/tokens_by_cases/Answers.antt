use Rattle.prolog_lexer.proofs.Apart.{tokens_apart}
use Rattle.prolog_lexer.proofs.Complete.{tokens_given, tokens_had, tokens_once}
use Rattle.prolog_lexer.proofs.law.tokens_by_cases.Goals as goal

pub returns-clause-given : goal.returns-clause-given
returns-clause-given c = tokens_given

pub returns-clause-had : goal.returns-clause-had
returns-clause-had c = tokens_had

pub returns-clause-once : goal.returns-clause-once
returns-clause-once c = tokens_once

pub returns-clause-apart : goal.returns-clause-apart
returns-clause-apart c = tokens_apart
