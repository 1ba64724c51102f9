use Rattle.prolog_lexer.specs.Streams.{ahead}
use Rattle.prolog_reader.specs.Texts.{size}
use Rattle.prolog_session.proofs.Loads.{IsLoading}
use Rattle.prolog_session.proofs.load.load_text.Given as goal

abbrev pub invariant-parts : goal.invariant-parts
invariant-parts g l = IsLoading l.fn.sizes l.fn.steps l.load.base l.load.ops l.load.runs l.load.kept (ahead l.lexer) l.fn.text

abbrev pub decreases-parts : goal.decreases-parts
decreases-parts g l = size (ahead l.lexer)
