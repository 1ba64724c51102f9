use Rattle.prolog_writer.specs.declared.shape.Place.TheVariants.{Within}
use Rattle.prolog_writer.specs.Pieces.{pieces}
use Rattle.prolog_writer.specs.Tokens.{lexemes}
use Rattle.prolog_writer.proofs.Spelled.{term_spelled}
use Rattle.prolog_writer.proofs.reading_again.terms_have_tokens.Goals as goal

pub returns : goal.returns
returns c = λ o s max t q h. c.texts_have_tokens.ensures (pieces o s (Within max) t) (lexemes o s (Within max) t) (term_spelled o s (Within max) t q h)
