use Rattle.prolog_writer.proofs.Understood.{term_read}
use Rattle.prolog_writer.proofs.reading_again.terms_read.Goals as goal

pub returns : goal.returns
returns c = term_read
