use Rattle.prolog_writer.proofs.Numbered.{term_numbered, count_is, shown_is}
use Rattle.prolog_writer.proofs.reading_again.variables_are_numbered.Goals as goal

pub returns : goal.returns
returns c = record { terms = term_numbered; count = count_is; shown = shown_is }
