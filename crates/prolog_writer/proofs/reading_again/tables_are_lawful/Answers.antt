use Rattle.prolog_writer.proofs.Tables.{lawful}
use Rattle.prolog_writer.proofs.reading_again.tables_are_lawful.Goals as goal

pub returns : goal.returns
returns c = lawful
