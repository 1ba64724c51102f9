use Rattle.prolog_writer.proofs.Examples.{has_rows}
use Rattle.prolog_writer.proofs.law.rows.Goals as goal

pub returns : goal.returns
returns c = has_rows
