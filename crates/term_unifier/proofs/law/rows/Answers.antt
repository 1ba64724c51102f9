use Rattle.term_unifier.proofs.Examples.{has_rows}
use Rattle.term_unifier.proofs.law.rows.Goals as goal

pub returns : goal.returns
returns c = has_rows
