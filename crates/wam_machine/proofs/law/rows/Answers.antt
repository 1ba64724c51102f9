use Rattle.wam_machine.proofs.Examples.{has_rows}
use Rattle.wam_machine.proofs.law.rows.Goals as goal

pub returns : goal.returns
returns c = has_rows
