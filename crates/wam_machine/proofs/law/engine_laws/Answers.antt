use Rattle.wam_machine.proofs.Heights.{engine_laws}
use Rattle.wam_machine.proofs.law.engine_laws.Goals as goal

pub returns : goal.returns
returns c = engine_laws
