use Rattle.wam_machine.proofs.Walked.{by_walk}
use Rattle.wam_machine.proofs.law.bodies_by_walk.Goals as goal

pub returns : goal.returns
returns c = by_walk
