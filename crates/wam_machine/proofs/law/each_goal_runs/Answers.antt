use Rattle.wam_machine.proofs.Exists.{each_runs}
use Rattle.wam_machine.proofs.Legal.{legal_bodies}
use Rattle.wam_machine.proofs.law.each_goal_runs.Goals as goal

pub returns-clause-runs : goal.returns-clause-runs
returns-clause-runs c = each_runs

pub returns-clause-legal : goal.returns-clause-legal
returns-clause-legal c = legal_bodies
