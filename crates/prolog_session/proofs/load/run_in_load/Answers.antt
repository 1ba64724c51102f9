use Rattle.prolog_session.proofs.Takings.{goal_added, goal_stays}
use Rattle.prolog_session.proofs.load.run_in_load.Goals as goal

pub returns-clause-base : goal.returns-clause-base
returns-clause-base g c = goal_stays _ _ _ _ _ _ _ c.in_ok-ran.ensures.run

pub returns-clause-run : goal.returns-clause-run
returns-clause-run g c =
    goal_added c.args.ops c.args.base c.in_ok-ran.ran.base c.args.steps c.args.runs.now c.push.new.self c.args.goal.now c.in_ok-ran.ran.run c.requires.base c.in_ok-ran.ensures.run c.in_ok-push.ensures
