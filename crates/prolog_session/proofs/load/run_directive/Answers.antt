use Rattle.std.proofs.Common.{refl}
use Rattle.prolog_session.proofs.Takings.{takes_goal}
use Rattle.prolog_session.proofs.load.run_directive.Goals as goal

pub returns : goal.returns
returns g c = takes_goal c.args.steps c.args.load _ c.args.goal.now c.in_ok-base.ensures.base c.in_ok-base.ensures.ops c.in_ok-base.ensures.run refl
