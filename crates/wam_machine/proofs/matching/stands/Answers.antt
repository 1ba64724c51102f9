use Rattle.wam_machine.proofs.Begins.{grows_refl}
use Rattle.wam_machine.proofs.matching.stands.Goals as goal

pub returns : goal.returns
returns g c = grows_refl (g.B.Base.view c.args.base.now) c.front-front.ensures.sound
