use Rattle.wam_machine.specs.Terms.{said}
use Rattle.wam_machine.proofs.shown.values.Goals as goal

pub returns : goal.returns
unfolding said
returns g c = c.read_back.ensures
