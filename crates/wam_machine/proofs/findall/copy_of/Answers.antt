use Rattle.wam_machine.specs.Terms.{IsBuilt, built}
use Rattle.wam_machine.proofs.findall.copy_of.Goals as goal

pub read_back-requires-clause-valid : goal.read_back-requires-clause-valid
unfolding IsBuilt
read_back-requires-clause-valid g c = c.requires.cell

pub returns : goal.returns
unfolding built
returns g c = c.read_back.ensures
