use Rattle.index_trees.proofs.Lawfully.{built_lawful, later}
use Rattle.index_trees.proofs.law.built_images_are_lawful.Goals as goal

pub returns-clause-lawful : goal.returns-clause-lawful
returns-clause-lawful c = λ words J m pattern made is small marks built. (built_lawful words J m pattern made is small marks built, built.size)

pub returns-clause-later : goal.returns-clause-later
returns-clause-later c = later
