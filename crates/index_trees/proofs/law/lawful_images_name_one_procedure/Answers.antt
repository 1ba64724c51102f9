use Rattle.index_trees.proofs.Named.{named, one_reading}
use Rattle.index_trees.proofs.law.lawful_images_name_one_procedure.Goals as goal

pub returns-clause-names : goal.returns-clause-names
returns-clause-names c = named

pub returns-clause-one : goal.returns-clause-one
returns-clause-one c = one_reading
