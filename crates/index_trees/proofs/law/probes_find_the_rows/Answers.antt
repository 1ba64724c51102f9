use Rattle.index_trees.proofs.Found.{found_is, found_many, may_probe, name_at}
use Rattle.index_trees.proofs.law.probes_find_the_rows.Goals as goal

pub returns-clause-may_probe : goal.returns-clause-may_probe
returns-clause-may_probe c = may_probe

pub returns-clause-names : goal.returns-clause-names
returns-clause-names c = found_is

pub returns-clause-count : goal.returns-clause-count
returns-clause-count c = found_many

pub returns-clause-each : goal.returns-clause-each
returns-clause-each c = λ ws b k h lt. name_at ws b k lt
