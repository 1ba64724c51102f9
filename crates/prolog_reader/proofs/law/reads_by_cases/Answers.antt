use Rattle.prolog_reader.proofs.Sound.{read_gives, reads_once, no_reading}
use Rattle.prolog_reader.proofs.Complete.{read_has}
use Rattle.prolog_reader.proofs.law.reads_by_cases.Goals as goal

pub returns-clause-found : goal.returns-clause-found
returns-clause-found c = read_gives

pub returns-clause-had : goal.returns-clause-had
returns-clause-had c = read_has

pub returns-clause-refused : goal.returns-clause-refused
returns-clause-refused c ops ts f q t ws e d = no_reading ops ts f q t ws e d

pub returns-clause-once : goal.returns-clause-once
returns-clause-once c = reads_once
