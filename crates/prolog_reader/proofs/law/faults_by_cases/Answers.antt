use Rattle.prolog_reader.proofs.Stopping.{stops_read, stops_once}
use Rattle.prolog_reader.proofs.Total.{read_stops}
use Rattle.prolog_reader.proofs.law.faults_by_cases.Goals as goal

pub returns-clause-refused : goal.returns-clause-refused
returns-clause-refused c = stops_read

pub returns-clause-stops : goal.returns-clause-stops
returns-clause-stops c = read_stops

pub returns-clause-once : goal.returns-clause-once
returns-clause-once c = stops_once
