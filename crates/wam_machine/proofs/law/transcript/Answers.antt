use Rattle.std.proofs.Common.{arith}
use Rattle.wam_machine.proofs.Laws.{Runs-one, Runs-within}
use Rattle.wam_machine.proofs.Settles.{has_transcript}
use Rattle.wam_machine.proofs.WellMade.{goals_are_bodies}
use Rattle.wam_machine.proofs.law.transcript.Goals as goal

pub returns-clause-one : goal.returns-clause-one
returns-clause-one c = λ x goal fronts r q h k. Runs-one x r q h.runs k.runs

pub returns-clause-within : goal.returns-clause-within
returns-clause-within c = λ x goal fronts r h. Runs-within x h.runs (omega arith)

pub returns-clause-total : goal.returns-clause-total
returns-clause-total c = has_transcript

pub returns-clause-goals : goal.returns-clause-goals
returns-clause-goals c = goals_are_bodies
