use Rattle.term_unifier.proofs.Known.{unifier-IsUnifier, unifier-same}
use Rattle.term_unifier.proofs.Pairs.{in_turn}
use Rattle.term_unifier.proofs.Cases.{decomposition, elimination, younger_to_older, identity, occurs_check, clash, symmetry, idempotence}
use Rattle.term_unifier.proofs.law.laws.Goals as goal

pub returns-clause-most_general : goal.returns-clause-most_general
returns-clause-most_general c = unifier-IsUnifier

pub returns-clause-decomposition : goal.returns-clause-decomposition
returns-clause-decomposition c = decomposition

pub returns-clause-in_turn : goal.returns-clause-in_turn
returns-clause-in_turn c = in_turn

pub returns-clause-same_unifiers : goal.returns-clause-same_unifiers
returns-clause-same_unifiers c = unifier-same

pub returns-clause-elimination : goal.returns-clause-elimination
returns-clause-elimination c = elimination

pub returns-clause-younger_to_older : goal.returns-clause-younger_to_older
returns-clause-younger_to_older c = younger_to_older

pub returns-clause-identity : goal.returns-clause-identity
returns-clause-identity c = identity

pub returns-clause-occurs_check : goal.returns-clause-occurs_check
returns-clause-occurs_check c = occurs_check

pub returns-clause-clash : goal.returns-clause-clash
returns-clause-clash c = clash

pub returns-clause-symmetry : goal.returns-clause-symmetry
returns-clause-symmetry c = symmetry

pub returns-clause-idempotence : goal.returns-clause-idempotence
returns-clause-idempotence c = idempotence
