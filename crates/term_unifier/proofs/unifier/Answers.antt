use Rattle.term_unifier.proofs.Known.{mgu-IsUnifier}
use Rattle.term_unifier.proofs.Unique.{mgu-one_function}
use Rattle.term_unifier.proofs.unifier.Goals as goal

pub returns-clause-meets : goal.returns-clause-meets
returns-clause-meets c = mgu-IsUnifier

pub returns-clause-one : goal.returns-clause-one
returns-clause-one c = mgu-one_function
