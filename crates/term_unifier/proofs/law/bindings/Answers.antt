use Rattle.term_unifier.proofs.Triangular.{IsMostGeneral-resolved, stand}
use Rattle.term_unifier.proofs.Standing.{IsUnifiedBy-step}
use Rattle.term_unifier.proofs.law.bindings.Goals as goal

pub returns-clause-unify : goal.returns-clause-unify
returns-clause-unify c = IsMostGeneral-resolved

pub returns-clause-stand : goal.returns-clause-stand
returns-clause-stand c = stand

pub returns-clause-step : goal.returns-clause-step
returns-clause-step c = IsUnifiedBy-step
