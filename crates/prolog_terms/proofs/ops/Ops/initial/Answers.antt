use Rattle.std.proofs.Common.{subst, sym}
use Rattle.prolog_terms.specs.Operators.{IsTable, first}
use Rattle.prolog_terms.proofs.ops.Ops.initial.Goals as goal

pub invariant_of-result : goal.invariant_of-result
invariant_of-result c = subst IsTable (sym c.in_ok-initial.ensures) first
