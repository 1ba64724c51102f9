use Rattle.std.proofs.Common.{◌≡◌, length}
use Rattle.prolog_clauses.specs.Dynamics as spec
use Rattle.prolog_clauses.specs.Procedures.{terms_left, AreLeft}
use Rattle.prolog_clauses.proofs.Indicated.{with_indicators}
use Rattle.prolog_clauses.proofs.dynamics.of_terms.Given as goal

abbrev pub invariant-terms : goal.invariant-terms
invariant-terms l = record {
  left : AreLeft l.form l.left;
  same : with_indicators l.indicators (spec.by_specs (terms_left l.form l.left)) ≡ spec.by_specs (terms_left l.form l.nodes);
}

abbrev pub decreases-terms : goal.decreases-terms
decreases-terms l = length l.left
