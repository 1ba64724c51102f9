use Rattle.std.proofs.Common.{◌≡◌, length}
use Rattle.std.specs.List.{list_any}
use Rattle.prolog_clauses.specs.Dynamics as spec
use Rattle.prolog_clauses.specs.Procedures.{terms_left, AreLeft}
use Rattle.prolog_clauses.proofs.dynamics.has_unbound.Given as goal

abbrev pub invariant-terms : goal.invariant-terms
invariant-terms l = record {
  left : AreLeft l.form l.left;
  same : list_any spec.is_unbound (terms_left l.form l.left) ≡ list_any spec.is_unbound (terms_left l.form l.nodes);
}

abbrev pub decreases-terms : goal.decreases-terms
decreases-terms l = length l.left
