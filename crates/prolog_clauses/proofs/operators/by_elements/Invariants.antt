use Rattle.std.proofs.Common.{◌≡◌, length}
use Rattle.prolog_terms.specs.Flat.{tree, HasPrefixOrder}
use Rattle.prolog_clauses.specs.Declarations.{elements, by_elements}
use Rattle.prolog_clauses.proofs.Names.{with_names}
use Rattle.prolog_clauses.proofs.operators.by_elements.Given as goal

abbrev pub invariant-cells : goal.invariant-cells
invariant-cells l = record {
  prefix : HasPrefixOrder l.left;
  same : with_names l.names.items (by_elements l.priority l.kind (elements (tree l.left))) ≡ by_elements l.priority l.kind (elements (tree l.list));
}

abbrev pub decreases-cells : goal.decreases-cells
decreases-cells l = length l.left
