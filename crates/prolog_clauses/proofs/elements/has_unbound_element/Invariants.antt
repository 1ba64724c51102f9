use Rattle.std.proofs.Common.{◌≡◌, length}
use Rattle.std.specs.List.{list_any}
use Rattle.prolog_terms.specs.Flat.{tree, HasPrefixOrder}
use Rattle.prolog_clauses.specs.Declarations.{is_variable, elements}
use Rattle.prolog_clauses.proofs.elements.has_unbound_element.Given as goal

abbrev pub invariant-cells : goal.invariant-cells
invariant-cells l = record {
  prefix : HasPrefixOrder l.left;
  same : list_any is_variable (elements (tree l.left)) ≡ list_any is_variable (elements (tree l.nodes));
}

abbrev pub decreases-cells : goal.decreases-cells
decreases-cells l = length l.left
