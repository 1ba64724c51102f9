use Rattle.std.proofs.Common.{◌≡◌, length}
use Rattle.prolog_terms.specs.Flat.{tree, HasPrefixOrder}
use Rattle.prolog_clauses.specs.Declarations.{list_end}
use Rattle.prolog_clauses.proofs.elements.list_end.Given as goal

abbrev pub invariant-cells : goal.invariant-cells
invariant-cells l = record {
  prefix : HasPrefixOrder l.left;
  same : list_end (tree l.left) ≡ list_end (tree l.nodes);
}

abbrev pub decreases-cells : goal.decreases-cells
decreases-cells l = length l.left
