use Rattle.std.proofs.Common.{◌≡◌, ◌+◌, ◌*◌, ◌≤◌, drop}
use Rattle.prolog_terms.specs.Flat.{are_trees}
use Rattle.prolog_terms.proofs.term.is_prefix_order.Given as goal

abbrev pub invariant-loop-node : goal.invariant-loop-node
invariant-loop-node l = record {
  same : are_trees l.wanted (drop l.node-index l.nodes) ≡ are_trees 1 l.nodes;
  few : l.wanted ≤ 255 * l.node-index + 1;
}
