use Rattle.std.proofs.Common.{◌≡◌, ◌≤◌, ◌+◌, ◌*◌, drop}
use Rattle.prolog_clauses.specs.Flat as flat
use Rattle.prolog_clauses.proofs.goals.tree_len.Given as goal

abbrev pub invariant-loop-node : goal.invariant-loop-node
invariant-loop-node l = record {
  count : l.len ≡ l.node-index;
  same : l.len + flat.span l.wanted (drop l.node-index l.nodes) ≡ flat.span 1 l.nodes;
  few : l.wanted ≤ 0x1_0000_0000 * l.node-index + 1;
}
