use Rattle.std.proofs.Common.{◌≡◌, ◌≤◌, ◌*◌, Some, drop}
use Rattle.prolog_clauses.specs.Flat as flat
use Rattle.prolog_clauses.proofs.called.body_of.Given as goal

abbrev pub invariant-loop-node : goal.invariant-loop-node
invariant-loop-node l = record {
  same : flat.and_nodes (Some l.out.items) (flat.body_nodes l.behind (drop l.node-index l.nodes)) ≡ flat.body_nodes 0 l.nodes;
  few : l.behind ≤ 0x1_0000_0000 * l.node-index;
}
