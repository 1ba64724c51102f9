use Rattle.std.proofs.Common.{◌≡◌, ◌++◌, drop}
use Rattle.prolog_clauses.specs.Flat as flat
use Rattle.prolog_clauses.proofs.numbers.Numbers.all_numbered.Given as goal

abbrev pub invariant-loop-node : goal.invariant-loop-node
invariant-loop-node l = record {
  nodes : l.out.items ++ flat.numbered_nodes l.self (drop l.node-index l.nodes) ≡ flat.numbered_nodes l.fn.self l.nodes;
  met : flat.met_after_nodes l.self (drop l.node-index l.nodes) ≡ flat.met_after_nodes l.fn.self l.nodes;
}
