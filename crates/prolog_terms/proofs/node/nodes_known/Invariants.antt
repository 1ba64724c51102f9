use Rattle.std.proofs.Common.{drop}
use Rattle.prolog_terms.specs.Flat.{AreWholeNodes}
use Rattle.prolog_terms.proofs.node.nodes_known.Given as goal

abbrev pub invariant-loop-node : goal.invariant-loop-node
invariant-loop-node l = AreWholeNodes (drop l.node-index l.nodes) → AreWholeNodes l.nodes
