use Rattle.std.proofs.Common.{◌≡◌, take}
use Rattle.term_store.proofs.Beyond.{beyond_nodes}
use Rattle.term_store.proofs.above.above_variables.Given as goal

abbrev pub invariant-loop-node : goal.invariant-loop-node
invariant-loop-node l = l.above ≡ beyond_nodes (take l.node-index l.node-items)
