use Rattle.term_store.proofs.Fronts.{IsMaking}
use Rattle.term_store.proofs.store.Store.make_variables.Given as goal

abbrev pub invariant-loop-node : goal.invariant-loop-node
invariant-loop-node l = IsMaking l.fn.self l.self l.from l.nodes l.node-index
