use Rattle.std.proofs.Common.{◌≤◌, ◌+◌, ◌∙◌, length, take, take_all, refl, sym, ap, arith, max, ℕ}
use Rattle.prolog_terms.specs.declared.node.Node.{Node}
use Rattle.term_store.specs.Puts.{beyond_node}
use Rattle.term_store.proofs.Beyond.{beyond_nodes, beyond-more, beyond-take, beyond-nodes}
use Rattle.term_store.proofs.above.above_variables.Goals as goal

pub returns-in-None-clause-none : goal.returns-in-None-clause-none
returns-in-None-clause-none c = λ _.
    let here = c.in-None.ensures.none refl in
    let e = beyond-more c.nodes-node-items.result.now c.loop-node.node-index c.node-item.result c.loop-node-test.true in
    let k = ap beyond_node c.node-item.is in
    let low = beyond-take c.nodes-node-items.result.now (c.loop-node.node-index + 1) in
    let all = ap beyond_nodes c.nodes-node-items.ensures.nodes ∙ beyond-nodes c.args.term.now in
    omega (arith, here, e, k, low, all)

pub loop-node-preserved : goal.loop-node-preserved
loop-node-preserved c =
    c.in-Some.ensures.some
    ∙ ap (λ (n : ℕ). max n (beyond_node c.node-item.result)) c.loop-node.invariant
    ∙ ap (λ (d : Node). max (beyond_nodes (take c.loop-node.node-index c.nodes-node-items.result.now)) (beyond_node d)) c.node-item.is
    ∙ sym (beyond-more c.nodes-node-items.result.now c.loop-node.node-index c.node-item.result c.loop-node-test.true)

pub returns-clause-some : goal.returns-clause-some
returns-clause-some c =
    let low : length c.nodes-node-items.result.now ≤ c.loop-node.node-index = omega arith in
    c.loop-node.invariant ∙ ap beyond_nodes (take_all c.loop-node.node-index c.nodes-node-items.result.now low ∙ c.nodes-node-items.ensures.nodes) ∙ beyond-nodes c.args.term.now
