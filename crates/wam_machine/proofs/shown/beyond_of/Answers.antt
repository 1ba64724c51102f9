use Rattle.std.proofs.Common.{ℕ, ◌∙◌, ap, drop, ◌+◌}
use Rattle.std.specs.Prelude.{max}
use Rattle.wam_machine.specs.Beyond.{beyond_nodes}
use Rattle.wam_machine.proofs.BeyondNodes.{none_seen, one_seen, all_seen}
use Rattle.wam_machine.proofs.shown.beyond_of.Goals as goal

pub loop-node-init : goal.loop-node-init
loop-node-init c = none_seen c.args.term.now c.nodes-nodes.result.now c.nodes-nodes.ensures.nodes

pub loop-node-preserved : goal.loop-node-preserved
loop-node-preserved c =
    ap (λ (n : ℕ). max n (beyond_nodes (drop (c.loop-node.node-index + 1) c.nodes-nodes.result.now)))
    (c.max-beyond.ensures ∙ ap (max c.loop-node.beyond) c.in_ok-beyond_node.ensures)
    ∙ one_seen c.args.term.now c.nodes-nodes.result.now c.loop-node.node-index c.loop-node.beyond c.node-item.result c.loop-node-test.true c.node-item.is c.loop-node.invariant

pub returns : goal.returns
returns c = all_seen c.args.term.now c.nodes-nodes.result.now c.loop-node.node-index c.loop-node.beyond c.loop-node-test.false c.loop-node.invariant
