use Rattle.std.proofs.Common.{◌+◌, ◌-◌, Some, sym, ap, ◌∙◌, arith}
use Rattle.prolog_clauses.proofs.BodyNodes.{found, not_found, goal_next, goal_refused, plain_next, all_gone}
use Rattle.prolog_clauses.proofs.called.body_of.Goals as goal
use Rattle.prolog_clauses.proofs.called.body_of.Goals.{then-behind-eq0+in_ok-push_goal+else-not-branch, else-behind-eq0+in_ok-push_node}

pub returns-then-not-branch-clause-body : goal.returns-then-not-branch-clause-body
returns-then-not-branch-clause-body c =
    let ns = c.args.nodes.now in
    not_found ns c.requires
    (goal_refused ns c.loop-node.node-index c.node-item.result c.loop-node.behind c.loop-node.out.items (omega arith) c.node-item.is c.if-behind-eq0.true c.loop-node.invariant.same
    (c.in_ok-push_goal.ensures.integer c.if-not-branch.true))

pub loop-node-preserved : goal.loop-node-preserved
loop-node-preserved c =
    let ns = c.args.nodes.now in
    let i = c.loop-node.node-index in
    elim c.if-behind-eq0.branch [
      | then-behind-eq0+in_ok-push_goal+else-not-branch w ↦ record {
        same = goal_next ns i c.node-item.result c.loop-node.behind c.if-behind-eq0.behind c.loop-node.out.items c.if-behind-eq0.out.items (omega arith) c.node-item.is w.if-behind-eq0.true c.loop-node.invariant.same (w.in_ok-push_goal.ensures.goal w.if-not-branch.false ∙ ap (λ v. Some v.items) (sym w.out-is)) (w.behind-is ∙ w.trees_behind-behind.ensures.value);
        few = omega (arith, w.behind-is, w.trees_behind-behind.ensures.few);
      }
      | else-behind-eq0+in_ok-push_node w ↦ record {
        same = plain_next ns i c.node-item.result c.loop-node.behind c.if-behind-eq0.behind c.loop-node.out.items c.if-behind-eq0.out.items (omega arith) c.node-item.is (omega (arith, w.if-behind-eq0.false)) c.loop-node.invariant.same
            (ap (λ v. v.items) w.out-is ∙ w.in_ok-push_node.ensures)
            (w.behind-is ∙ ap (λ a. c.loop-node.behind - 1 + a) w.arity_of.ensures.value);
        few = omega (arith, w.behind-is, w.arity_of.ensures.few, c.loop-node.invariant.few);
      }
    ]

pub returns-clause-body : goal.returns-clause-body
returns-clause-body c =
    let ns = c.args.nodes.now in
    (found ns c.loop-node.out.items c.requires (all_gone ns c.loop-node.node-index c.loop-node.behind c.loop-node.out.items (omega arith) c.loop-node.invariant.same)).body

pub returns-clause-order : goal.returns-clause-order
returns-clause-order c =
    let ns = c.args.nodes.now in
    (found ns c.loop-node.out.items c.requires (all_gone ns c.loop-node.node-index c.loop-node.behind c.loop-node.out.items (omega arith) c.loop-node.invariant.same)).order
