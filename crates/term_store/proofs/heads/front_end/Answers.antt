use Rattle.std.proofs.Common.{◌≡◌, ℕ, ◌-◌, ◌≤◌, ◌+◌, length, sym, ap, ◌∙◌, subst, arith, rules, w64, Fits}
use Rattle.prolog_terms.specs.declared.node.Node.{Node}
use Rattle.term_store.proofs.Fronts.{IsPassing, still, still-leaf, passing-start, passing-inside, passing-few, passing-step, passing-end}
use Rattle.term_store.proofs.heads.front_end.Goals as goal
use Rattle.term_store.proofs.heads.front_end.Goals.{Joined-nodes-end, in-Functor, in_default}

pub loop-left-init : goal.loop-left-init
loop-left-init c = passing-start c.args.nodes.now c.args.at c.requires.there c.requires.fit

pub bounds-nodes-end : goal.bounds-nodes-end
bounds-nodes-end c = passing-inside c.args.nodes.now c.args.at c.loop-left.left c.loop-left.end c.loop-left.invariant c.loop-left-test.true

pub overflow_add-left : goal.overflow_add-left
overflow_add-left c =
    let few = passing-few c.args.nodes.now c.args.at _ _ (passing-step c.args.nodes.now c.args.at c.loop-left.left c.loop-left.end c.index-nodes-end.result c.loop-left.invariant c.loop-left-test.true c.index-nodes-end.is) in
    let now : c.loop-left.left - 1 + c.in-Functor.arity ≤ length c.args.nodes.now =
    subst (λ (n : Node). still (c.loop-left.left - 1) n ≤ length c.args.nodes.now) c.in-Functor.is few in
    let long : Fits w64 (length c.args.nodes.now) = search rules in
    omega (arith, now, long)

-- what is left to be passed
left_is : (c : Joined-nodes-end) → c.match-nodes-end.left ≡ still (c.loop-left.left - 1) c.index-nodes-end.result
left_is c = elim c.match-nodes-end.branch [
  | in-Functor w ↦ w.left-is ∙ sym (ap (still (c.loop-left.left - 1)) w.in-Functor.is)
  | in_default w ↦ w.left-is ∙ still-leaf (c.loop-left.left - 1) c.index-nodes-end.result w.in_default.not-Functor
]

pub loop-left-smaller : goal.loop-left-smaller
loop-left-smaller c =
    let low = passing-inside c.args.nodes.now c.args.at c.loop-left.left c.loop-left.end c.loop-left.invariant c.loop-left-test.true in omega (arith, low)

pub loop-left-preserved : goal.loop-left-preserved
loop-left-preserved c =
    let d = (goal.at.loop-left-preserved c).Joined-nodes-end in
    subst (λ (k : ℕ). IsPassing c.args.nodes.now c.args.at k (c.loop-left.end + 1)) (sym (left_is d))
    (passing-step c.args.nodes.now c.args.at c.loop-left.left c.loop-left.end c.index-nodes-end.result c.loop-left.invariant c.loop-left-test.true c.index-nodes-end.is)

pub returns : goal.returns
returns c = let t = c.loop-left-test.false in passing-end c.args.nodes.now c.args.at c.loop-left.left c.loop-left.end c.requires.there (omega (arith, t)) c.loop-left.invariant
