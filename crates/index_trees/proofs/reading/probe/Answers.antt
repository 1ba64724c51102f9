use Rattle.std.proofs.Common.{ℕ, ◌+◌, subst, sym, ap, ◌∙◌, slice_index}
use Rattle.index_trees.specs.Reading.{IsLeaf}
use Rattle.index_trees.proofs.Walking.{on_way_empty, on_way_step, empty_bucket}
use Rattle.index_trees.proofs.reading.probe.Goals as goal

pub leaf_at-requires : goal.leaf_at-requires
leaf_at-requires g c ws may =
    let P : ℕ → Type 0 = λ n. IsLeaf ws n in
    subst P (sym c.if-at-eq-EMPTY_LEAF.true) (on_way_empty ws c.args.codes.now c.loop-code.at c.loop-code.code-index (c.loop-code.invariant.way ws may) c.loop-code-test.true c.if-at-eq-EMPTY_LEAF.true)

pub returns-then-at-eq-EMPTY_LEAF-clause-bucket : goal.returns-then-at-eq-EMPTY_LEAF-clause-bucket
returns-then-at-eq-EMPTY_LEAF-clause-bucket g c ws may =
    let old = c.leaf_at.ensures.narrows ws may in
    let way = c.loop-code.invariant.way ws old in
    let leaf = c.leaf_at.ensures.leaf ws may in
    empty_bucket ws c.args.codes.now c.loop-code.at c.loop-code.code-index c.leaf_at.result way c.loop-code-test.true c.if-at-eq-EMPTY_LEAF.true
    (record {
      leaf = on_way_empty ws c.args.codes.now c.loop-code.at c.loop-code.code-index way c.loop-code-test.true c.if-at-eq-EMPTY_LEAF.true;
      start = leaf.0 ∙ ap (λ n. n + 1) c.if-at-eq-EMPTY_LEAF.true;
      len = leaf.1 ∙ ap (λ n. slice_index ws n) c.if-at-eq-EMPTY_LEAF.true;
    })

pub loop-code-preserved : goal.loop-code-preserved
loop-code-preserved g c = record {
  narrows = λ ws may. c.loop-code.invariant.narrows ws (c.child_of-at.ensures.narrows ws may);
  way = λ ws may. on_way_step ws c.args.codes.now c.loop-code.at c.loop-code.code-index c.child_of-at.result
      (c.loop-code.invariant.way ws (c.child_of-at.ensures.narrows ws may)) c.loop-code-test.true c.if-at-eq-EMPTY_LEAF.false (c.child_of-at.ensures.child ws may);
}
