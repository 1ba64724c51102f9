use Rattle.std.proofs.Common.{sym, ◌∙◌, arith}
use Rattle.index_trees.specs.Items.{has_no_code}
use Rattle.index_trees.proofs.Counted.{one_more, no_more}
use Rattle.index_trees.proofs.item.count_plain.Goals as goal
use Rattle.index_trees.proofs.item.count_plain.Goals.{then-is_plain, else-is_plain}

pub loop-item-preserved : goal.loop-item-preserved
loop-item-preserved c =
    let i = c.loop-item.invariant in
    elim c.if-is_plain.branch [
      | then-is_plain w ↦ record {
        count = one_more (has_no_code c.args.level) c.args.items.now c.loop-item.item-index _ c.loop-item.count c.if-is_plain.count c.loop-item-test.true
            (sym c.is_plain.ensures ∙ w.if-is_plain.true) i.count w.count-is;
        few = omega (arith, w.count-is, i.few);
      }
      | else-is_plain w ↦ record {
        count = w.count-is ∙ no_more (has_no_code c.args.level) c.args.items.now c.loop-item.item-index _ c.loop-item.count c.loop-item-test.true
            (sym c.is_plain.ensures ∙ w.if-is_plain.false) i.count;
        few = omega (arith, w.count-is, i.few);
      }
    ]
