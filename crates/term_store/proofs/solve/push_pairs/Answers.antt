use Rattle.std.proofs.Common.{◌≤◌, ◌++◌, ◌∷◌, [], arith, sym, ap, ◌∙◌, append_assoc, length, List, slice_index_or}
use Rattle.term_store.specs.declared.solve.Pair.{Pair}
use Rattle.term_store.specs.declared.cell.Cell.TheVariants.{Variable}
use Rattle.term_store.proofs.Pairs.{take_pairs, take_all_pairs}
use Rattle.term_store.proofs.solve.push_pairs.Goals as goal

pub loop-k-preserved : goal.loop-k-preserved
loop-k-preserved c =
    c.in_ok-push.ensures.items ∙ ap (λ (ps : List Pair). ps ++ (record { left = slice_index_or c.args.left.now c.loop-k.k (Variable 0); right = slice_index_or c.args.right.now c.loop-k.k (Variable 0) } ∷ [])) c.loop-k.invariant ∙ append_assoc c.args.work.now.items _ _
    ∙ ap (λ (ps : _). c.args.work.now.items ++ ps) (sym (take_pairs c.args.left.now c.args.right.now c.loop-k.k (Variable 0) c.requires c.loop-k-test.true))

pub returns : goal.returns
returns c = c.loop-k.invariant ∙ ap (λ (ps : _). c.args.work.now.items ++ ps)
    (take_all_pairs c.args.left.now c.args.right.now c.loop-k.k c.requires (let low : length c.args.left.now ≤ c.loop-k.k = omega arith in low))
