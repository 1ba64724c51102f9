use Rattle.std.proofs.Common.{◌≡◌, ℕ, ◌+◌, ◌-◌, ◌<◌, List, length, slice_index, ◌++◌, get_or, take}
use Rattle.std.specs.Global.{Vec}
use Rattle.std.specs.List.{filter}
use Rattle.index_trees.specs.declared.item.Item.{Item}
use Rattle.index_trees.specs.Items.{has_no_code, fits_at}
use Rattle.call_patterns.specs.Size.{empty_leaf, total}
use Rattle.index_trees.specs.Levels.{level_words, codes_of}
use Rattle.index_trees.specs.Trees.{Holds}
use Rattle.index_trees.proofs.building.+node.Given as goal

abbrev pub decreases-node : goal.decreases-node
decreases-node l = l.left

abbrev pub invariant-loop-child : goal.invariant-loop-child
invariant-loop-child l = record {
  grows : (more : List ℕ) × (l.out.items ≡ l.fn.out.items ++ more);
  header : empty_leaf < length l.out.items;
  empty : slice_index l.out.items empty_leaf ≡ 0;
  rest : Holds l.out.items l.rest (l.level + 1) (l.left - 1) (filter (has_no_code l.level) l.items);
  size : length l.out.items ≡ length l.fn.out.items + (level_words (l.left - 1) (l.level + 1) (filter (has_no_code l.level) l.items)
      + total (λ c. level_words (l.left - 1) (l.level + 1) (filter (fits_at l.level c) l.items)) (take l.child-index (codes_of l.level l.items)));
  many : length l.children.items ≡ l.child-index;
  each : (k : ℕ) (d : Vec Item) → k < l.child-index → Holds l.out.items (get_or l.children.items k 0) (l.level + 1) (l.left - 1) (get_or l.child-items k d).items;
}
