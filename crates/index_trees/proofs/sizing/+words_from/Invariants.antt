use Rattle.std.proofs.Common.{◌≡◌, ◌+◌, ◌-◌, ◌*◌, ◌≤◌, length, take}
use Rattle.std.specs.List.{filter}
use Rattle.index_trees.specs.Items.{has_no_code, fits_at}
use Rattle.call_patterns.specs.Size.{total}
use Rattle.index_trees.specs.Levels.{level_words, codes_of}
use Rattle.index_trees.proofs.sizing.+words_from.Given as goal

abbrev pub decreases-words_from : goal.decreases-words_from
decreases-words_from l = l.left

abbrev pub invariant-loop-child : goal.invariant-loop-child
invariant-loop-child l = record {
  within : l.total ≤ l.limit;
  size : l.total ≡ 2 + 2 * length (codes_of l.level l.items) + (level_words (l.left - 1) (l.level + 1) (filter (has_no_code l.level) l.items)
      + total (λ c. level_words (l.left - 1) (l.level + 1) (filter (fits_at l.level c) l.items)) (take l.child-index (codes_of l.level l.items)));
}
