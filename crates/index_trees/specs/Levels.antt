-- How many words the tree of some items has: `size` of the rows that they stand for.
use Rattle.std.specs.Prelude.{ℕ, zero, suc, ◌+◌, ◌*◌, List, [], ◌∷◌, length, filter}
use Rattle.call_patterns.specs.Size.{header_length, total, unless_empty, with_code}
use Rattle.index_trees.specs.declared.item.Item.{Item}
use Rattle.index_trees.specs.Items.{code_at, fits_at, has_no_code}

-- the distinct codes at a level, ascending
unfoldable pub codes_of : ℕ → List Item → List ℕ
codes_of level [] = []
codes_of level (it ∷ its) = with_code (code_at level it) (codes_of level its)

unfoldable pub level_words : ℕ → ℕ → List Item → ℕ
level_words zero level items = unless_empty items (1 + length items)
level_words (suc left) level items = unless_empty items
    (2 + 2 * length (codes_of level items) + level_words left (level + 1) (filter (has_no_code level) items)
    + total (λ c. level_words left (level + 1) (filter (fits_at level c) items)) (codes_of level items))

-- the header, the empty leaf, and the nodes
abbrev pub tree_words : ℕ → List Item → ℕ
tree_words levels items = header_length + 1 + level_words levels 0 items
