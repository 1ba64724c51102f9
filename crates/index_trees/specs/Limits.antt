-- A size against a limit.
use Rattle.std.specs.Prelude.{◌≡◌, ℕ, ◌+◌, ◌*◌, ◌<◌, ◌≤◌, List, length, filter}
use Rattle.index_trees.specs.Items.{has_no_code}
use Rattle.index_trees.specs.Levels.{codes_of}
use Rattle.index_trees.specs.Parts.{IsSplit}
use Rattle.index_trees.specs.declared.item.Item.{Item}
use Rattle.index_trees.specs.declared.sizing.Parted.{Parted}
use Rattle.index_trees.specs.declared.sizing.Parted.TheVariants.{Within, TooMany, NoMemory}
use Rattle.index_trees.specs.declared.sizing.TreeSize.{TreeSize}
use Rattle.index_trees.specs.declared.sizing.TreeSize.TheVariants.{Words, Above, Want}

-- the size where it is at most the limit, and else that it is above, unless memory ran out
abbrev pub IsSize : ℕ → ℕ → TreeSize → Type 0
IsSize n limit (Words words) = (words ≡ n) × (n ≤ limit)
IsSize n limit Above = limit < n
IsSize n limit Want = Unit {0}

-- the parts of a level's items, unless what they need in any case is above the limit
abbrev pub IsPartedWithin : ℕ → List Item → ℕ → Parted → Type 0
IsPartedWithin level items limit (Within p) = IsSplit level items p.codes.items p.children.items p.rest.items × (2 + 2 * length p.codes.items ≤ limit)
IsPartedWithin level items limit TooMany =
    limit < 2 + 2 * length (codes_of level items) + length (codes_of level items) * length (filter (has_no_code level) items)
IsPartedWithin level items limit NoMemory = Unit {0}
