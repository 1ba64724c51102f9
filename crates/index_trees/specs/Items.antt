-- Items, and how a level of a tree parts them.
use Rattle.std.specs.Prelude.{ℕ, ◌+◌, ◌==◌, ◌&&◌, List, [], ◌∷◌, Bool, true, Option, if◌then◌else◌}
use Rattle.call_patterns.specs.Rows.{agrees}
use Rattle.call_patterns.specs.Size.{is_none}
use Rattle.index_trees.specs.declared.item.Item.{Item}

abbrev pub code_at : ℕ → Item → Option ℕ
code_at level it = if level == 0 then it.first else if level == 1 then it.second else it.third

-- no code at the level, or the given one
unfoldable pub fits_at : ℕ → ℕ → Item → Bool
fits_at level c it = agrees c (code_at level it)

unfoldable pub has_no_code : ℕ → Item → Bool
has_no_code level it = is_none (code_at level it)

-- the codes of the levels from this one on
abbrev pub fits_from : ℕ → List ℕ → Item → Bool
fits_from level [] it = true
fits_from level (c ∷ cs) it = fits_at level c it && fits_from (level + 1) cs it
