-- How the items of a level are parted.
use Rattle.std.specs.Prelude.{◌≡◌, ◌≢◌, ℕ, ◌<◌, List, length, filter, slice_index, slice_index_or}
use Rattle.std.specs.Global.{Vec}
use Rattle.index_trees.specs.declared.item.Item.{Item}
use Rattle.index_trees.specs.Items.{fits_at, has_no_code}
use Rattle.index_trees.specs.Levels.{codes_of}

-- each child has the items of its code and those without one, and the rest those without one
pub record AreParts (level : ℕ) (items : List Item) (codes : List ℕ) (children : List (Vec Item)) (rest : List Item) : Type 0 where
  pub child : (k : ℕ) (d : Vec Item) → k < length codes → (slice_index_or children k d).items ≡ filter (fits_at level (slice_index codes k)) items
  pub none : rest ≡ filter (has_no_code level) items

pub record IsSplit (level : ℕ) (items : List Item) (codes : List ℕ) (children : List (Vec Item)) (rest : List Item) : Type 0 where
  pub ascending : (i j : ℕ) → i < j → j < length codes → slice_index codes i < slice_index codes j
  pub many : length children ≡ length codes
  pub child : (k : ℕ) (d : Vec Item) → k < length codes → (slice_index_or children k d).items ≡ filter (fits_at level (slice_index codes k)) items
  pub other : (c : ℕ) → ((k : ℕ) → k < length codes → slice_index codes k ≢ c) → filter (fits_at level c) items ≡ rest
  pub none : rest ≡ filter (has_no_code level) items
  pub are : codes ≡ codes_of level items
