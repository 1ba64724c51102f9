-- An image: its header, and what it holds for each list of codes.
use Rattle.std.specs.Prelude.{◌≡◌, ℕ, ◌+◌, List, [], ◌∷◌, length, map, nat_lt, slice_index, if◌then◌else◌}
use Rattle.word_fields.specs.Fields.{with_field}
use Rattle.index_trees.specs.declared.item.Item.{Item}
use Rattle.call_patterns.specs.declared.row.Row.{Row}
use Rattle.index_trees.specs.declared.image.Mark.{Mark}
use Rattle.call_patterns.specs.declared.pattern.Pattern.{Pattern}
use Rattle.index_trees.specs.declared.image.Bucket.{Bucket}
use Rattle.call_patterns.specs.Patterns.{places}
use Rattle.call_patterns.specs.Size.{empty_leaf}
use Rattle.call_patterns.specs.Rows.{code_of, names}
use Rattle.index_trees.specs.Reading.{Leads, names_in, root}

-- a row's name, and its codes at three positions
abbrev pub item_at : ℕ → ℕ → ℕ → Row → Item
item_at a b c r = record { name = r.clause; first = code_of r a; second = code_of r b; third = code_of r c }

-- the items of rows at the three places of a pattern
abbrev pub items_at : Pattern → List Row → List Item
items_at p rows = map (item_at (slice_index (places p) 0) (slice_index (places p) 1) (slice_index (places p) 2)) rows

-- as the header has a position of a pattern: plus one, and 0 for none
abbrev pub shown_at : Pattern → ℕ → ℕ
shown_at p i = if nat_lt i p.count then slice_index (places p) i + 1 else 0

-- the procedure, the positions plus one, 0 for none, and the format
unfoldable pub header_word : ℕ → ℕ → ℕ → ℕ → ℕ
header_word proc a b c = with_field 50 8 (with_field 44 6 (with_field 38 6 (with_field 32 6 (with_field 0 32 0 proc) a) b) c) 1

-- the words before the root: its own length and root are written last
abbrev pub header_words : ℕ → Mark → ℕ → ℕ → ℕ → List ℕ
header_words first m covered size root = first ∷ m.mark ∷ covered ∷ m.updates ∷ m.first ∷ m.last ∷ size ∷ root ∷ []

-- the header of an image that was made at a mark, of so many rows
pub record IsHeader (ws : List ℕ) (word : ℕ) (m : Mark) (covered : ℕ) : Type 0 where
  pub first : slice_index ws 0 ≡ word
  pub mark : slice_index ws 1 ≡ m.mark
  pub covered_is : slice_index ws 2 ≡ covered
  pub updates : slice_index ws 3 ≡ m.updates
  pub chain_first : slice_index ws 4 ≡ m.first
  pub chain_last : slice_index ws 5 ≡ m.last
  pub size : slice_index ws 6 ≡ length ws
  pub empty : slice_index ws empty_leaf ≡ 0

-- the codes lead to a bucket with the names of these rows, in order
pub record HoldsBucket (ws : List ℕ) (codes : List ℕ) (rows : List Row) : Type 0 where
  pub bucket : Bucket
  pub leads : Leads ws (root ws) codes bucket
  pub is : names_in ws bucket ≡ names rows
