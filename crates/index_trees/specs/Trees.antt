-- What the words of a tree stand for.
use Rattle.std.specs.Prelude.{◌≡◌, ℕ, ◌^◌, ◌<◌, List, [], ◌∷◌, ◌++◌, length, drop, filter, map}
use Rattle.index_trees.specs.declared.item.Item.{Item}
use Rattle.index_trees.specs.declared.image.Bucket.{Bucket}
use Rattle.call_patterns.specs.Size.{header_length}
use Rattle.index_trees.specs.Items.{fits_from}
use Rattle.index_trees.specs.Reading.{Leads, names_in}

-- each code with its child
abbrev pub paired : List ℕ → List ℕ → List ℕ
paired [] ds = []
paired (c ∷ cs) [] = []
paired (c ∷ cs) (d ∷ ds) = c ∷ d ∷ paired cs ds

abbrev pub item_names : List Item → List ℕ
item_names items = map (λ it. it.name) items

-- the codes lead to a bucket with the names of the items that fit them
pub record Finds (ws : List ℕ) (at level : ℕ) (cs : List ℕ) (items : List Item) : Type 0 where
  pub bucket : Bucket
  pub leads : Leads ws at cs bucket
  pub names : names_in ws bucket ≡ item_names (filter (fits_from level cs) items)

-- The tree of the items begins at the offset, and does so whatever words follow.
pub record Stands (out : List ℕ) (at level left : ℕ) (items : List Item) : Type 0 where
  pub each : (more cs : List ℕ) → length (out ++ more) < 2 ^ 63 → length cs ≡ left → Finds (out ++ more) at level cs items

-- The same, whatever stands in the words of the header.
pub record Holds (out : List ℕ) (at level left : ℕ) (items : List Item) : Type 0 where
  pub each : (head : List ℕ) → length head ≡ header_length → Stands (head ++ drop header_length out) at level left items
