-- The fields of a store's parts, and what they show.
use Rattle.std.specs.Prelude.{◌≡◌, ℕ, ◌+◌, List, [], ◌∷◌, length, reverse, slice_range, Option, Some, None, if◌then◌else◌}
use Rattle.prolog_terms.specs.Substitutions.{contains, place_of}
use Rattle.std.specs.BTreeMap.{get, BTreeMap}
use Rattle.std.specs.Ordering.{nat_cmp}
use Rattle.term_store.specs.declared.cell.Cell.{Cell}
use Rattle.term_store.specs.declared.cell.Cell.TheVariants.{Variable}
use Rattle.term_store.specs.declared.heap.Row.{Row}
use Rattle.term_store.specs.Terms.{lookup}

abbrev pub row_of : List Cell → Row → ℕ × List Cell
row_of args row = (row.name, slice_range args row.first (row.first + row.arity))

abbrev pub rows_of : List Cell → List Row → List (ℕ × List Cell)
rows_of args [] = []
rows_of args (row ∷ rows) = row_of args row ∷ rows_of args rows

-- the arguments of these rows stand one after the other from this place on, up to the end
abbrev pub AreLaidFrom : ℕ → ℕ → List Row → Type 0
AreLaidFrom at end [] = at ≡ end
AreLaidFrom at end (row ∷ rows) = (row.first ≡ at) × AreLaidFrom (at + row.arity) end rows

abbrev pub AreLaid : List Cell → List Row → Type 0
AreLaid args rows = AreLaidFrom 0 (length args) rows

-- what the variable is bound to
abbrev pub slot : BTreeMap ℕ Cell → ℕ → Option Cell
slot slots x = get nat_cmp slots x

abbrev pub slot_cell : Option Cell → Cell
slot_cell None = Variable 0
slot_cell (Some c) = c

abbrev pub bindings_in : (ℕ → Option Cell) → List ℕ → List (ℕ × Cell)
bindings_in slots [] = []
bindings_in slots (x ∷ xs) = (x, slot_cell (slots x)) ∷ bindings_in slots xs

-- the bindings of a trail, the last one first
abbrev pub trailed : (ℕ → Option Cell) → List ℕ → List (ℕ × Cell)
trailed slots trail = bindings_in slots (reverse trail)

-- each is of a variable that the older ones leave free
abbrev pub AreApart : List (ℕ × Cell) → Type 0
AreApart [] = Unit {0}
AreApart (b ∷ bs) = (lookup bs b.0 ≡ None) × AreApart bs

-- the map has the bindings and no others
pub record AreKept (slots : ℕ → Option Cell) (bs : List (ℕ × Cell)) : Type 0 where
  pub apart : AreApart bs
  pub same : (x : ℕ) → slots x ≡ lookup bs x

-- where rows end that begin at this place
abbrev pub end_of : ℕ → List Row → ℕ
end_of at [] = at
end_of at (row ∷ rows) = end_of (at + row.arity) rows

-- each variable of the list has its place, and no other has one
abbrev pub ArePlaced : List ℕ → BTreeMap ℕ ℕ → Type 0
ArePlaced order places = (v : ℕ) → get nat_cmp places v ≡ (if contains v order then Some (place_of v order) else None)
