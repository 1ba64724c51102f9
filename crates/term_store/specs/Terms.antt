-- The terms of a store's cells.
use Rattle.std.specs.Prelude.{◌≡◌, ℕ, zero, suc, ◌<◌, ◌≤◌, List, [], ◌∷◌, length, All, Option, Some, None, IsTrue, slice_index_or, cond, nat_eq}
use Rattle.prolog_terms.specs.Tree.{Tree, Trees, variable, integer, atom, compound, none, more}
use Rattle.prolog_terms.specs.Substitutions.{substituted, occurs}
use Rattle.term_unifier.specs.Unifier.{IsMostGeneral, Unifies}
pub use Rattle.term_unifier.specs.Resolved.{resolved}
use Rattle.term_store.specs.declared.cell.Cell.{Cell}
use Rattle.term_store.specs.declared.cell.Cell.TheVariants.{Variable, Integer, Atom, Compound}
use Rattle.term_store.specs.Shape.{Shape}

-- the text of a name's number
abbrev pub text : List (List ℕ) → ℕ → List ℕ
text texts n = slice_index_or texts n []

abbrev pub trees_of : (Cell → Tree) → List Cell → Trees
trees_of tree [] = none
trees_of tree (c ∷ cs) = more (tree c) (trees_of tree cs)

-- a compound of this place, which is none where there is no such place
abbrev pub row_at : List (ℕ × List Cell) → ℕ → ℕ × List Cell
row_at rows i = slice_index_or rows i (0, [])

-- the term of a cell as it was built, as deep as the number says
unfoldable pub raw_at : ℕ → (ℕ → List ℕ) → List (ℕ × List Cell) → Cell → Tree
raw_at zero name rows c = atom []
raw_at (suc k) name rows (Variable v) = variable v
raw_at (suc k) name rows (Integer z) = integer z
raw_at (suc k) name rows (Atom n) = atom (name n)
raw_at (suc k) name rows (Compound i) = compound (name (row_at rows i).0) (trees_of (raw_at k name rows) (row_at rows i).1)

-- a compound's arguments stand before it, so this is deep enough
abbrev pub raw_by : (ℕ → List ℕ) → List (ℕ × List Cell) → Cell → Tree
raw_by name rows c = raw_at (suc (length rows)) name rows c

abbrev pub bindings_by : (ℕ → List ℕ) → List (ℕ × List Cell) → List (ℕ × Cell) → List (ℕ × Tree)
bindings_by name rows [] = []
bindings_by name rows (b ∷ bs) = (b.0, raw_by name rows b.1) ∷ bindings_by name rows bs

-- what the cell stands for, where names have these texts
abbrev pub value : (ℕ → List ℕ) → Shape → Cell → Tree
value name s c = substituted (resolved (bindings_by name s.compounds s.bindings)) (raw_by name s.compounds c)

-- ---- by the texts of the names

-- the term as it was built: variables stand for themselves
abbrev pub raw : List (List ℕ) → Shape → Cell → Tree
raw texts s c = raw_by (text texts) s.compounds c

abbrev pub bindings_of : List (List ℕ) → Shape → List (ℕ × Tree)
bindings_of texts s = bindings_by (text texts) s.compounds s.bindings

-- what each variable stands for
abbrev pub meaning : List (List ℕ) → Shape → ℕ → Tree
meaning texts s v = resolved (bindings_of texts s) v

-- what a cell stands for
abbrev pub term_of : List (List ℕ) → Shape → Cell → Tree
term_of texts s c = substituted (meaning texts s) (raw texts s c)

-- ---- which cells have a term

-- the cell's compound is one of the first n, and its variable one of the first m
abbrev pub IsWithin : ℕ → ℕ → Cell → Type 0
IsWithin n m (Variable v) = v < m
IsWithin n m (Integer z) = Unit {0}
IsWithin n m (Atom a) = Unit {0}
IsWithin n m (Compound i) = i < n

-- the cell is one of the store
abbrev pub IsCell : Shape → Cell → Type 0
IsCell s c = IsWithin (length s.compounds) s.variables c

-- an atom's number is one of the first so many names
abbrev pub IsNamed : ℕ → Cell → Type 0
IsNamed count (Variable v) = Unit {0}
IsNamed count (Integer z) = Unit {0}
IsNamed count (Atom a) = a < count
IsNamed count (Compound i) = Unit {0}

-- so many names give the cell a term
abbrev pub HasTerm : ℕ → Shape → Cell → Type 0
HasTerm count s c = IsCell s c × IsNamed count c

-- each name in the store is one of the first so many
pub record AreNamed (count : ℕ) (s : Shape) : Type 0 where
  pub compounds : (i : ℕ) → i < length s.compounds → ((row_at s.compounds i).0 < count) × All (IsNamed count) (row_at s.compounds i).1
  pub bindings : All (λ b. IsNamed count b.1) s.bindings

-- ---- which shapes are a store's

-- 1 to 255 arguments, each of them a variable of the first m, an atom, an integer, or a compound before this place
pub record IsRow (m i : ℕ) (row : ℕ × List Cell) : Type 0 where
  pub some : 1 ≤ length row.1
  pub few : length row.1 ≤ 255
  pub before : All (IsWithin i m) row.1

-- what the variable is bound to
abbrev pub lookup : List (ℕ × Cell) → ℕ → Option Cell
lookup [] x = None
lookup (b ∷ bs) x = cond (nat_eq x b.0) (Some b.1) (lookup bs x)

-- a cell that is a variable is an older one than x
abbrev pub IsOlder : ℕ → Cell → Type 0
IsOlder x (Variable v) = v < x
IsOlder x (Integer z) = Unit {0}
IsOlder x (Atom a) = Unit {0}
IsOlder x (Compound i) = Unit {0}

-- each binding is of a variable that the older bindings leave free, to a term in which it does not stand, and of two
-- variables of the younger
abbrev pub IsTriangular : (ℕ → List ℕ) → List (ℕ × List Cell) → List (ℕ × Cell) → Type 0
IsTriangular name rows [] = Unit {0}
IsTriangular name rows (b ∷ bs) =
    (lookup bs b.0 ≡ None)
    × (¬ IsTrue (occurs b.0 (substituted (resolved (bindings_by name rows bs)) (raw_by name rows b.1))))
    × IsOlder b.0 b.1 × IsTriangular name rows bs

pub record IsShape (s : Shape) : Type 0 where
  pub compounds : (i : ℕ) → i < length s.compounds → IsRow s.variables i (row_at s.compounds i)
  pub bindings : All (λ b. (b.0 < s.variables) × IsCell s b.1) s.bindings
  -- whatever the names are
  pub triangular : (name : ℕ → List ℕ) → IsTriangular name s.compounds s.bindings

-- ---- unification

-- `new` is `old` and the most general unifier of what a and b stand for
abbrev pub IsUnified : List (List ℕ) → Shape → Shape → Cell → Cell → Type 0
IsUnified texts old new a b =
    (s : ℕ → Tree) × IsMostGeneral s (term_of texts old a) (term_of texts old b)
    × ((v : ℕ) → meaning texts new v ≡ substituted s (meaning texts old v))

-- no substitution makes what a and b stand for equal
abbrev pub HaveNoUnifier : List (List ℕ) → Shape → Cell → Cell → Type 0
HaveNoUnifier texts s a b = (r : ℕ → Tree) → ¬ Unifies r (term_of texts s a) (term_of texts s b)
