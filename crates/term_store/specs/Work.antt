-- Unification as a change of equations: what is bound, and the pairs of cells that are still to be made equal.
use Rattle.std.specs.Prelude.{◌≡◌, ◌≢◌, ℕ, zero, suc, ◌<◌, ◌+◌, ◌*◌, ◌⊎◌, List, [], ◌∷◌, ◌++◌, Bool, true, false, All, None, cond, is_none}
use Rattle.prolog_terms.specs.Tree.{Tree, Trees, variable, integer, atom, compound, none, more}
use Rattle.prolog_terms.specs.Substitutions.{substituted}
use Rattle.term_store.specs.declared.cell.Cell.{Cell}
use Rattle.term_store.specs.declared.cell.Cell.TheVariants.{Variable, Integer, Atom, Compound}
use Rattle.term_store.specs.declared.solve.Pair.{Pair}
use Rattle.term_store.specs.Shape.{Shape}
use Rattle.term_store.specs.Terms.{value, trees_of, IsCell, raw_by, bindings_by, resolved, lookup, IsNamed, AreNamed}

-- ---- trees

-- the variable stands in the tree
abbrev mutual
  pub Occurs : ℕ → Tree → Type 0
  Occurs x (variable v) = x ≡ v
  Occurs x (integer z) = ⊥
  Occurs x (atom a) = ⊥
  Occurs x (compound f ts) = OccursIn x ts

  pub OccursIn : ℕ → Trees → Type 0
  OccursIn x none = ⊥
  OccursIn x (more t ts) = Occurs x t ⊎ OccursIn x ts

-- how many variables, integers, atoms and compounds
abbrev mutual
  pub size : Tree → ℕ
  size (variable v) = 1
  size (integer z) = 1
  size (atom a) = 1
  size (compound f ts) = 1 + size_all ts

  pub size_all : Trees → ℕ
  size_all none = 0
  size_all (more t ts) = size t + size_all ts

-- ---- bindings to trees

-- no binding of the variable
abbrev pub IsUnbound : ℕ → List (ℕ × Tree) → Type 0
IsUnbound x [] = Unit {0}
IsUnbound x (b ∷ bs) = (x ≢ b.0) × IsUnbound x bs

-- each binding was made of an unbound variable, to a term without it, and of two variables of the younger
abbrev pub IsSolved : List (ℕ × Tree) → Type 0
IsSolved [] = Unit {0}
IsSolved (b ∷ bs) =
    IsUnbound b.0 bs × (Occurs b.0 (substituted (resolved bs) b.1) → ⊥)
    × ((w : ℕ) → b.1 ≡ variable w → w < b.0) × IsSolved bs

-- each variable is equal to the term that it is bound to
abbrev pub Solves : (ℕ → Tree) → List (ℕ × Tree) → Type 0
Solves s [] = Unit {0}
Solves s (b ∷ bs) = (s b.0 ≡ substituted s b.1) × Solves s bs

-- ---- cells

abbrev pub IsInjective : (ℕ → List ℕ) → Type 0
IsInjective name = (m n : ℕ) → name m ≡ name n → m ≡ n

abbrev pub IsFreeIfVariable : Shape → Cell → Type 0
IsFreeIfVariable s (Variable v) = lookup s.bindings v ≡ None
IsFreeIfVariable s (Integer z) = Unit {0}
IsFreeIfVariable s (Atom a) = Unit {0}
IsFreeIfVariable s (Compound i) = Unit {0}

-- what falls where one variable is followed to another
abbrev pub rank : Cell → ℕ
rank (Variable v) = suc v
rank (Integer z) = 0
rank (Atom a) = 0
rank (Compound i) = 0

-- the variable stands in what the cell stands for, or does not, whatever the names are
abbrev pub IsFound : Shape → ℕ → Cell → Bool → Type 0
IsFound s x c true = (name : ℕ → List ℕ) → Occurs x (value name s c)
IsFound s x c false = (name : ℕ → List ℕ) → Occurs x (value name s c) → ⊥

-- the variable stands in what one of the cells stands for, or in none of them, whatever the names are
abbrev pub AreFound : Shape → ℕ → List Cell → Bool → Type 0
AreFound s x cs true = (name : ℕ → List ℕ) → OccursIn x (trees_of (value name s) cs)
AreFound s x cs false = (name : ℕ → List ℕ) → OccursIn x (trees_of (value name s) cs) → ⊥

-- the variable stands in what one of the cells stands for exactly where it stands in what one of the cells to do stands for
pub record IsWalk (s : Shape) (x : ℕ) (cells todo : List Cell) : Type 0 where
  pub valid : All (IsCell s) todo
  pub there : (name : ℕ → List ℕ) → OccursIn x (trees_of (value name s) cells) → OccursIn x (trees_of (value name s) todo)
  pub back : (name : ℕ → List ℕ) → OccursIn x (trees_of (value name s) todo) → OccursIn x (trees_of (value name s) cells)

-- ---- pairs of cells

-- the substitution makes each pair equal
abbrev pub AllEqual : (ℕ → Tree) → (Cell → Tree) → List Pair → Type 0
AllEqual s tree [] = Unit {0}
AllEqual s tree (p ∷ ps) = (substituted s (tree p.left) ≡ substituted s (tree p.right)) × AllEqual s tree ps

abbrev pub ArePairs : (Cell → Type 0) → List Pair → Type 0
ArePairs P [] = Unit {0}
ArePairs P (p ∷ ps) = P p.left × P p.right × ArePairs P ps

abbrev pub work_size : (Cell → Tree) → List Pair → ℕ
work_size tree [] = 0
work_size tree (p ∷ ps) = size (tree p.left) + size (tree p.right) + work_size tree ps

-- the cells of two rows, place by place
abbrev pub pairs_of : List Cell → List Cell → List Pair
pairs_of [] rs = []
pairs_of (l ∷ ls) [] = []
pairs_of (l ∷ ls) (r ∷ rs) = record { left = l; right = r } ∷ pairs_of ls rs

-- ---- what is left to do

-- how many of the first n variables are free
abbrev pub free_below : List (ℕ × Cell) → ℕ → ℕ
free_below bs zero = 0
free_below bs (suc n) = cond (is_none (lookup bs n)) (suc (free_below bs n)) (free_below bs n)

abbrev pub free_count : Shape → ℕ
free_count s = free_below s.bindings s.variables

-- falls where the size falls, and where a variable is bound, which at most squares the size
unfoldable pub potential : ℕ → ℕ → ℕ
potential zero s = s
potential (suc n) s = suc s + potential n (s * s)

-- the names don't matter for the size
abbrev pub plain : ℕ → List ℕ
plain n = []

-- ---- steps

-- the work goes on as `after`, over the bindings of `new`, with the same solutions
pub record IsStep (old new : Shape) (before after : List Pair) (l r : Cell) : Type 0 where
  pub same : new ≡ record old { bindings = new.bindings }
  pub added : List (ℕ × Cell)
  pub bindings : new.bindings ≡ added ++ old.bindings
  pub valid : ArePairs (IsCell old) before → ArePairs (IsCell old) after
  pub named : (count : ℕ) → AreNamed count old → IsNamed count l → IsNamed count r → ArePairs (IsNamed count) before
      → AreNamed count new × ArePairs (IsNamed count) after
  pub forth : (name : ℕ → List ℕ) (s : ℕ → Tree) → Solves s (bindings_by name old.compounds old.bindings)
      → substituted s (raw_by name old.compounds l) ≡ substituted s (raw_by name old.compounds r)
      → AllEqual s (raw_by name old.compounds) before
      → Solves s (bindings_by name old.compounds new.bindings) × AllEqual s (raw_by name old.compounds) after
  pub back : (name : ℕ → List ℕ) (s : ℕ → Tree) → Solves s (bindings_by name old.compounds new.bindings)
      → AllEqual s (raw_by name old.compounds) after
      → Solves s (bindings_by name old.compounds old.bindings)
      × (substituted s (raw_by name old.compounds l) ≡ substituted s (raw_by name old.compounds r))
      × AllEqual s (raw_by name old.compounds) before
  pub smaller : potential (free_count new) (work_size (value plain new) after)
      < potential (free_count old) (size (value plain old l) + size (value plain old r) + work_size (value plain old) before)

-- no solution of the bindings makes the two cells equal
abbrev pub Clash : Shape → Cell → Cell → Type 0
Clash old l r =
    (name : ℕ → List ℕ) → IsInjective name → (s : ℕ → Tree) → Solves s (bindings_by name old.compounds old.bindings)
    → substituted s (raw_by name old.compounds l) ≡ substituted s (raw_by name old.compounds r) → ⊥

abbrev pub Outcome : Shape → Shape → List Pair → List Pair → Cell → Cell → Bool → Type 0
Outcome old new before after l r true = IsStep old new before after l r
Outcome old new before after l r false = (new ≡ old) × Clash old l r

-- the work that is left over the bindings of `now` has the solutions of the bindings of `old` that make a and b equal
pub record IsUnderWay (old now : Shape) (a b : Cell) (work : List Pair) : Type 0 where
  pub same : now ≡ record old { bindings = now.bindings }
  pub added : List (ℕ × Cell)
  pub bindings : now.bindings ≡ added ++ old.bindings
  pub valid : ArePairs (IsCell old) work
  pub named : (count : ℕ) → AreNamed count old → IsNamed count a → IsNamed count b → AreNamed count now × ArePairs (IsNamed count) work
  pub forth : (name : ℕ → List ℕ) (s : ℕ → Tree) → Solves s (bindings_by name old.compounds old.bindings)
      → substituted s (raw_by name old.compounds a) ≡ substituted s (raw_by name old.compounds b)
      → Solves s (bindings_by name old.compounds now.bindings) × AllEqual s (raw_by name old.compounds) work
  pub back : (name : ℕ → List ℕ) (s : ℕ → Tree) → Solves s (bindings_by name old.compounds now.bindings)
      → AllEqual s (raw_by name old.compounds) work
      → substituted s (raw_by name old.compounds a) ≡ substituted s (raw_by name old.compounds b)
