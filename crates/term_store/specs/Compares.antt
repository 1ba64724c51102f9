-- Cells that are compared, pair by pair: the first two that differ decide.
use Rattle.std.specs.Prelude.{◌≡◌, ℕ, ◌+◌, ◌<◌, List, [], ◌∷◌, ◌++◌, length, reverse}
use Rattle.std.specs.declared.cmp.Ordering.{Ordering}
use Rattle.std.specs.declared.cmp.Ordering.TheVariants.{Equal}
use Rattle.std.specs.Ordering.{ordering_then, nat_cmp, int_cmp}
use Rattle.prolog_terms.specs.Tree.{Tree}
use Rattle.prolog_terms.specs.Order.{name_order, standard_order}
use Rattle.term_store.specs.declared.cell.Cell.{Cell}
use Rattle.term_store.specs.declared.cell.View.{View}
use Rattle.term_store.specs.declared.cell.View.TheVariants.{Variable, Integer, Atom, Compound}
use Rattle.term_store.specs.declared.solve.Pair.{Pair}
use Rattle.term_store.specs.Shape.{Shape}
use Rattle.term_store.specs.Terms.{value, term_of, HasTerm}
use Rattle.term_store.specs.Work.{size, plain, ArePairs, work_size}

-- variables, integers, atoms and compounds, in this order
abbrev pub kind : View → ℕ
kind (Variable v) = 0
kind (Integer z) = 1
kind (Atom n) = 2
kind (Compound f args) = 3

-- what two views say before arguments are looked at
abbrev pub view_order : (ℕ → List ℕ) → View → View → Ordering
view_order name (Variable v) (Variable w) = nat_cmp v w
view_order name (Integer z) (Integer w) = int_cmp z w
view_order name (Atom m) (Atom n) = name_order (name m) (name n)
view_order name (Compound f cs) (Compound g ds) = ordering_then (nat_cmp (length cs.now) (length ds.now)) (name_order (name f) (name g))
view_order name v w = nat_cmp (kind v) (kind w)

-- the arguments of a view
abbrev pub args_of : View → List Cell
args_of (Variable v) = []
args_of (Integer z) = []
args_of (Atom n) = []
args_of (Compound f args) = args.now

-- the name of a view is one of the first so many
abbrev pub IsNamedView : ℕ → View → Type 0
IsNamedView count (Variable v) = Unit {0}
IsNamedView count (Integer z) = Unit {0}
IsNamedView count (Atom n) = n < count
IsNamedView count (Compound f args) = f < count

-- the first pair of two that aren't one decides
abbrev pub pairs_order : (Cell → Tree) → List Pair → Ordering
pairs_order tree [] = Equal
pairs_order tree (p ∷ ps) = ordering_then (standard_order (tree p.left) (tree p.right)) (pairs_order tree ps)

-- two cells were compared: they are in the order that was found or, where that is Equal, in that of the pairs that are to
-- be compared next
pub record IsCompared (texts : List (List ℕ)) (s : Shape) (l r : Cell) (todo after : List Pair) (found : Ordering) : Type 0 where
  pub pairs : List Pair
  pub todo_is : reverse after ≡ pairs ++ reverse todo
  pub valid : ArePairs (HasTerm (length texts) s) pairs
  pub order : standard_order (term_of texts s l) (term_of texts s r) ≡ ordering_then found (pairs_order (term_of texts s) pairs)
  pub smaller : work_size (value plain s) pairs < size (value plain s l) + size (value plain s r)

-- the pairs that are left are in the order of the two cells
pub record IsComparing (texts : List (List ℕ)) (s : Shape) (l r : Cell) (todo : List Pair) : Type 0 where
  pub valid : ArePairs (HasTerm (length texts) s) (reverse todo)
  pub order : standard_order (term_of texts s l) (term_of texts s r) ≡ pairs_order (term_of texts s) (reverse todo)
