-- What a look at a cell shows.
use Rattle.std.specs.Prelude.{◌≡◌, ℕ, List, None, ◌<◌, length}
use Rattle.prolog_terms.specs.Tree.{Tree, variable, integer, atom, compound}
use Rattle.term_store.specs.declared.cell.Cell.{Cell}
use Rattle.term_store.specs.declared.cell.Cell.TheVariants as is
use Rattle.term_store.specs.declared.cell.View.{View}
use Rattle.term_store.specs.declared.cell.View.TheVariants.{Variable, Integer, Atom, Compound}
use Rattle.term_store.specs.Shape.{Shape}
use Rattle.term_store.specs.Terms.{trees_of, row_at, lookup, IsCell, AreNamed, value, IsNamed}

-- the cell that stands there, without following a binding
abbrev pub Sees : Shape → Cell → View → Type 0
Sees s c (Variable v) = c ≡ is.Variable v
Sees s c (Integer z) = c ≡ is.Integer z
Sees s c (Atom n) = c ≡ is.Atom n
Sees s c (Compound f args) = (i : ℕ) × (c ≡ is.Compound i) × (i < length s.compounds) × (row_at s.compounds i ≡ (f, args.now))

-- the term of a view whose arguments have these terms
abbrev pub tree_of : (ℕ → List ℕ) → (Cell → Tree) → View → Tree
tree_of name tree (Variable v) = variable v
tree_of name tree (Integer z) = integer z
tree_of name tree (Atom n) = atom (name n)
tree_of name tree (Compound f args) = compound (name f) (trees_of tree args.now)

abbrev pub IsFree : Shape → View → Type 0
IsFree s (Variable v) = lookup s.bindings v ≡ None
IsFree s (Integer z) = Unit {0}
IsFree s (Atom n) = Unit {0}
IsFree s (Compound f args) = Unit {0}

-- the cell is followed to one that stands for the same and is no bound variable
pub record Looks (s : Shape) (c : Cell) (view : View) : Type 0 where
  pub cell : Cell
  pub valid : IsCell s cell
  pub named : (count : ℕ) → AreNamed count s → IsNamed count c → IsNamed count cell
  pub sees : Sees s cell view
  pub free : IsFree s view
  pub same : (name : ℕ → List ℕ) → value name s cell ≡ value name s c
