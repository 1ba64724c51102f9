-- A term that is put into a store, node by node from the last to the first.
use Rattle.std.specs.Prelude.{◌≡◌, ℕ, suc, ◌+◌, ◌<◌, ◌≤◌, List, [], ◌∷◌, ◌++◌, length, reverse, All}
use Rattle.prolog_terms.specs.Tree.{Tree, Trees, variable, integer, atom, more, count}
use Rattle.prolog_terms.specs.Flat.{forest, joined}
use Rattle.prolog_terms.specs.declared.node.Node.{Node}
use Rattle.prolog_terms.specs.declared.node.Node.TheVariants.{Var, Int, Atom, Functor}
use Rattle.term_store.specs.declared.cell.Cell.{Cell}
use Rattle.term_store.specs.Shape.{Shape}
use Rattle.term_store.specs.Terms.{raw, trees_of, HasTerm, AreNamed}
use Rattle.term_store.specs.Later.{AreLonger, AreDistinct}

-- the variables of a term begin at this number
abbrev pub shifted : ℕ → ℕ → Tree
shifted from n = variable (from + n)

-- the trees of a node and of those that follow it
abbrev pub placed : ℕ → Node → Trees → Trees
placed from (Var n) ts = more (variable (from + n)) ts
placed from (Int z) ts = more (integer z) ts
placed from (Atom a) ts = more (atom a) ts
placed from (Functor f n) ts = joined f n ts

-- a variable is one of the first m, and a functor has 1 to 255 arguments, of which there are so many trees
abbrev pub IsFit : ℕ → ℕ → ℕ → Node → Type 0
IsFit m from trees (Var n) = from + n < m
IsFit m from trees (Int z) = Unit {0}
IsFit m from trees (Atom a) = Unit {0}
IsFit m from trees (Functor f n) = (1 ≤ n) × (n ≤ 255) × (n ≤ trees)

abbrev pub AreFit : ℕ → ℕ → List Node → Type 0
AreFit m from [] = Unit {0}
AreFit m from (n ∷ ns) = IsFit m from (count (forest ns)) n × AreFit m from ns

-- compounds and names were added, and nothing else
pub record Grows (old : Shape) (texts : List (List ℕ)) (new : Shape) (after : List (List ℕ)) : Type 0 where
  pub rows : List (ℕ × List Cell)
  pub same : new ≡ record old { compounds = old.compounds ++ rows }
  pub longer : AreLonger texts after
  pub distinct : AreDistinct texts → AreDistinct after
  pub named : AreNamed (length after) new

-- the cells of a stack, the last one first, have these trees
pub record AreCells (s : Shape) (texts : List (List ℕ)) (stack : List Cell) (ts : Trees) : Type 0 where
  pub cells : All (HasTerm (length texts) s) (reverse stack)
  pub trees : trees_of (raw texts s) (reverse stack) ≡ ts

-- a number above the node, where it is a variable
abbrev pub beyond_node : Node → ℕ
beyond_node (Var n) = suc n
beyond_node (Int z) = 0
beyond_node (Atom a) = 0
beyond_node (Functor f n) = 0
