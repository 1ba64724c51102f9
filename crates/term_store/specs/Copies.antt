-- A copy of a term with new variables: its cells in prefix order, and from the last to the first the new cells.
use Rattle.std.specs.Prelude.{◌≡◌, ℕ, ◌+◌, ◌<◌, ◌≤◌, List, [], ◌∷◌, ◌++◌, length, reverse, All, true}
use Rattle.prolog_terms.specs.Tree.{Tree, Trees, variable, integer, atom, more, count}
use Rattle.prolog_terms.specs.Substitutions.{substituted, all_substituted, variables, variables_after, all_variables_after, variable_count, contains, place_of, numbered, renamed}
use Rattle.prolog_terms.specs.Flat.{nodes, nodes_all, forest, joined}
use Rattle.prolog_terms.specs.declared.node.Node.{Node}
use Rattle.prolog_terms.specs.declared.node.Node.TheVariants.{Var, Int, Atom, Functor}
use Rattle.term_store.specs.declared.cell.Cell.{Cell}
use Rattle.term_store.specs.declared.cell.Cell.TheVariants as of_cell
use Rattle.term_store.specs.Shape.{Shape}
use Rattle.term_store.specs.Terms.{value, term_of, trees_of, row_at, raw_by, IsCell, IsNamed, AreNamed}
use Rattle.term_store.specs.Later.{IsLater}
use Rattle.term_store.specs.Work.{size, size_all, plain}

-- the copy stands for what the cell stands for, with new variables that are numbered by first occurrence. Compounds and
-- variables were added, and nothing else
pub record IsCopy (old new : Shape) (cell copy : Cell) : Type 0 where
  pub later : IsLater old new
  pub bindings : new.bindings ≡ old.bindings
  pub variables : (texts : List (List ℕ)) → new.variables ≡ old.variables + variable_count (term_of texts old cell)
  pub valid : IsCell new copy
  pub named : (most : ℕ) → AreNamed most old → IsNamed most cell → AreNamed most new × IsNamed most copy
  pub term : (texts : List (List ℕ)) → term_of texts new copy ≡ renamed old.variables (numbered (term_of texts old cell))

-- ---- the cells of a term

-- the node of a cell that is no bound variable
abbrev pub node_at : (ℕ → List ℕ) → List (ℕ × List Cell) → Cell → Node
node_at name rows (of_cell.Variable v) = Var v
node_at name rows (of_cell.Integer z) = Int z
node_at name rows (of_cell.Atom n) = Atom (name n)
node_at name rows (of_cell.Compound i) = Functor (name (row_at rows i).0) (length (row_at rows i).1)

abbrev pub nodes_at : (ℕ → List ℕ) → List (ℕ × List Cell) → List Cell → List Node
nodes_at name rows [] = []
nodes_at name rows (c ∷ cs) = node_at name rows c ∷ nodes_at name rows cs

-- a cell that is a variable is one of the list
abbrev pub IsMet : List ℕ → Cell → Type 0
IsMet seen (of_cell.Variable v) = contains v seen ≡ true
IsMet seen (of_cell.Integer z) = Unit {0}
IsMet seen (of_cell.Atom n) = Unit {0}
IsMet seen (of_cell.Compound i) = Unit {0}

-- the cell at the end of a cell's bindings was written, and its arguments are to be written next
pub record IsUnfolded (s : Shape) (c : Cell) (todo after : List Cell) (seen met : List ℕ) (written longer : List Cell) : Type 0 where
  pub end : Cell
  pub args : List Cell
  pub todo_is : reverse after ≡ args ++ reverse todo
  pub longer_is : longer ≡ written ++ end ∷ []
  pub valid : IsCell s end × All (IsCell s) args
  pub named : (most : ℕ) → AreNamed most s → IsNamed most c → IsNamed most end × All (IsNamed most) args
  pub met_is : IsMet met end
  pub stays : (v : ℕ) → contains v seen ≡ true → contains v met ≡ true
  pub spelled : (name : ℕ → List ℕ) → nodes (value name s c) ≡ node_at name s.compounds end ∷ nodes_all (trees_of (value name s) args)
  pub found : (name : ℕ → List ℕ) → all_variables_after met (trees_of (value name s) args) ≡ variables_after seen (value name s c)
  pub smaller : size_all (trees_of (value plain s) args) < size (value plain s c)

-- what was written and what is to be written is the whole term of c
pub record IsUnfolding (s : Shape) (c : Cell) (todo written : List Cell) (seen : List ℕ) : Type 0 where
  pub valid : All (IsCell s) (reverse todo)
  pub cells : All (IsCell s) written
  pub named : (most : ℕ) → AreNamed most s → IsNamed most c → All (IsNamed most) (reverse todo) × All (IsNamed most) written
  pub met : All (IsMet seen) written
  pub spelled : (name : ℕ → List ℕ) → nodes (value name s c) ≡ nodes_at name s.compounds written ++ nodes_all (trees_of (value name s) (reverse todo))
  pub found : (name : ℕ → List ℕ) → all_variables_after seen (trees_of (value name s) (reverse todo)) ≡ variables (value name s c)

-- ---- and back

-- how many arguments a cell has
abbrev pub arity_at : List (ℕ × List Cell) → Cell → ℕ
arity_at rows (of_cell.Variable v) = 0
arity_at rows (of_cell.Integer z) = 0
arity_at rows (of_cell.Atom n) = 0
arity_at rows (of_cell.Compound i) = length (row_at rows i).1

-- each variable by its place behind this number
abbrev pub behind : ℕ → List ℕ → ℕ → Tree
behind from seen v = variable (from + place_of v seen)

-- the trees of a node and of those that follow it, where variables stand for these terms
abbrev pub placed_at : (ℕ → Tree) → Node → Trees → Trees
placed_at r (Var v) ts = more (r v) ts
placed_at r (Int z) ts = more (integer z) ts
placed_at r (Atom a) ts = more (atom a) ts
placed_at r (Functor f n) ts = joined f n ts

-- a cell was made anew, of the arguments that the stack has
pub record IsRebuilt (r : ℕ → Tree) (s t : Shape) (c : Cell) (stack after : List Cell) : Type 0 where
  pub same : t ≡ record s { compounds = t.compounds }
  pub valid : All (IsCell t) (reverse after)
  pub named : (most : ℕ) → AreNamed most s → IsNamed most c → All (IsNamed most) (reverse stack) → AreNamed most t × All (IsNamed most) (reverse after)
  pub trees : (name : ℕ → List ℕ) → trees_of (raw_by name t.compounds) (reverse after) ≡ placed_at r (node_at name s.compounds c) (trees_of (raw_by name s.compounds) (reverse stack))

-- the cells of a stack, the last one first, are those of the last cells of a term
pub record IsRebuilding (r : ℕ → Tree) (s t : Shape) (cells stack : List Cell) : Type 0 where
  pub later : IsLater s t
  pub same : t ≡ record s { compounds = t.compounds }
  pub valid : All (IsCell t) (reverse stack)
  pub named : (most : ℕ) → AreNamed most s → All (IsNamed most) cells → AreNamed most t × All (IsNamed most) (reverse stack)
  pub trees : (name : ℕ → List ℕ) → trees_of (raw_by name t.compounds) (reverse stack) ≡ all_substituted r (forest (nodes_at name s.compounds cells))

-- each compound is followed by as many trees as it has arguments
abbrev pub AreEnough : List (ℕ × List Cell) → List Cell → Type 0
AreEnough rows [] = Unit {0}
AreEnough rows (c ∷ cs) = (arity_at rows c ≤ count (forest (nodes_at plain rows cs))) × AreEnough rows cs

-- a new cell was made of the first of the trees that the cells spell
pub record IsMade (r : ℕ → Tree) (s t : Shape) (cells : List Cell) (copy : Cell) : Type 0 where
  pub same : t ≡ record s { compounds = t.compounds }
  pub valid : IsCell t copy
  pub named : (most : ℕ) → AreNamed most s → All (IsNamed most) cells → AreNamed most t × IsNamed most copy
  pub tree : (name : ℕ → List ℕ) (u : Tree) → nodes u ≡ nodes_at name s.compounds cells → raw_by name t.compounds copy ≡ substituted r u
