-- A term that is read out of a store, node by node.
use Rattle.std.specs.Prelude.{◌≡◌, ℕ, ◌<◌, List, [], ◌∷◌, ◌++◌, length, reverse, All}
use Rattle.prolog_terms.specs.Tree.{Tree, variable}
use Rattle.prolog_terms.specs.Substitutions.{substituted, all_substituted, variables, variables_after, all_variables_after, place_of}
use Rattle.prolog_terms.specs.Flat.{nodes, nodes_all}
use Rattle.prolog_terms.specs.declared.node.Node.{Node}
use Rattle.term_store.specs.declared.cell.Cell.{Cell}
use Rattle.term_store.specs.Shape.{Shape}
use Rattle.term_store.specs.Terms.{value, term_of, trees_of, HasTerm}
use Rattle.term_store.specs.Work.{size, size_all, plain}

-- each variable by its place in the list
abbrev pub numbered : List ℕ → ℕ → Tree
numbered all v = variable (place_of v all)

-- the node of a cell was written, and its arguments are to be read next
pub record IsRead (texts : List (List ℕ)) (s : Shape) (c : Cell) (todo after : List Cell) (seen met : List ℕ) (written longer : List Node) : Type 0 where
  pub node : Node
  pub args : List Cell
  pub todo_is : reverse after ≡ args ++ reverse todo
  pub longer_is : longer ≡ written ++ node ∷ []
  pub valid : All (HasTerm (length texts) s) args
  pub spelled : (later : List ℕ) → nodes (substituted (numbered (met ++ later)) (term_of texts s c)) ≡ node ∷ nodes_all (all_substituted (numbered (met ++ later)) (trees_of (term_of texts s) args))
  pub found : all_variables_after met (trees_of (term_of texts s) args) ≡ variables_after seen (term_of texts s c)
  pub smaller : size_all (trees_of (value plain s) args) < size (value plain s c)

-- what was written and what is to be read is the whole term
pub record IsPartlyRead (texts : List (List ℕ)) (s : Shape) (t : Tree) (todo : List Cell) (seen : List ℕ) (written : List Node) : Type 0 where
  pub valid : All (HasTerm (length texts) s) (reverse todo)
  pub spelled : nodes (substituted (numbered (variables t)) t) ≡ written ++ nodes_all (all_substituted (numbered (variables t)) (trees_of (term_of texts s) (reverse todo)))
  pub found : all_variables_after seen (trees_of (term_of texts s) (reverse todo)) ≡ variables t
