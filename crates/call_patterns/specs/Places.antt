-- The terms that begin at the places of a list of nodes.
use Rattle.std.specs.Prelude.{ℕ, List, drop, Option, Some, None, option_and_then}
use Rattle.prolog_terms.specs.Tree.{Tree, Trees, none, more}
use Rattle.prolog_terms.specs.Flat.{forest}
use Rattle.call_patterns.specs.Keys.{argument, arguments}
use Rattle.prolog_terms.specs.declared.node.Node.{Node}

abbrev pub first_tree : Trees → Option Tree
first_tree none = None
first_tree (more t ts) = Some t

-- the term that begins at a place
unfoldable pub tree_at : List Node → ℕ → Option Tree
tree_at ns k = first_tree (forest (drop k ns))

unfoldable pub trees_at : List Node → ℕ → Trees
trees_at ns k = forest (drop k ns)

-- the argument i, counted from 0, of the term at a place
unfoldable pub argument_of : List Node → ℕ → ℕ → Option Tree
argument_of ns k i = option_and_then (λ t. argument (arguments t) i) (tree_at ns k)
