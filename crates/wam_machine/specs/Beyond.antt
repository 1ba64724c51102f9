-- A number above each variable of a term, by its nodes.
use Rattle.std.specs.Prelude.{ℕ, ◌+◌, List, [], ◌∷◌, max}
use Rattle.prolog_terms.specs.declared.node.Node.{Node}
use Rattle.prolog_terms.specs.declared.node.Node.TheVariants.{Var, Int, Atom, Functor}

abbrev pub beyond_node : Node → ℕ
beyond_node (Var n) = n + 1
beyond_node (Int z) = 0
beyond_node (Atom a) = 0
beyond_node (Functor f n) = 0

abbrev pub beyond_nodes : List Node → ℕ
beyond_nodes [] = 0
beyond_nodes (n ∷ ns) = max (beyond_node n) (beyond_nodes ns)
