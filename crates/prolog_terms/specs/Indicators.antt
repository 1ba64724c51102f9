-- The name and arity of what can be called.
use Rattle.std.specs.Prelude.{ℕ, Option, Some, None}
use Rattle.prolog_terms.specs.Tree.{Tree, Trees, variable, integer, atom, compound, count}
use Rattle.prolog_terms.specs.declared.node.Node.{Node}
use Rattle.prolog_terms.specs.declared.node.Node.TheVariants.{Var, Int, Atom, Functor}
use Rattle.prolog_terms.specs.declared.entry.Indicator.{Indicator}

-- the name and arity of an atom or a compound
abbrev pub indicator_of : Tree → Option Indicator
indicator_of (variable n) = None
indicator_of (integer z) = None
indicator_of (atom a) = Some (record { name = a; arity = 0 })
indicator_of (compound f ts) = Some (record { name = f; arity = count ts })

-- the same, of a term that begins with this node
abbrev pub node_indicator : Node → Option Indicator
node_indicator (Var n) = None
node_indicator (Int z) = None
node_indicator (Atom a) = Some (record { name = a; arity = 0 })
node_indicator (Functor f n) = Some (record { name = f; arity = n })
