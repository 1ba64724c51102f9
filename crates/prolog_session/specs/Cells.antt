-- Lists, as nodes.
use Rattle.std.specs.Prelude.{List, [], ◌∷◌, Bool, false}
use Rattle.prolog_terms.specs.declared.node.Node.{Node}
use Rattle.prolog_terms.specs.declared.node.Node.TheVariants.{Var, Int, Atom, Functor}
use Rattle.prolog_writer.specs.Shapes.{is_cell}

-- whether nodes begin with a list cell
abbrev pub at_cell : List Node → Bool
at_cell [] = false
at_cell (Var n ∷ nodes) = false
at_cell (Int z ∷ nodes) = false
at_cell (Atom name ∷ nodes) = false
at_cell (Functor name arity ∷ nodes) = is_cell name arity
