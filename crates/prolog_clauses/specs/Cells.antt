-- What the cells of a list are, and what they are not.
use Rattle.std.specs.Prelude.{◌≡◌, [], ◌∷◌}
use Rattle.prolog_terms.specs.Tree.{Tree}
use Rattle.prolog_clauses.specs.Declarations.{elements, list_end}

-- the term is a cell with this element and rest
pub record IsCell (t element rest : Tree) : Type 0 where
  pub elements : elements t ≡ element ∷ elements rest
  pub ends : list_end t ≡ list_end rest

-- the term is no cell
pub record IsNoCell (t : Tree) : Type 0 where
  pub elements : elements t ≡ []
  pub ends : list_end t ≡ t
