-- The pieces of a term (ISO/IEC 13211-1, 7.10.5).
use Rattle.std.specs.Prelude.{ℕ, List, [], ◌∷◌, ◌++◌, Bool, codes, if◌then◌else◌}
use Rattle.std.specs.Fmt.{signed_decimal}
use Rattle.prolog_terms.specs.Tree.{Tree, Trees, variable, integer, atom, compound, none, more, count}
use Rattle.prolog_terms.specs.Operators.{Table}
use Rattle.prolog_writer.specs.declared.kind.Kind.{Kind}
use Rattle.prolog_writer.specs.declared.kind.Kind.TheVariants.{Named, Minus, Paren, Other}
use Rattle.prolog_writer.specs.declared.style.Style.{Style}
use Rattle.prolog_writer.specs.declared.shape.Shape.{Shape}
use Rattle.prolog_writer.specs.declared.shape.Shape.TheVariants.{Cell, Braced, Prefixed, Infixed, Postfixed, Call}
use Rattle.prolog_writer.specs.declared.shape.Place.{Place}
use Rattle.prolog_writer.specs.declared.shape.Place.TheVariants.{Within, Operand, Left}
use Rattle.prolog_writer.specs.Spelling.{same_text, quotes_atom, quotes_functor, quotes_operator, name_text, variable_text}
use Rattle.prolog_writer.specs.Spaces.{Piece, piece, text_of}
use Rattle.prolog_writer.specs.Shapes.{shape_of, is_enclosed, is_atom_enclosed, is_cell, is_nil}

-- a bracket, a comma between arguments or elements, or the bar of a list
abbrev pub mark : List ℕ → Piece
mark text = piece Other text

-- in a parenthesis, or as it is
abbrev pub enclosed : Bool → List Piece → List Piece
enclosed b ps = if b then piece Paren (codes "(") ∷ ps ++ mark (codes ")") ∷ [] else ps

abbrev pub atom_piece : Style → List ℕ → Piece
atom_piece style name = piece Named (name_text (quotes_atom style name) name)

-- an infix or postfix operator
abbrev pub operator_piece : Style → List ℕ → Piece
operator_piece style name = piece Named (name_text (quotes_operator style name) name)

abbrev pub functor_piece : Style → List ℕ → Piece
functor_piece style name = mark (name_text (quotes_functor style name) name)

abbrev pub prefix_kind : List ℕ → Kind
prefix_kind name = if same_text name (codes "-") then Minus else Named

abbrev pub prefix_piece : Style → List ℕ → Piece
prefix_piece style name = piece (prefix_kind name) (name_text (quotes_operator style name) name)

-- arguments and elements, and what stands in braces
abbrev pub argument_place : Place
argument_place = Within 999

abbrev pub braces_place : Place
braces_place = Within 1200

abbrev pub atom_pieces : Table → Style → Place → List ℕ → List Piece
atom_pieces ops style at name = enclosed (is_atom_enclosed ops style at name) (atom_piece style name ∷ [])

-- a compound in its form: from what its arguments give at a place, two of them at places of their own with an operator between
-- them, and as an element and what stands behind it
abbrev pub shaped : Style → Shape → List ℕ → (Place → List Piece) → (Place → Piece → Place → List Piece) → List Piece → List Piece
shaped style Cell name arguments operands elements = mark (codes "[") ∷ elements ++ mark (codes "]") ∷ []
shaped style Braced name arguments operands elements = mark (codes "{") ∷ arguments braces_place ++ mark (codes "}") ∷ []
shaped style (Prefixed p) name arguments operands elements = prefix_piece style name ∷ arguments (Operand p.operand)
shaped style (Infixed i) name arguments operands elements = operands (Left i.left i.priority) (operator_piece style name) (Operand i.right)
shaped style (Postfixed q) name arguments operands elements = arguments (Left q.operand q.priority) ++ operator_piece style name ∷ []
shaped style Call name arguments operands elements = functor_piece style name ∷ mark (codes "(") ∷ arguments argument_place ++ mark (codes ")") ∷ []

-- the same, in a parenthesis where one has to stand
abbrev pub placed : Style → Place → Shape → List ℕ → (Place → List Piece) → (Place → Piece → Place → List Piece) → List Piece → List Piece
placed style at shape name arguments operands elements = enclosed (is_enclosed at shape) (shaped style shape name arguments operands elements)

abbrev mutual
  -- the pieces of a term at a place
  pub pieces : Table → Style → Place → Tree → List Piece
  pieces ops style at (variable n) = mark (variable_text n) ∷ []
  pieces ops style at (integer z) = mark (signed_decimal z) ∷ []
  pieces ops style at (atom name) = atom_pieces ops style at name
  pieces ops style at (compound name ts) =
      placed style at (shape_of ops style name (count ts)) name (λ place. separated ops style place ts) (λ left f right. joined ops style left f right ts) (items ops style ts)

  -- terms at a place, with a comma between each two
  pub separated : Table → Style → Place → Trees → List Piece
  separated ops style at none = []
  separated ops style at (more t none) = pieces ops style at t
  separated ops style at (more t (more u us)) = pieces ops style at t ++ mark (codes ",") ∷ separated ops style at (more u us)

  -- two terms at places of their own, with an operator between them
  pub joined : Table → Style → Place → Piece → Place → Trees → List Piece
  joined ops style left operator right none = []
  joined ops style left operator right (more t none) = pieces ops style left t
  joined ops style left operator right (more t (more u us)) = pieces ops style left t ++ operator ∷ pieces ops style right u

  -- the first element of a list, and what stands behind it
  pub items : Table → Style → Trees → List Piece
  items ops style none = []
  items ops style (more t none) = pieces ops style argument_place t
  items ops style (more t (more rest us)) = pieces ops style argument_place t ++ further_items ops style rest

  -- behind an element: a comma and further elements, nothing at the list's end, or a bar and what else the list ends with
  pub further_items : Table → Style → Tree → List Piece
  further_items ops style (variable n) = mark (codes "|") ∷ mark (variable_text n) ∷ []
  further_items ops style (integer z) = mark (codes "|") ∷ mark (signed_decimal z) ∷ []
  further_items ops style (atom name) = if is_nil name then [] else mark (codes "|") ∷ atom_pieces ops style argument_place name
  further_items ops style (compound name ts) =
      if is_cell name (count ts) then mark (codes ",") ∷ items ops style ts
      else mark (codes "|")
      ∷ placed style argument_place (shape_of ops style name (count ts)) name (λ place. separated ops style place ts) (λ left f right. joined ops style left f right ts) (items ops style ts)

-- the text of a term, whose priority may be this at most
abbrev pub written : Table → Style → ℕ → Tree → List ℕ
written ops style max t = text_of (pieces ops style (Within max) t)
