-- The tokens of the pieces of a term, piece by piece, where names have quotes.
use Rattle.std.specs.Prelude.{ℕ, suc, ℤ, pos, negsuc, List, [], ◌∷◌, ◌++◌, length, Bool, codes, if◌then◌else◌}
use Rattle.std.specs.Fmt.{decimal}
use Rattle.prolog_terms.specs.Tree.{Tree, Trees, variable, integer, atom, compound, none, more, count}
use Rattle.prolog_terms.specs.Operators.{Table}
use Rattle.prolog_lexer.specs.declared.token.TokenKind.TheVariants.{Name, Variable, Integer, Punct}
use Rattle.prolog_writer.specs.declared.style.Style.{Style}
use Rattle.prolog_writer.specs.declared.shape.Shape.{Shape}
use Rattle.prolog_writer.specs.declared.shape.Shape.TheVariants.{Cell, Braced, Prefixed, Infixed, Postfixed, Call}
use Rattle.prolog_writer.specs.declared.shape.Place.{Place}
use Rattle.prolog_writer.specs.declared.shape.Place.TheVariants.{Operand, Left}
use Rattle.prolog_writer.specs.Spelling.{same_text, quotes_atom, quotes_functor, quotes_operator, variable_text}
use Rattle.prolog_writer.specs.Shapes.{shape_of, is_enclosed, is_atom_enclosed, is_cell, is_nil}
use Rattle.prolog_writer.specs.Pieces.{argument_place, braces_place}
use Rattle.prolog_writer.specs.Lexemes.{Lexeme, lexeme, lexemes_of_name}

abbrev pub mark_lexemes : ℕ → List Lexeme
mark_lexemes b = lexeme (Punct b) 1 ∷ []

abbrev pub enclosed_lexemes : Bool → List (List Lexeme) → List (List Lexeme)
enclosed_lexemes b xss = if b then mark_lexemes 40 ∷ xss ++ mark_lexemes 41 ∷ [] else xss

abbrev pub integer_lexemes : ℤ → List Lexeme
integer_lexemes (pos n) = lexeme (Integer n) (length (decimal n)) ∷ []
integer_lexemes (negsuc n) = lexeme (Name (codes "-")) 1 ∷ lexeme (Integer (suc n)) (length (decimal (suc n))) ∷ []

abbrev pub variable_lexemes : ℕ → List Lexeme
variable_lexemes n = lexeme (Variable (variable_text n)) (length (variable_text n)) ∷ []

abbrev pub operator_lexemes : Style → List ℕ → List Lexeme
operator_lexemes style name = if same_text name (codes ",") then mark_lexemes 44 else lexemes_of_name (quotes_operator style name) name

abbrev pub functor_lexemes : Style → List ℕ → List Lexeme
functor_lexemes style name = lexemes_of_name (quotes_functor style name) name

abbrev pub atom_lexemes : Table → Style → Place → List ℕ → List (List Lexeme)
atom_lexemes ops style at name = enclosed_lexemes (is_atom_enclosed ops style at name) (lexemes_of_name (quotes_atom style name) name ∷ [])

abbrev pub shaped_lexemes : Style → Shape → List ℕ → (Place → List (List Lexeme)) → (Place → List Lexeme → Place → List (List Lexeme)) → List (List Lexeme) → List (List Lexeme)
shaped_lexemes style Cell name arguments operands elements = mark_lexemes 91 ∷ elements ++ mark_lexemes 93 ∷ []
shaped_lexemes style Braced name arguments operands elements = mark_lexemes 123 ∷ arguments braces_place ++ mark_lexemes 125 ∷ []
shaped_lexemes style (Prefixed p) name arguments operands elements = operator_lexemes style name ∷ arguments (Operand p.operand)
shaped_lexemes style (Infixed i) name arguments operands elements = operands (Left i.left i.priority) (operator_lexemes style name) (Operand i.right)
shaped_lexemes style (Postfixed q) name arguments operands elements = arguments (Left q.operand q.priority) ++ operator_lexemes style name ∷ []
shaped_lexemes style Call name arguments operands elements = functor_lexemes style name ∷ mark_lexemes 40 ∷ arguments argument_place ++ mark_lexemes 41 ∷ []

abbrev pub placed_lexemes : Style → Place → Shape → List ℕ → (Place → List (List Lexeme)) → (Place → List Lexeme → Place → List (List Lexeme)) → List (List Lexeme) → List (List Lexeme)
placed_lexemes style at shape name arguments operands elements = enclosed_lexemes (is_enclosed at shape) (shaped_lexemes style shape name arguments operands elements)

abbrev mutual
  pub lexemes : Table → Style → Place → Tree → List (List Lexeme)
  lexemes ops style at (variable n) = variable_lexemes n ∷ []
  lexemes ops style at (integer z) = integer_lexemes z ∷ []
  lexemes ops style at (atom name) = atom_lexemes ops style at name
  lexemes ops style at (compound name ts) =
      placed_lexemes style at (shape_of ops style name (count ts)) name (λ place. separated_lexemes ops style place ts) (λ left f right. joined_lexemes ops style left f right ts) (items_lexemes ops style ts)

  pub separated_lexemes : Table → Style → Place → Trees → List (List Lexeme)
  separated_lexemes ops style at none = []
  separated_lexemes ops style at (more t none) = lexemes ops style at t
  separated_lexemes ops style at (more t (more u us)) = lexemes ops style at t ++ mark_lexemes 44 ∷ separated_lexemes ops style at (more u us)

  pub joined_lexemes : Table → Style → Place → List Lexeme → Place → Trees → List (List Lexeme)
  joined_lexemes ops style left operator right none = []
  joined_lexemes ops style left operator right (more t none) = lexemes ops style left t
  joined_lexemes ops style left operator right (more t (more u us)) = lexemes ops style left t ++ operator ∷ lexemes ops style right u

  pub items_lexemes : Table → Style → Trees → List (List Lexeme)
  items_lexemes ops style none = []
  items_lexemes ops style (more t none) = lexemes ops style argument_place t
  items_lexemes ops style (more t (more rest us)) = lexemes ops style argument_place t ++ further_lexemes ops style rest

  pub further_lexemes : Table → Style → Tree → List (List Lexeme)
  further_lexemes ops style (variable n) = mark_lexemes 124 ∷ variable_lexemes n ∷ []
  further_lexemes ops style (integer z) = mark_lexemes 124 ∷ integer_lexemes z ∷ []
  further_lexemes ops style (atom name) = if is_nil name then [] else mark_lexemes 124 ∷ atom_lexemes ops style argument_place name
  further_lexemes ops style (compound name ts) =
      if is_cell name (count ts) then mark_lexemes 44 ∷ items_lexemes ops style ts
      else mark_lexemes 124
      ∷ placed_lexemes style argument_place (shape_of ops style name (count ts)) name (λ place. separated_lexemes ops style place ts) (λ left f right. joined_lexemes ops style left f right ts) (items_lexemes ops style ts)
