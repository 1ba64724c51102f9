-- In which form a compound is written, and where a parenthesis stands round it.
use Rattle.std.specs.Prelude.{ℕ, List, Bool, true, false, not, ◌&&◌, ◌||◌, ◌==◌, nat_lt, Option, Some, None, is_some, codes, if◌then◌else◌}
use Rattle.prolog_terms.specs.declared.ops.Prefix.{Prefix}
use Rattle.prolog_terms.specs.declared.ops.Infix.{Infix}
use Rattle.prolog_terms.specs.declared.ops.Postfix.{Postfix}
use Rattle.prolog_terms.specs.Operators.{Table, prefix_op, infix_op, postfix_op}
use Rattle.prolog_writer.specs.Spelling.{same_text}
use Rattle.prolog_writer.specs.declared.style.Style.{Style}
use Rattle.prolog_writer.specs.declared.style.Style.TheVariants.{Plain, Quoted, Canonical}
use Rattle.prolog_writer.specs.declared.shape.Shape.{Shape}
use Rattle.prolog_writer.specs.declared.shape.Shape.TheVariants.{Cell, Braced, Prefixed, Infixed, Postfixed, Call}
use Rattle.prolog_writer.specs.declared.shape.Place.{Place}
use Rattle.prolog_writer.specs.declared.shape.Place.TheVariants.{Within, Operand, Left}

-- a list cell has two arguments, an element and the list behind it, and the name `.`
abbrev pub is_cell : List ℕ → ℕ → Bool
is_cell name arity = arity == 2 && same_text name (codes ".")

-- a term in braces has one argument and the name {}
abbrev pub is_braced : List ℕ → ℕ → Bool
is_braced name arity = arity == 1 && same_text name (codes "{}")

-- the list without elements
abbrev pub is_nil : List ℕ → Bool
is_nil name = same_text name (codes "[]")

-- Canonical writes no operators
abbrev pub has_operators : Style → Bool
has_operators Plain = true
has_operators Quoted = true
has_operators Canonical = false

-- of one argument: as a prefix operator where the name is both
abbrev pub unary : Option Prefix → Option Postfix → Shape
unary (Some p) after = Prefixed p
unary None (Some q) = Postfixed q
unary None None = Call

-- of two
abbrev pub binary : Option Infix → Shape
binary (Some i) = Infixed i
binary None = Call

abbrev pub operator_shape : Table → List ℕ → ℕ → Shape
operator_shape ops name arity =
    if arity == 1 then unary (prefix_op ops name) (postfix_op ops name) else (if arity == 2 then binary (infix_op ops name) else Call)

unfoldable pub shape_of : Table → Style → List ℕ → ℕ → Shape
shape_of ops style name arity =
    if is_cell name arity then Cell
    else (if is_braced name arity then Braced
    else (if has_operators style then operator_shape ops name arity else Call))

abbrev pub priority : Shape → ℕ
priority Cell = 0
priority Braced = 0
priority (Prefixed p) = p.priority
priority (Infixed i) = i.priority
priority (Postfixed q) = q.priority
priority Call = 0

-- a term of a yfx or yf operator
abbrev pub nests_left : Shape → Bool
nests_left Cell = false
nests_left Braced = false
nests_left (Prefixed p) = false
nests_left (Infixed i) = i.left == i.priority
nests_left (Postfixed q) = q.operand == q.priority
nests_left Call = false

-- A parenthesis stands round a term of a greater priority than its place allows; round a left operand of the operator's own
-- priority also where it is no yfx or yf term.
unfoldable pub is_enclosed : Place → Shape → Bool
is_enclosed (Within most) s = nat_lt most (priority s)
is_enclosed (Operand most) s = nat_lt most (priority s)
is_enclosed (Left most own) s = nat_lt most (priority s) || (priority s == own && not (nests_left s))

abbrev pub is_operand : Place → Bool
is_operand (Within most) = false
is_operand (Operand most) = true
is_operand (Left most own) = true

abbrev pub is_operator : Table → List ℕ → Bool
is_operator ops name = is_some (prefix_op ops name) || (is_some (infix_op ops name) || is_some (postfix_op ops name))

-- an atom that is an operator stands in a parenthesis where it is an operand
unfoldable pub is_atom_enclosed : Table → Style → Place → List ℕ → Bool
is_atom_enclosed ops style at name = is_operand at && (has_operators style && is_operator ops name)
