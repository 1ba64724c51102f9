-- The value of a term (docs/LANGUAGE.md, "Arithmetic"; ISO/IEC 13211-1, 9.1 to 9.4).
use Rattle.std.specs.Prelude.{ℕ, ◌+◌, ◌==◌, Bool, true, false, ◌&&◌, List, ℤ, pos, negsuc, ◌+ℤ◌, ◌-ℤ◌, ◌*ℤ◌, neg_ℤ, unsigned_abs, nat_lt, if◌then◌else◌, Option, Some, None, option_map, codes}
use Rattle.std.specs.Int.{w64, int_signum, int_min, int_max, int_bit_and, int_bit_or, int_bit_not}
use Rattle.prolog_terms.specs.Tree.{Tree, variable, integer, atom, compound, none, more, count}
use Rattle.prolog_terms.specs.Clauses.{is_named}
use Rattle.prolog_terms.specs.Faults.{two}
use Rattle.prolog_terms.specs.declared.fault.Fault.{Fault}
use Rattle.prolog_terms.specs.declared.fault.Fault.TheVariants.{Instantiation, OfType, Evaluation}
use Rattle.prolog_arith.specs.Operations.{quotient, remainder, modulo, shifted}
use Rattle.prolog_arith.specs.declared.operation.Unary.{Unary}
use Rattle.prolog_arith.specs.declared.operation.Unary.TheVariants.{Opposite, Absolute, Signum, Complement}
use Rattle.prolog_arith.specs.declared.operation.Binary.{Binary}
use Rattle.prolog_arith.specs.declared.operation.Binary.TheVariants.{Sum, Difference, Product, Least, Greatest, Quotient, Remainder, Modulo, BothBits, EitherBits, ShiftLeft, ShiftRight}
use Rattle.prolog_arith.specs.declared.operation.Operation.{Operation}
use Rattle.prolog_arith.specs.declared.operation.Operation.TheVariants.{One, Two}

pub data Value : Type 0 where
  -- it is this integer
  Is : ℤ → Value
  -- it has none
  Raises : Fault → Value

-- ---- the evaluables

abbrev pub unary_of : List ℕ → Option Unary
unary_of f =
    if is_named (codes "-") f then Some Opposite
    else if is_named (codes "abs") f then Some Absolute
    else if is_named (codes "sign") f then Some Signum
    else if is_named (codes "\\") f then Some Complement
    else None

abbrev pub bits_of : List ℕ → Option Binary
bits_of f =
    if is_named (codes "/\\") f then Some BothBits
    else if is_named (codes "\\/") f then Some EitherBits
    else if is_named (codes "<<") f then Some ShiftLeft
    else if is_named (codes ">>") f then Some ShiftRight
    else None

abbrev pub division_of : List ℕ → Option Binary
division_of f =
    if is_named (codes "//") f then Some Quotient
    else if is_named (codes "rem") f then Some Remainder
    else if is_named (codes "mod") f then Some Modulo
    else bits_of f

abbrev pub binary_of : List ℕ → Option Binary
binary_of f =
    if is_named (codes "+") f then Some Sum
    else if is_named (codes "-") f then Some Difference
    else if is_named (codes "*") f then Some Product
    else if is_named (codes "min") f then Some Least
    else if is_named (codes "max") f then Some Greatest
    else division_of f

-- the operation of this name and so many operands
abbrev pub operation_of : List ℕ → ℕ → Option Operation
operation_of f arity =
    if arity == 1 then option_map One (unary_of f)
    else if arity == 2 then option_map Two (binary_of f)
    else None

-- ---- what they give over all integers

abbrev pub unary : Unary → ℤ → ℤ
unary Opposite a = neg_ℤ a
unary Absolute a = pos (unsigned_abs a)
unary Signum a = int_signum a
-- the bits of two's complement are those of 64 bits
unary Complement a = int_bit_not w64 a

abbrev pub binary : Binary → ℤ → ℤ → ℤ
binary Sum a b = a +ℤ b
binary Difference a b = a -ℤ b
binary Product a b = a *ℤ b
binary Least a b = int_min a b
binary Greatest a b = int_max a b
binary Quotient a b = quotient a b
binary Remainder a b = remainder a b
binary Modulo a b = modulo a b
binary BothBits a b = int_bit_and w64 a b
binary EitherBits a b = int_bit_or w64 a b
binary ShiftLeft a b = shifted a b
binary ShiftRight a b = shifted a (neg_ℤ b)

-- the right operand divides the left one
abbrev pub is_division : Binary → Bool
is_division Quotient = true
is_division Remainder = true
is_division Modulo = true
is_division o = false

-- ---- and as values

abbrev pub overflow : Value
overflow = Raises (Evaluation (codes "int_overflow"))

abbrev pub zero_divisor : Value
zero_divisor = Raises (Evaluation (codes "zero_divisor"))

-- from -2 ^ 63 to 2 ^ 63 - 1
abbrev pub is_whole : ℤ → Bool
is_whole (pos n) = nat_lt n 0x8000_0000_0000_0000
is_whole (negsuc n) = nat_lt n 0x8000_0000_0000_0000

abbrev pub whole : ℤ → Value
whole z = if is_whole z then Is z else overflow

abbrev pub is_zero : ℤ → Bool
is_zero (pos n) = n == 0
is_zero (negsuc n) = false

abbrev pub unary_value : Unary → ℤ → Value
unary_value o a = whole (unary o a)

abbrev pub binary_value : Binary → ℤ → ℤ → Value
binary_value o a b = if is_division o && is_zero b then zero_divisor else whole (binary o a b)

-- ---- terms

-- type_error(evaluable, F/N)
abbrev pub not_evaluable : List ℕ → ℕ → Value
not_evaluable f arity = Raises (OfType (codes "evaluable") (two (codes "/") (atom f) (integer (pos arity))))

-- what an operation of one operand gives, by its name and the value of its operand
abbrev pub by_one : List ℕ → Option Unary → Value → Value
by_one f None v = not_evaluable f 1
by_one f (Some o) (Raises e) = Raises e
by_one f (Some o) (Is a) = unary_value o a

-- and one of two: the left operand's fault comes first
abbrev pub by_two : List ℕ → Option Binary → Value → Value → Value
by_two f None v w = not_evaluable f 2
by_two f (Some o) (Raises e) w = Raises e
by_two f (Some o) (Is a) (Raises e) = Raises e
by_two f (Some o) (Is a) (Is b) = binary_value o a b

unfoldable pub evaluated : Tree → Value
evaluated (variable n) = Raises Instantiation
evaluated (integer z) = Is z
evaluated (atom a) = not_evaluable a 0
evaluated (compound f none) = not_evaluable f 0
evaluated (compound f (more t none)) = by_one f (unary_of f) (evaluated t)
evaluated (compound f (more t (more u none))) = by_two f (binary_of f) (evaluated t) (evaluated u)
evaluated (compound f (more t (more u (more v ts)))) = not_evaluable f (count ts + 3)
