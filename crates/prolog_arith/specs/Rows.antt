-- Worked rows of arithmetic.
use Rattle.std.specs.Prelude.{◌≡◌, ℕ, ℤ, pos, negsuc, List, codes}
use Rattle.prolog_terms.specs.Tree.{Tree, variable, integer, atom, compound, none, more}
use Rattle.prolog_terms.specs.Faults.{one, two}
use Rattle.prolog_terms.specs.declared.fault.Fault.TheVariants.{Instantiation}
use Rattle.prolog_arith.specs.Arithmetic.{Value, Is, Raises, overflow, zero_divisor, not_evaluable, evaluated}

-- the least integer
abbrev pub least : ℤ
least = negsuc 0x7FFF_FFFF_FFFF_FFFF

abbrev foo : Tree
foo = atom (codes "foo")

abbrev no_foo : Value
no_foo = not_evaluable (codes "foo") 0

-- 1 // 0
abbrev by_zero : Tree
by_zero = two (codes "//") (integer (pos 1)) (integer (pos 0))

-- the value of a name applied to one integer, and to two
abbrev pub of_one : List ℕ → ℤ → Value
of_one f a = evaluated (one f (integer a))

abbrev pub of_two : List ℕ → ℤ → ℤ → Value
of_two f a b = evaluated (two f (integer a) (integer b))

pub record HasSums : Type 0 where
  pub sum : of_two (codes "+") (pos 2) (negsuc 4) ≡ Is (negsuc 2)
  pub sum_over : of_two (codes "+") (pos 0x7FFF_FFFF_FFFF_FFFF) (pos 1) ≡ overflow
  pub difference : of_two (codes "-") (pos 2) (pos 5) ≡ Is (negsuc 2)
  pub difference_over : of_two (codes "-") least (pos 1) ≡ overflow
  pub product : of_two (codes "*") (negsuc 2) (pos 4) ≡ Is (negsuc 11)
  pub product_over : of_two (codes "*") least (negsuc 0) ≡ overflow
  pub opposite : of_one (codes "-") (pos 7) ≡ Is (negsuc 6)
  pub opposite_over : of_one (codes "-") least ≡ overflow
  pub absolute : of_one (codes "abs") (negsuc 6) ≡ Is (pos 7)
  pub absolute_over : of_one (codes "abs") least ≡ overflow
  pub absolute_above : of_one (codes "abs") (pos 7) ≡ Is (pos 7)
  pub sign : of_one (codes "sign") (negsuc 6) ≡ Is (negsuc 0)
  pub sign_above : of_one (codes "sign") (pos 7) ≡ Is (pos 1)
  pub sign_zero : of_one (codes "sign") (pos 0) ≡ Is (pos 0)
  pub min : of_two (codes "min") (pos 2) (negsuc 4) ≡ Is (negsuc 4)
  pub max : of_two (codes "max") (pos 2) (negsuc 4) ≡ Is (pos 2)
  pub min_turned : of_two (codes "min") (negsuc 4) (pos 2) ≡ Is (negsuc 4)
  pub max_turned : of_two (codes "max") (negsuc 4) (pos 2) ≡ Is (pos 2)

pub record HasDivisions : Type 0 where
  -- 7 // -2 and -7 // 2: toward zero
  pub quotient_below : of_two (codes "//") (pos 7) (negsuc 1) ≡ Is (negsuc 2)
  pub quotient_of_negative : of_two (codes "//") (negsuc 6) (pos 2) ≡ Is (negsuc 2)
  -- -7 rem 2 and 7 rem -2: the sign of the dividend
  pub rem_of_negative : of_two (codes "rem") (negsuc 6) (pos 2) ≡ Is (negsuc 0)
  pub rem_by_negative : of_two (codes "rem") (pos 7) (negsuc 1) ≡ Is (pos 1)
  -- -7 mod 2, 7 mod -2 and -7 mod -2: the sign of the divisor
  pub mod_of_negative : of_two (codes "mod") (negsuc 6) (pos 2) ≡ Is (pos 1)
  pub mod_by_negative : of_two (codes "mod") (pos 7) (negsuc 1) ≡ Is (negsuc 0)
  pub mod_of_both : of_two (codes "mod") (negsuc 6) (negsuc 1) ≡ Is (negsuc 0)
  -- the least integer by -1
  pub quotient_over : of_two (codes "//") least (negsuc 0) ≡ overflow
  pub rem_least : of_two (codes "rem") least (negsuc 0) ≡ Is (pos 0)
  pub mod_least : of_two (codes "mod") least (negsuc 0) ≡ Is (pos 0)
  pub quotient_by_zero : of_two (codes "//") (pos 1) (pos 0) ≡ zero_divisor
  pub rem_by_zero : of_two (codes "rem") (pos 1) (pos 0) ≡ zero_divisor
  pub mod_by_zero : of_two (codes "mod") (pos 1) (pos 0) ≡ zero_divisor

pub record HasBits : Type 0 where
  -- \ 0, -8 /\ 5 and -8 \/ 5
  pub complement : of_one (codes "\\") (pos 0) ≡ Is (negsuc 0)
  pub both : of_two (codes "/\\") (negsuc 7) (pos 5) ≡ Is (pos 0)
  pub either : of_two (codes "\\/") (negsuc 7) (pos 5) ≡ Is (negsuc 2)
  -- 12 /\ 10, -4 /\ 6, 12 \/ 10 and -8 \/ 12
  pub both_above : of_two (codes "/\\") (pos 12) (pos 10) ≡ Is (pos 8)
  pub both_below : of_two (codes "/\\") (negsuc 3) (pos 6) ≡ Is (pos 4)
  pub either_above : of_two (codes "\\/") (pos 12) (pos 10) ≡ Is (pos 14)
  pub either_below : of_two (codes "\\/") (negsuc 7) (pos 12) ≡ Is (negsuc 3)

pub record HasShifts : Type 0 where
  pub left : of_two (codes "<<") (pos 1) (pos 62) ≡ Is (pos 0x4000_0000_0000_0000)
  pub left_over : of_two (codes "<<") (pos 1) (pos 63) ≡ overflow
  pub left_least : of_two (codes "<<") (negsuc 0) (pos 63) ≡ Is least
  pub left_zero : of_two (codes "<<") (pos 0) (pos 100000) ≡ Is (pos 0)
  pub left_back : of_two (codes "<<") (pos 1) (negsuc 0) ≡ Is (pos 0)
  pub right : of_two (codes ">>") (pos 1) (pos 200) ≡ Is (pos 0)
  pub right_negative : of_two (codes ">>") (negsuc 0) (pos 200) ≡ Is (negsuc 0)
  -- -1 >> 1: the floor
  pub right_floor : of_two (codes ">>") (negsuc 0) (pos 1) ≡ Is (negsuc 0)
  -- 13 >> 2, -13 >> 2, -5 << 3, 13 << -2 and 1 >> -3
  pub right_by_two : of_two (codes ">>") (pos 13) (pos 2) ≡ Is (pos 3)
  pub right_floor_by_two : of_two (codes ">>") (negsuc 12) (pos 2) ≡ Is (negsuc 3)
  pub left_by_three : of_two (codes "<<") (negsuc 4) (pos 3) ≡ Is (negsuc 39)
  pub left_back_by_two : of_two (codes "<<") (pos 13) (negsuc 1) ≡ Is (pos 3)
  pub right_back : of_two (codes ">>") (pos 1) (negsuc 2) ≡ Is (pos 8)

-- shifts to the right by the least integer, so to the left by 2 ^ 63
pub record HasFarShifts : Type 0 where
  pub over : of_two (codes ">>") (pos 1) least ≡ overflow
  pub of_zero : of_two (codes ">>") (pos 0) least ≡ Is (pos 0)

pub record HasFaults : Type 0 where
  -- foo + 1 and 1 + foo
  pub left : evaluated (two (codes "+") foo (integer (pos 1))) ≡ no_foo
  pub right : evaluated (two (codes "+") (integer (pos 1)) foo) ≡ no_foo
  -- (1 // 0) + foo: the left operand comes first
  pub left_first : evaluated (two (codes "+") by_zero foo) ≡ zero_divisor
  -- foo(1 // 0): the name comes before its operand
  pub name_first : evaluated (one (codes "foo") by_zero) ≡ not_evaluable (codes "foo") 1
  -- X + foo
  pub unbound : evaluated (two (codes "+") (variable 0) foo) ≡ Raises Instantiation
  -- [X]: a list is no evaluable
  pub list : evaluated (two (codes ".") (variable 0) (atom (codes "[]"))) ≡ not_evaluable (codes ".") 2
  -- the same name with another count of operands
  pub arity : evaluated (one (codes "+") (integer (pos 1))) ≡ not_evaluable (codes "+") 1
  pub arity_three : evaluated (compound (codes "+") (more by_zero (more foo (more foo none)))) ≡ not_evaluable (codes "+") 3
