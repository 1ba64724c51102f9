-- The rows, computed. The far shifts go by laws, since no computer holds the power.
use Rattle.std.proofs.Common.{◌≡◌, ℕ, suc, ◌^◌, ◌≤◌, refl, ap, arith, lit≤}
use Rattle.std.specs.Prelude.{pos, negsuc, codes}
use Rattle.std.proofs.Math.IntN.{zero-*ℤ}
use Rattle.prolog_arith.specs.Arithmetic.{Is, overflow, whole, evaluated}
use Rattle.prolog_arith.specs.Rows.{of_two, HasSums, HasDivisions, HasBits, HasShifts, HasFarShifts, HasFaults}
use Rattle.prolog_arith.proofs.Integers.{scaled-beyond}

pub has_sums : HasSums
unfolding evaluated
has_sums = record {
  sum = refl;
  sum_over = refl;
  difference = refl;
  difference_over = refl;
  product = refl;
  product_over = refl;
  opposite = refl;
  opposite_over = refl;
  absolute = refl;
  absolute_over = refl;
  absolute_above = refl;
  sign = refl;
  sign_above = refl;
  sign_zero = refl;
  min = refl;
  max = refl;
  min_turned = refl;
  max_turned = refl;
}

pub has_divisions : HasDivisions
unfolding evaluated
has_divisions = record {
  quotient_below = refl;
  quotient_of_negative = refl;
  rem_of_negative = refl;
  rem_by_negative = refl;
  mod_of_negative = refl;
  mod_by_negative = refl;
  mod_of_both = refl;
  quotient_over = refl;
  rem_least = refl;
  mod_least = refl;
  quotient_by_zero = refl;
  rem_by_zero = refl;
  mod_by_zero = refl;
}

pub has_bits : HasBits
unfolding evaluated
has_bits = record { complement = refl; both = refl; either = refl; both_above = refl; both_below = refl; either_above = refl; either_below = refl }

pub has_shifts : HasShifts
unfolding evaluated
has_shifts = record {
  left = refl;
  left_over = refl;
  left_least = refl;
  left_zero = refl;
  left_back = refl;
  right = refl;
  right_negative = refl;
  right_floor = refl;
  right_by_two = refl;
  right_floor_by_two = refl;
  left_by_three = refl;
  left_back_by_two = refl;
  right_back = refl;
}

pub has_faults : HasFaults
unfolding evaluated
has_faults = record { left = refl; right = refl; left_first = refl; name_first = refl; unbound = refl; list = refl; arity = refl; arity_three = refl }

far-one : (b : ℕ) → 63 ≤ b → of_two (codes ">>") (pos 1) (negsuc b) ≡ overflow
unfolding evaluated
far-one b far = scaled-beyond (pos 1) (suc b) (λ e. cc) (omega arith)

far-zero : (b : ℕ) → of_two (codes ">>") (pos 0) (negsuc b) ≡ Is (pos 0)
unfolding evaluated
far-zero b = ap whole (zero-*ℤ (pos (2 ^ suc b)))

pub has_far_shifts : HasFarShifts
has_far_shifts = record { over = far-one 0x7FFF_FFFF_FFFF_FFFF (lit≤ tt); of_zero = far-zero 0x7FFF_FFFF_FFFF_FFFF }
