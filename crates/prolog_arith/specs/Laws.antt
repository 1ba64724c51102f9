-- What the quotients and the shifts leave, which says what they are.
use Rattle.std.specs.Prelude.{◌≡◌, ◌≢◌, ℕ, suc, ◌^◌, ◌<◌, ℤ, pos, negsuc, ◌+ℤ◌, ◌-ℤ◌, ◌*ℤ◌, neg_ℤ, ◌≤ℤ◌, ◌<ℤ◌, unsigned_abs, FitsSigned}
use Rattle.std.specs.Int.{w64}
use Rattle.prolog_arith.specs.Operations.{remainder, modulo, shifted}
use Rattle.prolog_arith.specs.declared.operation.Unary.TheVariants.{Complement}
use Rattle.prolog_arith.specs.Arithmetic.{unary}

-- `//` is toward zero: what is left has the sign of the dividend, and is smaller than the divisor
pub record RemainderIsSmall : Type 0 where
  pub up : (n : ℕ) (b : ℤ) → b ≢ pos 0 → (pos 0 ≤ℤ remainder (pos n) b) × (unsigned_abs (remainder (pos n) b) < unsigned_abs b)
  pub down : (n : ℕ) (b : ℤ) → b ≢ pos 0 → (remainder (negsuc n) b ≤ℤ pos 0) × (unsigned_abs (remainder (negsuc n) b) < unsigned_abs b)

-- the floor of a / b is the one integer whose product with b leaves something from 0 on to b
pub record ModuloIsSmall : Type 0 where
  pub up : (a : ℤ) (m : ℕ) → (pos 0 ≤ℤ modulo a (pos (suc m))) × (modulo a (pos (suc m)) <ℤ pos (suc m))
  pub down : (a : ℤ) (m : ℕ) → (negsuc m <ℤ modulo a (negsuc m)) × (modulo a (negsuc m) ≤ℤ pos 0)

-- a shift to the right is the one integer whose product with the power is a, or below it by less than the power
pub record ShiftsAreFloors : Type 0 where
  pub low : (a : ℤ) (b : ℕ) → (shifted a (negsuc b) *ℤ pos (2 ^ suc b)) ≤ℤ a
  pub high : (a : ℤ) (b : ℕ) → a <ℤ ((shifted a (negsuc b) +ℤ pos 1) *ℤ pos (2 ^ suc b))

-- each bit turned
abbrev pub ComplementIsOpposite : Type 0
ComplementIsOpposite = (a : ℤ) → FitsSigned w64 a → unary Complement a ≡ neg_ℤ a -ℤ pos 1
