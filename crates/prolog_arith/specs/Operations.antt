-- What the operations of arithmetic give over all integers (docs/LANGUAGE.md, "Arithmetic"; ISO/IEC 13211-1, 9.1 to 9.4).
use Rattle.std.specs.Prelude.{suc, ◌^◌, ℤ, pos, negsuc, ◌-ℤ◌, ◌*ℤ◌, neg_ℤ, int_lt, int_div, if◌then◌else◌}
use Rattle.std.specs.Int.{int_div_euclid}

-- a / b toward zero
abbrev pub quotient : ℤ → ℤ → ℤ
quotient a b = int_div a b

-- what the quotient leaves: it has the sign of a
abbrev pub remainder : ℤ → ℤ → ℤ
remainder a b = a -ℤ quotient a b *ℤ b

-- the floor of a / b, which is that of -a / -b: the Euclidean quotient by a positive number
abbrev pub floored : ℤ → ℤ → ℤ
floored a b = if int_lt b (pos 0) then int_div_euclid (neg_ℤ a) (neg_ℤ b) else int_div_euclid a b

-- what the floor leaves: it has the sign of b
abbrev pub modulo : ℤ → ℤ → ℤ
modulo a b = a -ℤ b *ℤ floored a b

-- a times 2 ^ b, or the floor of a / 2 ^ -b
abbrev pub shifted : ℤ → ℤ → ℤ
shifted a (pos b) = a *ℤ pos (2 ^ b)
shifted a (negsuc b) = floored a (pos (2 ^ suc b))
