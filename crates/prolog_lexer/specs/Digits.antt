-- Digits of a base, and their value (docs/LANGUAGE.md, Tokens).
use Rattle.std.specs.Prelude.{ℕ, ◌+◌, ◌*◌, ◌-◌, List, [], ◌∷◌, Bool, false, nat_le, nat_lt, cond, Option, Some, None}
use Rattle.prolog_lexer.specs.Classes.{within}

-- what a digit is worth: 0 to 9, and a to f in both cases; 16 for every other byte, which is a digit of no base here
unfoldable pub digit : ℕ → ℕ
digit b = cond (within 48 57 b) (b - 48) (cond (within 97 102 b) (b - 87) (cond (within 65 70 b) (b - 55) 16))

abbrev pub is_digit_of : ℕ → ℕ → Bool
is_digit_of base b = nat_lt (digit b) base

abbrev pub begins_with_digit : ℕ → List ℕ → Bool
begins_with_digit base [] = false
begins_with_digit base (b ∷ bs) = is_digit_of base b

-- the value of digits after a value
abbrev pub value_from : ℕ → ℕ → List ℕ → ℕ
value_from base v [] = v
value_from base v (d ∷ ds) = value_from base (base * v + digit d) ds

abbrev pub value : ℕ → List ℕ → ℕ
value base digits = value_from base 0 digits

abbrev pub at_most : ℕ → ℕ → Option ℕ
at_most most n = cond (nat_le n most) (Some n) None
