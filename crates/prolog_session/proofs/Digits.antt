-- The value of digits.
use Rattle.std.proofs.Common.{◌≡◌, ℕ, ◌+◌, ◌-◌, ◌*◌, ◌≤◌, ◌<◌, List, [], ◌∷◌, Bool, true, false, Some, None, refl, sym, ap, ◌∙◌, arith}
use Rattle.std.specs.Prelude.{◌&&◌, nat_le, if◌then◌else◌}
use Rattle.std.specs.List.{list_all}
use Rattle.std.proofs.lemmas.Bool.{lt-leb}
use Rattle.prolog_session.specs.Words.{is_digit, value_after, value_of, max_steps, steps_of}

-- more digits make a value no smaller
grows : (n : ℕ) (bs : List ℕ) → n ≤ value_after n bs
grows n [] = omega arith
grows n (b ∷ bs) = let more = grows (n * 10 + (b - 48)) bs in omega (arith, more)

no_steps : (a b : Bool) (n : ℕ) → None ≡ (if a && (b && false) then Some n else None)
no_steps true true n = refl
no_steps true false n = refl
no_steps false true n = refl
no_steps false false n = refl

-- too great a value stays too great
pub too_many : (word : List ℕ) (n : ℕ) (rest : List ℕ) → max_steps < n → value_after n rest ≡ value_of word → None ≡ steps_of word
unfolding steps_of
too_many word n rest more whole =
    let high : max_steps < value_of word = omega (arith, more, grows n rest, whole) in
    let e : nat_le (value_of word) max_steps ≡ false = lt-leb (value_of word) max_steps high in
    no_steps (list_all is_digit word) (nat_le 1 (value_of word)) (value_of word)
    ∙ ap (λ (b : Bool). if list_all is_digit word && (nat_le 1 (value_of word) && b) then Some (value_of word) else None) (sym e)
