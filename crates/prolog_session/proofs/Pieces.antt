use Rattle.std.proofs.Common.{◌≡◌, ℕ, ◌+◌, ◌-◌, ◌≤◌, List, ◌++◌, length, take, drop, subst, sym, ap, ◌∙◌, append_assoc, arith}
use Rattle.std.proofs.lemmas.List.{take-append-drop, take-take, drop-take, drop-drop, length-take-le, length-drop, take_at}

-- three pieces that were put at the end, one after the other, the last of two parts
pub three_put : (old a b p q first second third : List ℕ) → first ≡ old ++ a → second ≡ first ++ b → third ≡ second ++ (p ++ q) → third ≡ old ++ (((a ++ b) ++ p) ++ q)
three_put old a b p q first second third f g h = rw (h, g, f) (simp append_assoc)

-- two pieces after each other are one piece
pub taken_twice : (n k : ℕ) (xs : List ℕ) → take n xs ++ take k (drop n xs) ≡ take (n + k) xs
taken_twice n k xs =
    let le : n ≤ n + k = omega arith in
    let whole = take-append-drop n (take (n + k) xs) in
    let front = take-take n (n + k) xs le in
    let back = drop-take n k xs in
    subst (λ (s : List ℕ). take n xs ++ s ≡ take (n + k) xs) back
    (subst (λ (s : List ℕ). s ++ drop n (take (n + k) xs) ≡ take (n + k) xs) front whole)

-- what was copied into the front of a slice, and then what is left, is what there was
pub copied_then_left : (n at : ℕ) (xs copied rest : List ℕ) → at + n ≤ length xs → copied ≡ take (at + n - at) (drop at xs)
    → drop at xs ≡ take n (copied ++ rest) ++ drop (at + n) xs
copied_then_left n at xs copied rest within is =
    let size : at + n - at ≡ n = omega arith in
    let piece : copied ≡ take n (drop at xs) = is ∙ ap (λ (k : ℕ). take k (drop at xs)) size in
    let long : n ≤ length (drop at xs) = rw (length-drop at xs) (omega arith) in
    let len : length copied ≡ n = ap (length {A = ℕ}) piece ∙ length-take-le n (drop at xs) long in
    let front : take n (copied ++ rest) ≡ take n (drop at xs) = take_at copied rest n len ∙ piece in
    rw (front, ← drop-drop n at xs) (sym (take-append-drop n (drop at xs)))
