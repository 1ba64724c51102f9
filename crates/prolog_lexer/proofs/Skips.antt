-- What the tokens after a piece are.
use Rattle.std.proofs.Common.{◌≡◌, ℕ, zero, suc, ◌+◌, ◌==◌, List, [], ◌∷◌, take, drop, refl, subst, arith, cond}
use Rattle.std.specs.Prelude.{count_by}
use Rattle.std.proofs.lemmas.List.Sums.{sum_by-cons}
use Rattle.prolog_lexer.specs.Streams.{stream, line_after}

abbrev pub newlines : List ℕ → ℕ
newlines bs = count_by (λ b. b == 10) bs

pub newlines-cons : (b : ℕ) (bs : List ℕ) → newlines (b ∷ bs) ≡ cond (b == 10) 1 0 + newlines bs
newlines-cons b bs = sum_by-cons (λ x. cond (x == 10) 1 0) b bs

pub skipped : (k at line : ℕ) (bs : List ℕ) → stream k at line bs ≡ stream 0 (at + k) (line + newlines (take k bs)) (drop k bs)
skipped zero at line [] = refl
skipped (suc k) at line [] = refl
skipped zero at line (b ∷ bs) =
    let p : at + 0 ≡ at = omega arith in
    let q : line + 0 ≡ line = omega arith in
    rw (p, q) refl
skipped (suc k) at line (b ∷ bs) =
    let p : at + 1 + k ≡ at + suc k = omega arith in
    let q : line + cond (b == 10) 1 0 + newlines (take k bs) ≡ line + newlines (b ∷ take k bs) = omega (arith, newlines-cons b (take k bs)) in
    subst (λ x. stream k (at + 1) (line_after b line) bs ≡ stream 0 x (line + newlines (b ∷ take k bs)) (drop k bs)) p
    (subst (λ x. stream k (at + 1) (line_after b line) bs ≡ stream 0 (at + 1 + k) x (drop k bs)) q
    (skipped k (at + 1) (line_after b line) bs))
