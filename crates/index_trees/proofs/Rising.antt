-- A list of numbers that rises.
use Rattle.std.proofs.Common.{◌≡◌, ◌≢◌, ℕ, ◌<◌, ◌≤◌, List, length, get_or, arith, ap, ⊎_elim}
use Rattle.std.proofs.lemmas.Bool.{cases_eq, cases_lt}
use Rattle.std.proofs.lemmas.List.Kept.{AllPairs-from_increasing}
use Rattle.std.specs.List.Sorted.{IsStrictlyIncreasing}

pub rising_lt : (codes : List ℕ) → IsStrictlyIncreasing codes → (i j : ℕ) → i < j → j < length codes → get_or codes i 0 < get_or codes j 0
rising_lt codes up i j lt below = AllPairs-from_increasing codes up i j 0 lt below

pub rising_le : (codes : List ℕ) → IsStrictlyIncreasing codes → (i j : ℕ) → i ≤ j → j < length codes → get_or codes i 0 ≤ get_or codes j 0
rising_le codes up i j le below =
    ⊎_elim (λ e. let same = ap (λ n. get_or codes n 0) e in omega arith)
    (λ (ne : i ≢ j). let lt : i < j = omega arith in let h = rising_lt codes up i j lt below in omega arith)
    (cases_eq i j)

-- two places with one code are one place
pub rising_one : (codes : List ℕ) → IsStrictlyIncreasing codes → (i j : ℕ) → i < length codes → j < length codes → get_or codes i 0 ≡ get_or codes j 0 → i ≡ j
rising_one codes up i j p q e =
    ⊎_elim (λ h. h)
    (λ (ne : i ≢ j). absurd (⊎_elim
    (λ (lt : i < j). let h = rising_lt codes up i j lt q in omega arith)
    (λ (le : j ≤ i). let lt : j < i = omega arith in let h = rising_lt codes up j i lt p in omega arith)
    (cases_lt i j)))
    (cases_eq i j)
