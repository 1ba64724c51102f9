-- Texts of which each number has its own: those of names, and further ones.
use Rattle.std.proofs.Common.{◌≡◌, ℕ, zero, suc, ◌+◌, ◌<◌, ◌≤◌, List, [], ◌∷◌, length, Bool, true, false, cond, nat_eq, nat_lt, refl, sym, ap, arith, replicate}
use Rattle.std.specs.Cmp.Lexicographic.{pointwise, bytes_decides}
use Rattle.std.specs.List.{IsDistinct, AllByRecursion}
use Rattle.std.proofs.lemmas.Bool.Decides.{nat_tests}
use Rattle.std.proofs.lemmas.List.{length-replicate}
use Rattle.std.proofs.lemmas.Map.Keys.{IsDistinct-head, IsDistinct-tail}
use Rattle.term_store.specs.Terms.{text}
use Rattle.term_store.specs.Later.{AreDistinct}
use Rattle.term_store.specs.Work.{IsInjective}

abbrev pub total : List (List ℕ) → ℕ
total [] = 0
total (t ∷ ts) = length t + total ts

short : (texts : List (List ℕ)) (n : ℕ) → length (text texts n) ≤ total texts
short [] n = omega arith
short (t ∷ ts) zero = let h : length t ≤ length t + total ts = omega arith in h
short (t ∷ ts) (suc n) = let h = short ts n in let k : length (text ts n) ≤ length t + total ts = omega (arith, h) in k

abbrev pub naming : List (List ℕ) → ℕ → List ℕ
naming texts n = cond (nat_lt n (length texts)) (text texts n) (replicate (suc (total texts + n)) 0)

pub naming-low : (texts : List (List ℕ)) (n : ℕ) → n < length texts → text texts n ≡ naming texts n
naming-low texts n low = let t : nat_lt n (length texts) ≡ true = grind (arith, nat_tests) in rw t refl

-- no two numbers have one text
apart-head : (t : List ℕ) (ts : List (List ℕ)) → AllByRecursion (λ y. pointwise nat_eq t y ≡ false) ts → (n : ℕ) → n < length ts → t ≡ text ts n → ⊥
apart-head t [] h n low e = absurd (omega arith)
apart-head t (u ∷ ts) h zero low e = let k = (bytes_decides t u).1 e in let f = h.0 in cc
apart-head t (u ∷ ts) h (suc n) low e = apart-head t ts h.1 n (omega arith) e

distinct-numbers : (ts : List (List ℕ)) → IsDistinct (pointwise nat_eq) ts → (m n : ℕ) → m < length ts → n < length ts → text ts m ≡ text ts n → m ≡ n
distinct-numbers [] h m n low lt e = absurd (omega arith)
distinct-numbers (t ∷ ts) h zero zero low lt e = refl
distinct-numbers (t ∷ ts) h zero (suc n) low lt e = absurd (apart-head t ts (IsDistinct-head (pointwise nat_eq) t ts h) n (omega arith) e)
distinct-numbers (t ∷ ts) h (suc m) zero low lt e = absurd (apart-head t ts (IsDistinct-head (pointwise nat_eq) t ts h) m (omega arith) (sym e))
distinct-numbers (t ∷ ts) h (suc m) (suc n) low lt e = ap suc (distinct-numbers ts (IsDistinct-tail (pointwise nat_eq) t ts h) m n (omega arith) (omega arith) e)

pub naming-injective : (texts : List (List ℕ)) → AreDistinct texts → IsInjective (naming texts)
naming-injective texts h m n e = go (nat_lt m (length texts)) (nat_lt n (length texts)) refl refl e
  where
    go : (a b : Bool) → nat_lt m (length texts) ≡ a → nat_lt n (length texts) ≡ b
        → cond a (text texts m) (replicate (suc (total texts + m)) 0) ≡ cond b (text texts n) (replicate (suc (total texts + n)) 0) → m ≡ n
    go true true p q k =
        let low : m < length texts = grind (arith, nat_tests) in let lt : n < length texts = grind (arith, nat_tests) in
        distinct-numbers texts h m n low lt k
    go true false p q k = let l = ap length k in let s = short texts m in let r = length-replicate {A = ℕ} (suc (total texts + n)) 0 in absurd (omega (arith, l, s, r))
    go false true p q k = let l = ap length k in let s = short texts n in let r = length-replicate {A = ℕ} (suc (total texts + m)) 0 in absurd (omega (arith, l, s, r))
    go false false p q k =
        let l = ap length k in let r = length-replicate {A = ℕ} (suc (total texts + m)) 0 in let t = length-replicate {A = ℕ} (suc (total texts + n)) 0 in omega (arith, l, r, t)
