-- How many items pass a test.
use Rattle.std.proofs.Common.{◌≡◌, ℕ, zero, suc, ◌+◌, ◌<◌, Bool, true, false, cond, List, [], ◌∷◌, length, take, get_or, arith, ap}
use Rattle.std.specs.List.{filter}
use Rattle.index_trees.specs.declared.item.Item.{Item}

abbrev pub one_if : Bool → ℕ
one_if true = 1
one_if false = 0

-- one item more is counted where it passes
pub counted : (p : Item → Bool) (it : Item) (its : List Item) → length (filter p (it ∷ its)) ≡ one_if (p it) + length (filter p its)
counted p it its = one (p it)
  where
    one : (b : Bool) → length (cond b (it ∷ filter p its) (filter p its)) ≡ one_if b + length (filter p its)
    one true = omega arith
    one false = omega arith

taken : (p : Item → Bool) (xs : List Item) (i : ℕ) (d : Item) → i < length xs
    → length (filter p (take (suc i) xs)) ≡ length (filter p (take i xs)) + one_if (p (get_or xs i d))
taken p [] i d lt = absurd (omega arith)
taken p (x ∷ xs) zero d lt = let here = counted p x [] in omega arith
taken p (x ∷ xs) (suc i) d lt =
    let a = counted p x (take (suc i) xs) in
    let b = counted p x (take i xs) in
    let h = taken p xs i d (omega arith) in
    omega arith

pub one_more : (p : Item → Bool) (xs : List Item) (i : ℕ) (d : Item) (old new : ℕ) → i < length xs → p (get_or xs i d) ≡ true
    → old ≡ length (filter p (take i xs)) → new ≡ old + 1 → new ≡ length (filter p (take (i + 1) xs))
one_more p xs i d old new lt yes_it h e =
    let t = taken p xs i d lt in
    let one : one_if (p (get_or xs i d)) ≡ 1 = ap one_if yes_it in
    let same = ap (λ n. length (filter p (take n xs))) (let s : suc i ≡ i + 1 = omega arith in s) in
    omega arith

pub no_more : (p : Item → Bool) (xs : List Item) (i : ℕ) (d : Item) (old : ℕ) → i < length xs → p (get_or xs i d) ≡ false
    → old ≡ length (filter p (take i xs)) → old ≡ length (filter p (take (i + 1) xs))
no_more p xs i d old lt no_it h =
    let t = taken p xs i d lt in
    let one : one_if (p (get_or xs i d)) ≡ 0 = ap one_if no_it in
    let same = ap (λ n. length (filter p (take n xs))) (let s : suc i ≡ i + 1 = omega arith in s) in
    omega arith
