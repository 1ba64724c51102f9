-- Two lists that agree at each place, one place after another.
use Rattle.std.proofs.Common.{◌≡◌, ◌<◌, ◌≤◌, ◌+◌, ℕ, zero, suc, List, [], ◌∷◌, Bool, true, length, drop, refl, ap, ◌∙◌, arith, get_or, None, Option}
use Rattle.std.specs.Prelude.{◌&&◌, option_map}
use Rattle.std.specs.Cmp.Lexicographic.{pointwise}
use Rattle.std.proofs.lemmas.List.{get_or-map, length-map}
use Rattle.call_patterns.specs.Keys.{keys_agree}
use Rattle.call_patterns.specs.Keys as terms
use Rattle.call_patterns.specs.Calls.{key_of, IsKeyOf, AreKeysOf, goal_keys}
use Rattle.call_patterns.specs.declared.key.Key.{Key}

pub one_place : (xs ys : List (Option terms.Key)) (p : ℕ) → p < length xs → p < length ys
    → pointwise keys_agree (drop p xs) (drop p ys) ≡ (keys_agree (get_or xs p None) (get_or ys p None) && pointwise keys_agree (drop (p + 1) xs) (drop (p + 1) ys))
one_place [] ys p h g = absurd (omega arith)
one_place (x ∷ xs) [] p h g = absurd (omega arith)
one_place (x ∷ xs) (y ∷ ys) zero h g = refl
one_place (x ∷ xs) (y ∷ ys) (suc p) h g =
    one_place xs ys p (omega arith) (omega arith)
    ∙ ap (λ n. keys_agree (get_or xs p None) (get_or ys p None) && pointwise keys_agree (drop n (x ∷ xs)) (drop n (y ∷ ys))) (plus p)
  where
    plus : (p : ℕ) → suc (p + 1) ≡ suc p + 1
    plus p = omega arith

-- the keys agree from this position on
abbrev pub agree_from : List (List ℕ) → List (Option Key) → List (Option Key) → ℕ → Bool
agree_from names h g p = pointwise keys_agree (drop p (goal_keys names h)) (drop p (goal_keys names g))

pub one_key : (names : List (List ℕ)) (h g : List (Option Key)) → AreKeysOf names h → AreKeysOf names g → (p : ℕ) → p < 40
    → agree_from names h g p ≡ (keys_agree (option_map (key_of names) (get_or h p None)) (option_map (key_of names) (get_or g p None)) && agree_from names h g (p + 1))
one_key names h g hs gs p few =
    let inh : p < length h = omega (arith, hs.whole) in
    let ing : p < length g = omega (arith, gs.whole) in
    let lh = length-map h (option_map (key_of names)) in
    let lg = length-map g (option_map (key_of names)) in
    one_place (goal_keys names h) (goal_keys names g) p (omega (arith, lh)) (omega (arith, lg))
    ∙ ap (λ x. keys_agree x (get_or (goal_keys names g) p None) && agree_from names h g (p + 1)) (get_or-map (option_map (key_of names)) h p None None inh)
    ∙ ap (λ y. keys_agree (option_map (key_of names) (get_or h p None)) y && agree_from names h g (p + 1)) (get_or-map (option_map (key_of names)) g p None None ing)

pub none_left : (names : List (List ℕ)) (h g : List (Option Key)) → AreKeysOf names h → AreKeysOf names g → (p : ℕ) → 40 ≤ p → agree_from names h g p ≡ true
none_left names h g hs gs p le = past (goal_keys names h) (goal_keys names g) p (omega (arith, length-map h (option_map (key_of names)), hs.whole)) (omega (arith, length-map g (option_map (key_of names)), gs.whole))
  where
    rest : (ys : List (Option terms.Key)) (p : ℕ) → length ys ≤ p → pointwise keys_agree [] (drop p ys) ≡ true
    rest [] zero g = refl
    rest [] (suc p) g = refl
    rest (y ∷ ys) zero g = absurd (omega arith)
    rest (y ∷ ys) (suc p) g = rest ys p (omega arith)

    left : (xs : List (Option terms.Key)) (p : ℕ) → length xs ≤ p → pointwise keys_agree (drop p xs) [] ≡ true
    left [] zero g = refl
    left [] (suc p) g = refl
    left (x ∷ xs) zero g = absurd (omega arith)
    left (x ∷ xs) (suc p) g = left xs p (omega arith)

    past : (xs ys : List (Option terms.Key)) (p : ℕ) → length xs ≤ p → length ys ≤ p → pointwise keys_agree (drop p xs) (drop p ys) ≡ true
    past [] [] zero h g = refl
    past [] [] (suc p) h g = refl
    past [] (y ∷ ys) zero h g = absurd (omega arith)
    past [] (y ∷ ys) (suc p) h g = rest ys p (omega arith)
    past (x ∷ xs) ys zero h g = absurd (omega arith)
    past (x ∷ xs) [] (suc p) h g = left xs p (omega arith)
    past (x ∷ xs) (y ∷ ys) (suc p) h g = past xs ys p (omega arith) (omega arith)

pub numbered_at : (names : List (List ℕ)) (ks : List (Option Key)) → AreKeysOf names ks → (p : ℕ) → p < 40 → IsKeyOf names (get_or ks p None)
numbered_at names ks are p few = let lt : p < length ks = omega (arith, are.whole) in are.numbered p None lt
