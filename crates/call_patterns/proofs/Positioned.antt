-- The positions of a pattern, one argument after another.
use Rattle.std.proofs.Common.{◌≡◌, ℕ, zero, suc, ◌+◌, ◌*◌, ◌<◌, ◌≤◌, Bool, true, false, cond, List, [], ◌∷◌, ◌++◌, take, map, get_or, arith, refl, sym, ap, ◌∙◌}
use Rattle.std.proofs.lemmas.List.{append-nil, take_all}
use Rattle.std.proofs.lemmas.List.Elements.{filter-append}
use Rattle.std.specs.List.{filter}
use Rattle.call_patterns.specs.declared.key.Position.{Position}
use Rattle.call_patterns.specs.declared.pattern.Pattern.{Pattern}
use Rattle.call_patterns.specs.Patterns.{argument_positions, IsPattern}

-- one argument more
taken : (i : ℕ) → i < 8 → take (i + 1) argument_positions ≡ take i argument_positions ++ 5 * i ∷ []
taken zero lt = refl
taken (suc zero) lt = refl
taken (suc (suc zero)) lt = refl
taken (suc (suc (suc zero))) lt = refl
taken (suc (suc (suc (suc zero)))) lt = refl
taken (suc (suc (suc (suc (suc zero))))) lt = refl
taken (suc (suc (suc (suc (suc (suc zero)))))) lt = refl
taken (suc (suc (suc (suc (suc (suc (suc zero))))))) lt = refl
taken (suc (suc (suc (suc (suc (suc (suc (suc n)))))))) lt = absurd (omega arith)

-- no more than so many of a list that was cut
pub take_again : (n : ℕ) (xs ys : List ℕ) → take n (take n xs ++ ys) ≡ take n (xs ++ ys)
take_again zero xs ys = refl
take_again (suc n) [] ys = refl
take_again (suc n) (x ∷ xs) ys = ap (λ zs. x ∷ zs) (take_again n xs ys)

pub with_key : (p : ℕ → Bool) (i : ℕ) (old new : List ℕ) → i < 8 → p (5 * i) ≡ true
    → old ≡ take 3 (filter p (take i argument_positions)) → new ≡ take 3 (old ++ 5 * i ∷ [])
    → new ≡ take 3 (filter p (take (i + 1) argument_positions))
with_key p i old new lt e h k =
    let last : filter p (5 * i ∷ []) ≡ 5 * i ∷ [] = ap (λ b. cond b (5 * i ∷ []) []) e in
    let all : filter p (take (i + 1) argument_positions) ≡ filter p (take i argument_positions) ++ 5 * i ∷ [] =
    ap (filter p) (taken i lt) ∙ filter-append p (take i argument_positions) (5 * i ∷ []) ∙ ap (λ xs. filter p (take i argument_positions) ++ xs) last in
    k ∙ ap (λ xs. take 3 (xs ++ 5 * i ∷ [])) h ∙ take_again 3 (filter p (take i argument_positions)) (5 * i ∷ []) ∙ sym (ap (take 3) all)

pub without_key : (p : ℕ → Bool) (i : ℕ) (old : List ℕ) → i < 8 → p (5 * i) ≡ false
    → old ≡ take 3 (filter p (take i argument_positions)) → old ≡ take 3 (filter p (take (i + 1) argument_positions))
without_key p i old lt e h =
    let last : filter p (5 * i ∷ []) ≡ [] = ap (λ b. cond b (5 * i ∷ []) []) e in
    let all : filter p (take (i + 1) argument_positions) ≡ filter p (take i argument_positions) =
    ap (filter p) (taken i lt) ∙ filter-append p (take i argument_positions) (5 * i ∷ []) ∙ ap (λ xs. filter p (take i argument_positions) ++ xs) last
    ∙ append-nil (filter p (take i argument_positions)) in
    h ∙ sym (ap (take 3) all)

-- all of them
pub all_taken : (p : ℕ → Bool) (i : ℕ) (xs : List ℕ) → 8 ≤ i → xs ≡ take 3 (filter p (take i argument_positions)) → xs ≡ take 3 (filter p argument_positions)
all_taken p i xs le h = h ∙ ap (λ ys. take 3 (filter p ys)) (take_all i argument_positions le)

-- ---- what a pattern of two or three positions is

pub place_at : (qs : List Position) (i : ℕ) → (get_or qs i (record { 0 = 0 })).0 ≡ get_or (map (λ q. q.0) qs) i 0
place_at [] i = refl
place_at (q ∷ qs) zero = refl
place_at (q ∷ qs) (suc i) = place_at qs i

three_below : (a b c : ℕ) → a < 40 → b < 40 → c < 40 → (i : ℕ) → get_or (a ∷ b ∷ c ∷ []) i 0 < 40
three_below a b c f g h zero = f
three_below a b c f g h (suc zero) = g
three_below a b c f g h (suc (suc zero)) = h
three_below a b c f g h (suc (suc (suc i))) = omega arith

first_below : (p : Pattern) (i : ℕ) → IsPattern p → (get_or p.at i (record { 0 = 0 })).0 < 40
first_below p i h = let e = place_at p.at i in let lt = h.below i in omega arith

past_two : (a b : ℕ) (i : ℕ) → 2 ≤ i → get_or (a ∷ b ∷ 0 ∷ []) i 0 ≡ 0
past_two a b zero le = absurd (omega arith)
past_two a b (suc zero) le = absurd (omega arith)
past_two a b (suc (suc zero)) le = refl
past_two a b (suc (suc (suc i))) le = refl

past_three : (a b c : ℕ) (i : ℕ) → 3 ≤ i → get_or (a ∷ b ∷ c ∷ []) i 0 ≡ 0
past_three a b c zero le = absurd (omega arith)
past_three a b c (suc zero) le = absurd (omega arith)
past_three a b c (suc (suc zero)) le = absurd (omega arith)
past_three a b c (suc (suc (suc i))) le = refl

pub two_positions : (p : Pattern) (new : ℕ) → IsPattern p → new < 40
    → IsPattern (record { count = 2; at = get_or p.at 0 (record { 0 = 0 }) ∷ record { 0 = new } ∷ record { 0 = 0 } ∷ [] })
two_positions p new h lt = record {
  few = omega arith;
  three = refl;
  below = three_below (get_or p.at 0 (record { 0 = 0 })).0 new 0 (first_below p 0 h) lt (omega arith);
  past = past_two (get_or p.at 0 (record { 0 = 0 })).0 new;
}

pub three_positions : (p : Pattern) (new : ℕ) → IsPattern p → new < 40
    → IsPattern (record { count = 3; at = get_or p.at 0 (record { 0 = 0 }) ∷ get_or p.at 1 (record { 0 = 0 }) ∷ record { 0 = new } ∷ [] })
three_positions p new h lt = record {
  few = omega arith;
  three = refl;
  below = three_below (get_or p.at 0 (record { 0 = 0 })).0 (get_or p.at 1 (record { 0 = 0 })).0 new (first_below p 0 h) (first_below p 1 h) lt;
  past = past_three (get_or p.at 0 (record { 0 = 0 })).0 (get_or p.at 1 (record { 0 = 0 })).0 new;
}
