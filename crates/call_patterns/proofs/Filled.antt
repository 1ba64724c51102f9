-- The keys of a term, one position after another, while texts get numbers.
use Rattle.std.proofs.Common.{◌≡◌, ◌<◌, ◌≤◌, ◌+◌, ℕ, zero, suc, List, [], Bool, true, false, length, take, map, set, length-take, take-take, length-set, refl, sym, ap, ◌∙◌, subst, arith, eqb, get_or, Some, None, Option}
use Rattle.std.specs.Prelude.{option_map}
use Rattle.std.proofs.lemmas.Bool.{eqb-true, eqb-false}
use Rattle.std.proofs.lemmas.List.{get_or-take, get_or-set_same, get_or-set_other, get_or-map, ext_get_or, length-map}
use Rattle.std.proofs.lemmas.List.Elements.{All-from_get_or}
use Rattle.std.proofs.lemmas.Option.{unwrap_or-slice_get}
use Rattle.prolog_terms.specs.Tree.{Tree}
use Rattle.journals.specs.Numbers.{numbers_from}
use Rattle.call_patterns.specs.Keys.{keys, key_at}
use Rattle.call_patterns.specs.Keys as terms
use Rattle.call_patterns.specs.Calls.{text_of, key_of, IsKeyOf, AreKeysOf, goal_keys}
use Rattle.call_patterns.specs.Filling.{IsKeyAt, Filled, Longer}
use Rattle.call_patterns.specs.declared.key.Key.{Key}
use Rattle.call_patterns.specs.declared.key.Key.TheVariants.{Int, Atom, Functor}
use Rattle.call_patterns.proofs.NodeKeys.{length-numbers}

-- ---- texts that go on

long : (old new : List (List ℕ)) → Longer old new → length old ≤ length new
long old new h = omega (arith, ap length h, length-take (length old) new)

text_stays : (old new : List (List ℕ)) → Longer old new → (n : ℕ) → n < length old → text_of new n ≡ text_of old n
text_stays old new h n lt =
    unwrap_or-slice_get new n [] ∙ sym (get_or-take (length old) new n [] lt) ∙ ap (λ xs. get_or xs n []) h ∙ sym (unwrap_or-slice_get old n [])

key_stays : (old new : List (List ℕ)) → Longer old new → (k : Option Key) → IsKeyOf old k → IsKeyOf new k × (option_map (key_of new) k ≡ option_map (key_of old) k)
key_stays old new h None i = (tt, refl)
key_stays old new h (Some (Int z)) i = (tt, refl)
key_stays old new h (Some (Atom n)) i = (omega (arith, long old new h), ap (λ x. Some (terms.atom_key x)) (text_stays old new h n i))
key_stays old new h (Some (Functor n a)) i = (omega (arith, long old new h), ap (λ x. Some (terms.functor_key x a)) (text_stays old new h n i))

pub longer_from : (a b c : List (List ℕ)) → Longer a b → Longer b c → Longer a c
longer_from a b c h k = take-shorter (length a) b c (long a b h) k ∙ h
  where
    take-shorter : (n : ℕ) (b c : List (List ℕ)) → n ≤ length b → take (length b) c ≡ b → take n c ≡ take n b
    take-shorter n b c le k = sym (take-take n (length b) c le) ∙ ap (take n) k

-- ---- one position more

pub one_more : (old new : List (List ℕ)) (t : Tree) (at : List (Option Key)) (n : ℕ) (k : Option Key) → n < 40 → Longer old new → Filled old t at n → IsKeyAt new t n k
    → Filled new t (set at n k) (n + 1)
one_more old new t at n k few h f is = record { whole = length-set at n k ∙ f.whole; each = λ p lt. go p lt (eqb p n) refl }
  where
    go : (p : ℕ) → p < n + 1 → (b : Bool) → eqb p n ≡ b → IsKeyAt new t p (get_or (set at n k) p None)
    go p lt true e =
        let same : p ≡ n = eqb-true p n e in
        let within : n < length at = omega (arith, f.whole) in
        subst (λ q. IsKeyAt new t q (get_or (set at n k) q None)) (sym same) (subst (IsKeyAt new t n) (sym (get_or-set_same at n k None within)) is)
    go p lt false e =
        let other = eqb-false p n e in
        let below : p < n = omega (arith, other) in
        let before = f.each p below in
        let stays = key_stays old new h (get_or at p None) before.0 in
        subst (IsKeyAt new t p) (sym (get_or-set_other at n p k None other)) (stays.0, stays.1 ∙ before.1)

-- ---- all positions

get_or-numbers : (k n i d : ℕ) → i < n → get_or (numbers_from k n) i d ≡ k + i
get_or-numbers k zero i d h = absurd (omega arith)
get_or-numbers k (suc n) zero d h = omega arith
get_or-numbers k (suc n) (suc i) d h = let lt : i < n = omega arith in let e : k + 1 + i ≡ k + suc i = omega arith in get_or-numbers (k + 1) n i d lt ∙ e

pub numbered : (names : List (List ℕ)) (t : Tree) (at : List (Option Key)) → Filled names t at 40 → AreKeysOf names at
numbered names t at f = record {
  whole = f.whole;
  numbered = All-from_get_or (IsKeyOf names) at None (λ i lt. let few : i < 40 = omega (arith, f.whole) in (f.each i few).0);
}

pub all_keys : (names : List (List ℕ)) (t : Tree) (at : List (Option Key)) → Filled names t at 40 → goal_keys names at ≡ keys t
unfolding keys
all_keys names t at f = ext_get_or None (map (option_map (key_of names)) at) (map (key_at t) (numbers_from 0 40)) lengths each
  where
    zero_more : (n : ℕ) → 0 + n ≡ n
    zero_more n = omega arith

    lengths : length (map (option_map (key_of names)) at) ≡ length (map (key_at t) (numbers_from 0 40))
    lengths = length-map at (option_map (key_of names)) ∙ f.whole ∙ sym (length-map (numbers_from 0 40) (key_at t) ∙ length-numbers 0 40)

    each : (i : ℕ) → i < length (map (option_map (key_of names)) at) → get_or (map (option_map (key_of names)) at) i None ≡ get_or (map (key_at t) (numbers_from 0 40)) i None
    each i lt =
        let within : i < length at = omega (arith, length-map at (option_map (key_of names))) in
        let few : i < 40 = omega (arith, f.whole) in
        let here : i < length (numbers_from 0 40) = omega (arith, length-numbers 0 40) in
        get_or-map (option_map (key_of names)) at i None None within
        ∙ (f.each i few).1
        ∙ sym (get_or-map (key_at t) (numbers_from 0 40) i 0 None here ∙ ap (key_at t) (get_or-numbers 0 40 i 0 few ∙ zero_more i))
