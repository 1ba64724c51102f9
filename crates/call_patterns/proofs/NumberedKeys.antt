-- Keys whose names are numbers of distinct texts are equal exactly where the keys that they stand for are.
use Rattle.std.proofs.Common.{◌≡◌, ◌<◌, ◌≤◌, ℕ, List, [], Bool, true, false, length, refl, sym, ap, ◌∙◌, arith, get_or, Some}
use Rattle.std.specs.Prelude.{nat_eq, nat_lt, ◌&&◌}
use Rattle.std.specs.List.{IsDistinct}
use Rattle.std.specs.Cmp.Lexicographic.{pointwise, bytes_decides}
use Rattle.std.proofs.lemmas.Bool.{true≢false, eqb-true, eqb-false, ltb-true, ltb-false}
use Rattle.std.proofs.lemmas.Map.Keys.{apart_from_distinct}
use Rattle.std.proofs.lemmas.Option.{unwrap_or-slice_get}
use Rattle.call_patterns.specs.Calls.{text_of, key_of, IsKeyOf}
use Rattle.call_patterns.specs.Keys.{same_key}
use Rattle.call_patterns.specs.declared.key.Key.{Key}
use Rattle.call_patterns.specs.declared.key.Key.TheVariants.{Int, Atom, Functor}
use Rattle.call_patterns.specs.contracts.key.KeyPartialEq.TheImpl.{eq-value}

apart : (names : List (List ℕ)) → IsDistinct (pointwise nat_eq) names → (n m : ℕ) → n < m → m < length names → pointwise nat_eq (text_of names n) (text_of names m) ≡ false
apart names d n m lt within =
    ap (λ x. pointwise nat_eq x (text_of names m)) (unwrap_or-slice_get names n [])
    ∙ ap (λ x. pointwise nat_eq (get_or names n []) x) (unwrap_or-slice_get names m [])
    ∙ apart_from_distinct (pointwise nat_eq) names n m [] d lt within

flipped : (x y : List ℕ) → pointwise nat_eq y x ≡ false → pointwise nat_eq x y ≡ false
flipped x y h = go (pointwise nat_eq x y) refl
  where
    go : (b : Bool) → pointwise nat_eq x y ≡ b → b ≡ false
    go false e = refl
    go true e = absurd (true≢false (sym ((bytes_decides y x).1 (sym ((bytes_decides x y).0 e))) ∙ h))

texts : (names : List (List ℕ)) → IsDistinct (pointwise nat_eq) names → (n m : ℕ) → n < length names → m < length names
    → nat_eq n m ≡ pointwise nat_eq (text_of names n) (text_of names m)
texts names d n m hn hm = go (nat_eq n m) refl (nat_lt n m) refl
  where
    go : (b : Bool) → nat_eq n m ≡ b → (l : Bool) → nat_lt n m ≡ l → b ≡ pointwise nat_eq (text_of names n) (text_of names m)
    go true e l h = sym ((bytes_decides (text_of names n) (text_of names m)).1 (ap (text_of names) (eqb-true n m e)))
    go false e true h = sym (apart names d n m (ltb-true n m h) hm)
    go false e false h =
        let le : m ≤ n = ltb-false n m h in
        let lt : m < n = omega (arith, eqb-false n m e) in
        sym (flipped (text_of names n) (text_of names m) (apart names d m n lt hn))

pub same : (names : List (List ℕ)) → IsDistinct (pointwise nat_eq) names → (a b : Key) → IsKeyOf names (Some a) → IsKeyOf names (Some b)
    → eq-value.it a b ≡ same_key (key_of names a) (key_of names b)
same names d (Int z) (Int w) h g = refl
same names d (Int z) (Atom m) h g = refl
same names d (Int z) (Functor m k) h g = refl
same names d (Atom n) (Int w) h g = refl
same names d (Atom n) (Atom m) h g = texts names d n m h g
same names d (Atom n) (Functor m k) h g = refl
same names d (Functor n k) (Int w) h g = refl
same names d (Functor n k) (Atom m) h g = refl
same names d (Functor n k) (Functor m l) h g = ap (λ b. b && nat_eq k l) (texts names d n m h g)
