-- The procedures of a journal and one entry more.
use Rattle.std.proofs.Common.{◌≡◌, ℕ, suc, zero, ◌+◌, ◌-◌, ◌<◌, ◌≤◌, List, [], ◌∷◌, ◌++◌, length, length-append, Bool, true, false, cond, Option, Some, None, slice_get, refl, sym, ap, ◌∙◌, arith}
use Rattle.std.specs.Prelude.{if◌then◌else◌, option_and_then, option_map}
use Rattle.std.specs.HashMap.{get, Updates}
use Rattle.std.proofs.lemmas.Option.{some_pair_parts}
use Rattle.prolog_terms.specs.declared.entry.Entry.{Entry}
use Rattle.prolog_terms.specs.declared.entry.Indicator.{Indicator}
use Rattle.prolog_terms.specs.declared.entry.Kind.{Kind}
use Rattle.prolog_terms.specs.declared.entry.What.{What}
use Rattle.prolog_terms.specs.declared.entry.What.TheVariants.{Declare, Add, Erase}
use Rattle.journals.specs.Journal.{Journal, procedures, declaration, numbered_from, number_of, procedure_named, same_indicator}
use Rattle.journal_base.specs.PlainInside.{Found, AreFound}
use Rattle.journals.proofs.Entries.{procedures-push, procedures-same, number_of-after, same-refl, same-equal}

-- a number is that of a procedure
numbered_within : (n : ℕ) (ds : List (Indicator × Kind)) (i : Indicator) (p : ℕ) → numbered_from n ds i ≡ Some p → p < n + length ds
numbered_within n [] i p h = absurd cc
numbered_within n (d ∷ ds) i p h = go (numbered_within (n + 1) ds i p) (same_indicator i d.0) h
  where
    go : (numbered_from (n + 1) ds i ≡ Some p → p < n + 1 + length ds) → (b : Bool) → ◌≡◌ {A = Option ℕ} (if b then Some n else numbered_from (n + 1) ds i) (Some p) → p < n + length (d ∷ ds)
    go later true k = let e : n ≡ p = cc in omega arith
    go later false k = let lt = later k in omega (arith, lt)

within : (J : Journal) (i : Indicator) (p : ℕ) → number_of J i ≡ Some p → p < length (procedures J)
within J i p h = let lt = numbered_within 0 (procedures J) i p h in omega (arith, lt)

kept-get : {X : Type 0} (xs ys : List X) (k : ℕ) → k < length xs → slice_get (xs ++ ys) k ≡ slice_get xs k
kept-get [] ys k h = absurd (omega arith)
kept-get (x ∷ xs) ys zero h = refl
kept-get (x ∷ xs) ys (suc k) h = let le : k < length xs = omega arith in kept-get xs ys k le

last-get : {X : Type 0} (xs : List X) (x : X) → slice_get (xs ++ x ∷ []) (length xs) ≡ Some x
last-get [] x = refl
last-get (y ∷ xs) x = last-get xs x

there : {X : Type 0} (xs : List X) (k : ℕ) → k < length xs → (x : X) × (slice_get xs k ≡ Some x)
there [] k h = absurd (omega arith)
there (x ∷ xs) zero h = (x, refl)
there (x ∷ xs) (suc k) h = let le : k < length xs = omega arith in there xs k le

-- what stands at a number
abbrev named : List (Indicator × Kind) → Option ℕ → Option (ℕ × Kind)
named ds o = option_and_then (λ p. option_map (λ d. (p, d.1)) (slice_get ds p)) o

-- where no procedure is named, none has a number
pub no_number : (J : Journal) (i : Indicator) → procedure_named J i ≡ None → number_of J i ≡ None
no_number J i h = go (number_of J i) refl
  where
    go : (o : Option ℕ) → number_of J i ≡ o → number_of J i ≡ None
    go None e = e
    go (Some p) e =
        let d = there (procedures J) p (within J i p e) in
        let some : procedure_named J i ≡ Some (p, d.0.1) = ap (named (procedures J)) e ∙ ap (option_map (λ (x : Indicator × Kind). (p, x.1))) d.1 in
        let wrong : ◌≡◌ {A = Option (ℕ × Kind)} None (Some (p, d.0.1)) = sym h ∙ some in
        absurd cc

-- a name that had a number keeps its procedure
named-keeps : (ds : List (Indicator × Kind)) (d : Indicator × Kind) (o : Option ℕ) → ((p : ℕ) → o ≡ Some p → p < length ds) → named (ds ++ d ∷ []) o ≡ named ds o
named-keeps ds d None h = refl
named-keeps ds d (Some p) h = ap (option_map (λ (x : Indicator × Kind). (p, x.1))) (kept-get ds (d ∷ []) p (h p refl))

-- after a declaration
pub named-after : (J : Journal) (e : Entry) (i : Indicator) (k : Kind) (q : Indicator) → e.what ≡ Declare i k → number_of J i ≡ None
    → procedure_named (J ++ e ∷ []) q ≡ (if same_indicator i q then Some (length (procedures J), k) else procedure_named J q)
named-after J e i k q is absent =
    ap (named (procedures (J ++ e ∷ []))) (number_of-after J e i k q is absent)
    ∙ ap (λ ds. named ds (if same_indicator i q then Some (length (procedures J)) else number_of J q)) (procedures-push J e ∙ ap (λ w. procedures J ++ declaration w) is)
    ∙ go (same_indicator i q)
  where
    go : (b : Bool) → named (procedures J ++ (i, k) ∷ []) (if b then Some (length (procedures J)) else number_of J q) ≡ (if b then Some (length (procedures J), k) else procedure_named J q)
    go true = ap (option_map (λ (x : Indicator × Kind). (length (procedures J), x.1))) (last-get (procedures J) (i, k))
    go false = named-keeps (procedures J) (i, k) (number_of J q) (λ p h. within J q p h)

-- the map of procedures, after a declaration
pub found-after : (J : Journal) (e : Entry) (f g : Found) (i : Indicator) (k : Kind) (d : ℕ) → e.what ≡ Declare i k → number_of J i ≡ None → AreFound J f → d ≡ length (procedures J)
    → Updates same_indicator f g i (Some (d, k)) → AreFound (J ++ e ∷ []) g
found-after J e f g i k d is absent h count updates = λ q. updates.0 q ∙ at q (same_indicator i q) refl
  where
    at : (q : Indicator) (b : Bool) → same_indicator i q ≡ b → cond b (Some (d, k)) (get same_indicator f q) ≡ procedure_named (J ++ e ∷ []) q
    at q true s = rw (named-after J e i k q is absent, s) (ap (λ n. Some (n, k)) count)
    at q false s = rw (named-after J e i k q is absent, s) (h q)

-- the new procedure has the number that was told
pub declared-there : (J : Journal) (e : Entry) (i : Indicator) (k : Kind) (d : ℕ) → e.what ≡ Declare i k → number_of J i ≡ None → d ≡ length (procedures J)
    → procedure_named (J ++ e ∷ []) i ≡ Some (d, k)
declared-there J e i k d is absent count = named-after J e i k i is absent ∙ rw (same-refl i) (ap (λ n. Some (n, k)) (sym count))

-- an entry that declares nothing changes nothing
pub named-same : (J : Journal) (e : Entry) (q : Indicator) → declaration e.what ≡ [] → procedure_named (J ++ e ∷ []) q ≡ procedure_named J q
named-same J e q h = ap (λ ds. named ds (numbered_from 0 ds q)) (procedures-same J e h)

pub few_procedures : (J : Journal) → length (procedures J) ≤ length J
few_procedures [] = omega arith
few_procedures (e ∷ J) =
    let one = few_declared e.what in
    let more = few_procedures J in
    omega (arith, one, more, length-append (declaration e.what) (procedures J))
  where
    few_declared : (w : What) → length (declaration w) ≤ 1
    few_declared (Declare i k) = omega arith
    few_declared (Add e p c) = omega arith
    few_declared (Erase k) = omega arith

numbered_least : (n : ℕ) (ds : List (Indicator × Kind)) (i : Indicator) (p : ℕ) → numbered_from n ds i ≡ Some p → n ≤ p
numbered_least n [] i p h = absurd cc
numbered_least n (c ∷ cs) i p h = go (numbered_least (n + 1) cs i p) (same_indicator i c.0) h
  where
    go : (numbered_from (n + 1) cs i ≡ Some p → n + 1 ≤ p) → (b : Bool) → ◌≡◌ {A = Option ℕ} (if b then Some n else numbered_from (n + 1) cs i) (Some p) → n ≤ p
    go later true k = let e : n ≡ p = cc in omega arith
    go later false k = let le = later k in omega (arith, le)

numbered_there : (n : ℕ) (ds : List (Indicator × Kind)) (i : Indicator) (p : ℕ) (d : Indicator × Kind) → numbered_from n ds i ≡ Some p → slice_get ds (p - n) ≡ Some d → i ≡ d.0
numbered_there n [] i p d h at = absurd cc
numbered_there n (c ∷ cs) i p d h at = go (numbered_there (n + 1) cs i p d) (same_indicator i c.0) refl h
  where
    go : (numbered_from (n + 1) cs i ≡ Some p → slice_get cs (p - (n + 1)) ≡ Some d → i ≡ d.0) → (b : Bool) → same_indicator i c.0 ≡ b
        → ◌≡◌ {A = Option ℕ} (if b then Some n else numbered_from (n + 1) cs i) (Some p) → i ≡ d.0
    go later true same k =
        let e : n ≡ p = cc in
        let z : p - n ≡ 0 = omega arith in
        let here : Some c ≡ Some d = ap (slice_get (c ∷ cs)) (sym z) ∙ at in
        let first : c ≡ d = cc in
        same-equal i c.0 same ∙ ap (λ (x : Indicator × Kind). x.0) first
    go later false same k =
        let le = numbered_least (n + 1) cs i p k in
        let z : p - n ≡ suc (p - (n + 1)) = omega (arith, le) in
        later k (ap (slice_get (c ∷ cs)) (sym z) ∙ at)

-- a procedure that is named stands at its number
pub named_there : (J : Journal) (i : Indicator) (p : ℕ) (k : Kind) → procedure_named J i ≡ Some (p, k) → slice_get (procedures J) p ≡ Some (i, k)
named_there J i p k h = go (number_of J i) refl
  where
    go : (o : Option ℕ) → number_of J i ≡ o → slice_get (procedures J) p ≡ Some (i, k)
    go None e = let wrong : ◌≡◌ {A = Option (ℕ × Kind)} None (Some (p, k)) = sym (ap (named (procedures J)) e) ∙ h in absurd cc
    go (Some q) e =
        let d = there (procedures J) q (within J i q e) in
        let is : ◌≡◌ {A = Option (ℕ × Kind)} (Some (q, d.0.1)) (Some (p, k)) = sym (ap (named (procedures J)) e ∙ ap (option_map (λ (x : Indicator × Kind). (q, x.1))) d.1) ∙ h in
        let parts = some_pair_parts q p d.0.1 k is in
        let z : q - 0 ≡ q = omega arith in
        let name : i ≡ d.0.0 = numbered_there 0 (procedures J) i q d.0 e (ap (slice_get (procedures J)) z ∙ d.1) in
        ap (slice_get (procedures J)) (sym parts.0) ∙ d.1 ∙ ap (λ j. Some (j, d.0.1)) (sym name) ∙ ap (λ x. Some (i, x)) parts.1
