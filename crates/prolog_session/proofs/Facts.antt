-- What the load adds to a journal, where it has room.
use Rattle.std.proofs.Common.{◌≡◌, ◌⊎◌, inl, inr, ℕ, suc, ◌+◌, ◌≤◌, ◌<◌, List, [], ◌∷◌, ◌++◌, length, Bool, true, false, Option, Some, None, refl, sym, ◌∙◌, ap, subst, arith, slice_get, length-append}
use Rattle.std.specs.Prelude.{if◌then◌else◌, ◌&&◌, ◌||◌, nat_le, nat_lt, option_and_then, option_map}
use Rattle.std.proofs.lemmas.Bool.{and_from, le-leb, lt-leb, lt-ltb, le-ltb}
use Rattle.prolog_terms.specs.Indicators.{indicator_of}
use Rattle.prolog_terms.specs.Clauses.{IsClause}
use Rattle.prolog_terms.specs.declared.entry.Clause.{Clause}
use Rattle.prolog_terms.specs.declared.entry.Indicator.{Indicator}
use Rattle.prolog_terms.specs.declared.entry.End.TheVariants.{Back}
use Rattle.prolog_terms.specs.declared.entry.What.{What}
use Rattle.prolog_terms.specs.declared.entry.What.TheVariants.{Declare, Add}
use Rattle.prolog_terms.specs.declared.entry.Kind.{Kind}
use Rattle.prolog_terms.specs.declared.entry.Kind.TheVariants.{Static, Dynamic}
use Rattle.journals.specs.Journal.{Journal, procedures, numbered_from, number_of, procedure_named, same_indicator}
use Rattle.journal_base.specs.Space.{used, need}
use Rattle.journal_base.specs.Legal.{Legal, MayAdd, MayChange}
use Rattle.journal_base.specs.declared.sizes.Sizes.{Sizes}
use Rattle.journals.proofs.Entries.{number_of-after, same-equal, same-refl}
use Rattle.journal_base.proofs.Entries.{used-push}
use Rattle.wam_machine.specs.Reserved.{is_reserved}
use Rattle.prolog_session.specs.Load.{by_load, has_room, Placed, placed, placed_if, placed_behind, with_clause, with_procedure, with_procedure_of, number_or_next, with_dynamic, with_dynamic_of, with_dynamics, is_static, is_fixed, first_fixed}

-- the procedure that was found stands so many places on
record IsFound (ds : List (Indicator × Kind)) (i : Indicator) (n p : ℕ) : Type 0 where
  place : ℕ
  procedure : Indicator × Kind
  there : slice_get ds place ≡ Some procedure
  same : procedure.0 ≡ i
  placed : p ≡ n + place

numbered-found : (n : ℕ) (ds : List (Indicator × Kind)) (i : Indicator) (p : ℕ) → numbered_from n ds i ≡ Some p → IsFound ds i n p
numbered-found n [] i p h = absurd cc
numbered-found n (c ∷ cs) i p h = go (numbered-found (n + 1) cs i p) (same_indicator i c.0) refl h
  where
    go : (numbered_from (n + 1) cs i ≡ Some p → IsFound cs i (n + 1) p) → (b : Bool) → same_indicator i c.0 ≡ b
        → ◌≡◌ {A = Option ℕ} (if b then Some n else numbered_from (n + 1) cs i) (Some p) → IsFound (c ∷ cs) i n p
    go later true s k = let e : n ≡ p = cc in record { place = 0; procedure = c; there = refl; same = sym (same-equal i c.0 s); placed = omega (arith, e) }
    go later false s k =
        let f = later k in
        record { place = suc f.place; procedure = f.procedure; there = f.there; same = f.same; placed = omega (arith, f.placed) }

may_change : (k : Kind) → MayChange k 0
may_change Static = refl
may_change Dynamic = tt

-- a clause of a declared procedure may be added by the load
pub may_add : (J : Journal) (p : ℕ) (i : Indicator) (c : Clause) → number_of J i ≡ Some p → indicator_of c.head ≡ Some i → IsClause c → MayAdd J 0 p c
may_add J p i c number named clause =
    let f = numbered-found 0 (procedures J) i p number in
    let place : f.place ≡ p = omega (arith, f.placed) in
    record {
      procedure = f.procedure;
      declared = ap (λ (k : ℕ). slice_get (procedures J) k) (sym place) ∙ f.there;
      headed = named ∙ ap Some (sym f.same);
      permitted = may_change f.procedure.1;
      clause = clause;
    }

-- ---- procedures by their names

abbrev numbered_kind : ℕ → Indicator × Kind → ℕ × Kind
numbered_kind p d = (p, d.1)

abbrev kind_at : List (Indicator × Kind) → ℕ → Option (ℕ × Kind)
kind_at ds p = option_map (numbered_kind p) (slice_get ds p)

number_in : ℕ → Option (ℕ × Kind) → ℕ
number_in q (Some x) = x.0
number_in q None = q

number_at : (ds : List (Indicator × Kind)) (q p : ℕ) (k : Kind) → kind_at ds q ≡ Some (p, k) → q ≡ p
unfolding number_in
number_at ds q p k h = go (slice_get ds q) h
  where
    go : (d : Option (Indicator × Kind)) → option_map (numbered_kind q) d ≡ Some (p, k) → q ≡ p
    go None e = absurd cc
    go (Some d) e = ap (number_in q) e

pub named-number : (J : Journal) (i : Indicator) (p : ℕ) (k : Kind) → procedure_named J i ≡ Some (p, k) → number_of J i ≡ Some p
named-number J i p k h = go (number_of J i) refl h
  where
    go : (o : Option ℕ) → number_of J i ≡ o → option_and_then (kind_at (procedures J)) o ≡ Some (p, k) → number_of J i ≡ Some p
    go None e f = absurd cc
    go (Some q) e f = e ∙ ap Some (number_at (procedures J) q p k f)

pub unnamed-number : (J : Journal) (i : Indicator) → procedure_named J i ≡ None → number_of J i ≡ None
unnamed-number J i h = go (number_of J i) refl h
  where
    go : (o : Option ℕ) → number_of J i ≡ o → option_and_then (kind_at (procedures J)) o ≡ None → number_of J i ≡ None
    go None e f = e
    go (Some q) e f =
        let x = numbered-found 0 (procedures J) i q e in
        let place : x.place ≡ q = omega (arith, x.placed) in
        let there : slice_get (procedures J) q ≡ Some x.procedure = ap (λ (n : ℕ). slice_get (procedures J) n) (sym place) ∙ x.there in
        let g : Some (numbered_kind q x.procedure) ≡ None = ap (option_map (numbered_kind q)) (sym there) ∙ f in
        absurd cc

-- ---- room

-- what is legal with one more had room for it
pub room : (sizes : Sizes) (J : Journal) (what : What) → Legal sizes.words sizes.updates (J ++ by_load what ∷ []) → has_room sizes J what ≡ true
room sizes J what l =
    let words : used J + need what ≤ sizes.words = subst (λ (n : ℕ). n ≤ sizes.words) (used-push J (by_load what)) l.fits in
    let long : length (J ++ by_load what ∷ []) ≡ length J + 1 = length-append J (by_load what ∷ []) in
    let few : length J < sizes.updates = omega (arith, long, l.few) in
    and_from _ _ (le-leb (used J + need what) sizes.words words) (lt-ltb (length J) sizes.updates few)

pub no_room : (sizes : Sizes) (J : Journal) (what : What) → (sizes.words < used J + need what) ⊎ (length J ≡ sizes.updates) → has_room sizes J what ≡ false
no_room sizes J what (inl more) = ap (λ b. b && nat_lt (length J) sizes.updates) (lt-leb (used J + need what) sizes.words more)
no_room sizes J what (inr full) =
    let e : nat_lt (length J) sizes.updates ≡ false = le-ltb (length J) sizes.updates (omega (arith, full)) in
    ap (λ b. nat_le (used J + need what) sizes.words && b) e ∙ and_false (nat_le (used J + need what) sizes.words)
  where
    and_false : (b : Bool) → (b && false) ≡ false
    and_false true = refl
    and_false false = refl

-- ---- a procedure that is declared

next-number : (J : Journal) (i : Indicator) → number_of J i ≡ None → number_of (J ++ by_load (Declare i Static) ∷ []) i ≡ Some (length (procedures J))
next-number J i absent = number_of-after J (by_load (Declare i Static)) i Static i refl absent ∙ rw (same-refl i) refl

number-ready : (sizes : Sizes) (J : Journal) (i : Indicator) (o : Option ℕ) → number_of J i ≡ o → (with_procedure_of sizes J i o).fits ≡ true
    → number_of (with_procedure_of sizes J i o).journal i ≡ Some (number_or_next J o)
number-ready sizes J i (Some p) is fits = is
number-ready sizes J i None absent fits = go (has_room sizes J (Declare i Static)) fits
  where
    go : (b : Bool) → (placed_if b J (Declare i Static)).fits ≡ true → number_of (placed_if b J (Declare i Static)).journal i ≡ Some (length (procedures J))
    go true e = next-number J i absent
    go false e = absurd cc

-- ---- what the load's base holds

-- where a declaration had room, the procedure's number is known
pub number-known : (sizes : Sizes) (J : Journal) (i : Indicator) (p : ℕ) → (with_procedure sizes J i).fits ≡ true
    → number_of (with_procedure sizes J i).journal i ≡ Some p → number_or_next J (number_of J i) ≡ p
number-known sizes J i p fits number =
    let e : Some (number_or_next J (number_of J i)) ≡ Some p = sym (number-ready sizes J i (number_of J i) refl fits) ∙ number in cc

pub declared-before : (sizes : Sizes) (J : Journal) (i : Indicator) (p : ℕ) → number_of J i ≡ Some p → with_procedure sizes J i ≡ record { journal = J; fits = true }
declared-before sizes J i p h = ap (with_procedure_of sizes J i) h

pub declared-now : (sizes : Sizes) (J : Journal) (i : Indicator) → number_of J i ≡ None → has_room sizes J (Declare i Static) ≡ true
    → with_procedure sizes J i ≡ record { journal = J ++ by_load (Declare i Static) ∷ []; fits = true }
declared-now sizes J i h r = ap (with_procedure_of sizes J i) h ∙ ap (λ b. placed_if b J (Declare i Static)) r

pub not_declared : (sizes : Sizes) (J : Journal) (i : Indicator) → number_of J i ≡ None → has_room sizes J (Declare i Static) ≡ false
    → with_procedure sizes J i ≡ record { journal = J; fits = false }
not_declared sizes J i h r = ap (with_procedure_of sizes J i) h ∙ ap (λ b. placed_if b J (Declare i Static)) r

-- where the procedure is there, the clause has room or it hasn't
pub clause_placed : (sizes : Sizes) (J : Journal) (i : Indicator) (c : Clause) (p : ℕ) (b : Bool) → (with_procedure sizes J i).fits ≡ true
    → number_of (with_procedure sizes J i).journal i ≡ Some p → has_room sizes (with_procedure sizes J i).journal (Add Back p c) ≡ b
    → with_clause sizes J i c ≡ placed_if b (with_procedure sizes J i).journal (Add Back p c)
clause_placed sizes J i c p b fits number r =
    ap (λ (n : ℕ). placed_behind sizes (with_procedure sizes J i) (Add Back n c)) (number-known sizes J i p fits number)
    ∙ ap (λ (b : Bool). if b then placed sizes (with_procedure sizes J i).journal (Add Back p c) else with_procedure sizes J i) fits
    ∙ ap (λ (b : Bool). placed_if b (with_procedure sizes J i).journal (Add Back p c)) r

-- where the procedure isn't there, for want of room, nothing is added
pub clause_left : (sizes : Sizes) (J : Journal) (i : Indicator) (c : Clause) → (with_procedure sizes J i).fits ≡ false → with_clause sizes J i c ≡ with_procedure sizes J i
clause_left sizes J i c fits =
    ap (λ (b : Bool). if b then placed sizes (with_procedure sizes J i).journal (Add Back (number_or_next J (number_of J i)) c) else with_procedure sizes J i) fits

-- ---- procedures that are declared dynamic

pub number-unnamed : (J : Journal) (i : Indicator) → number_of J i ≡ None → procedure_named J i ≡ None
number-unnamed J i h = ap (option_and_then (kind_at (procedures J))) h

pub dynamic-before : (sizes : Sizes) (J : Journal) (i : Indicator) (d : ℕ × Kind) → procedure_named J i ≡ Some d → with_dynamic sizes J i ≡ record { journal = J; fits = true }
dynamic-before sizes J i d h = ap (with_dynamic_of sizes J i) h

pub dynamic-now : (sizes : Sizes) (J : Journal) (i : Indicator) (b : Bool) → procedure_named J i ≡ None → has_room sizes J (Declare i Dynamic) ≡ b
    → with_dynamic sizes J i ≡ placed_if b J (Declare i Dynamic)
dynamic-now sizes J i b h r = ap (with_dynamic_of sizes J i) h ∙ ap (λ (b : Bool). placed_if b J (Declare i Dynamic)) r

-- one that had no room is the last
pub dynamics-full : (sizes : Sizes) (J : Journal) (is : List Indicator) → with_dynamics sizes (record { journal = J; fits = false }) is ≡ record { journal = J; fits = false }
dynamics-full sizes J [] = refl
dynamics-full sizes J (i ∷ is) = refl

-- the first of them, and those behind it
pub dynamics-step : (sizes : Sizes) (J : Journal) (i : Indicator) (is : List Indicator) (p : Placed) → with_dynamic sizes J i ≡ p
    → with_dynamics sizes (record { journal = J; fits = true }) (i ∷ is) ≡ with_dynamics sizes p is
dynamics-step sizes J i is p e = ap (λ (q : Placed). with_dynamics sizes q is) e

-- ---- procedures that may not be dynamic

pub fixed-or : (J : Journal) (i : Indicator) (b : Bool) → is_reserved i ≡ false → is_static (procedure_named J i) ≡ b → is_fixed J i ≡ b
fixed-or J i b reserved static = ap (λ (r : Bool). r || is_static (procedure_named J i)) reserved ∙ static

pub fixed-reserved : (J : Journal) (i : Indicator) → is_reserved i ≡ true → is_fixed J i ≡ true
fixed-reserved J i reserved = ap (λ (r : Bool). r || is_static (procedure_named J i)) reserved

pub fixed-first : (J : Journal) (i : Indicator) (is : List Indicator) (b : Bool) → is_fixed J i ≡ b → first_fixed J (i ∷ is) ≡ (if b then Some i else first_fixed J is)
fixed-first J i is b e = ap (λ (b : Bool). if b then Some i else first_fixed J is) e
