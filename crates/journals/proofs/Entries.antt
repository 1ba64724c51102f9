-- The procedures of a journal and one entry more.
use Rattle.std.proofs.Common.{◌≡◌, ℕ, ◌+◌, List, [], ◌∷◌, ◌++◌, length, Bool, true, false, Option, Some, None, refl, sym, ap, ◌∙◌, arith, subst, append-nil}
use Rattle.std.specs.Prelude.{if◌then◌else◌, ◌==◌, nat_eq}
use Rattle.std.specs.Cmp.Lexicographic.{pointwise, bytes_decides}
use Rattle.std.proofs.lemmas.Bool.{and_parts, and_from, eqb-true, eq-eqb}
use Rattle.std.proofs.lemmas.Grind.{flat_map-append}
use Rattle.prolog_terms.specs.declared.entry.Entry.{Entry}
use Rattle.prolog_terms.specs.declared.entry.Indicator.{Indicator}
use Rattle.prolog_terms.specs.declared.entry.Kind.{Kind}
use Rattle.prolog_terms.specs.declared.entry.What.TheVariants.{Declare}
use Rattle.journals.specs.Journal.{Journal, procedures, declaration, numbered_from, number_of, same_indicator}

pub procedures-push : (J : Journal) (e : Entry) → procedures (J ++ e ∷ []) ≡ procedures J ++ declaration e.what
procedures-push J e = flat_map-append (λ x. declaration x.what) J (e ∷ []) ∙ ap (λ l. procedures J ++ l) (append-nil (declaration e.what))

numbered-push : (n : ℕ) (ds : List (Indicator × Kind)) (d : Indicator × Kind) (i : Indicator) → numbered_from n ds i ≡ None
    → numbered_from n (ds ++ d ∷ []) i ≡ (if same_indicator i d.0 then Some (n + length ds) else None)
numbered-push n [] d i h = ap (λ k. if same_indicator i d.0 then Some k else None) (omega arith)
numbered-push n (c ∷ cs) d i h = go (numbered-push (n + 1) cs d i) (same_indicator i c.0) h
  where
    go : (numbered_from (n + 1) cs i ≡ None → numbered_from (n + 1) (cs ++ d ∷ []) i ≡ (if same_indicator i d.0 then Some (n + 1 + length cs) else None))
        → (b : Bool) → ◌≡◌ {A = Option ℕ} (if b then Some n else numbered_from (n + 1) cs i) None
        → ◌≡◌ {A = Option ℕ} (if b then Some n else numbered_from (n + 1) (cs ++ d ∷ []) i) (if same_indicator i d.0 then Some (n + length (c ∷ cs)) else None)
    go later true k = absurd cc
    go later false k = later k ∙ ap (λ m. if same_indicator i d.0 then Some m else None) (omega arith)

-- what was found before is found
numbered-keeps : (n : ℕ) (ds es : List (Indicator × Kind)) (i : Indicator) (p : ℕ) → numbered_from n ds i ≡ Some p → numbered_from n (ds ++ es) i ≡ Some p
numbered-keeps n [] es i p h = absurd cc
numbered-keeps n (c ∷ cs) es i p h = go (numbered-keeps (n + 1) cs es i p) (same_indicator i c.0) h
  where
    go : (numbered_from (n + 1) cs i ≡ Some p → numbered_from (n + 1) (cs ++ es) i ≡ Some p) → (b : Bool) → ◌≡◌ {A = Option ℕ} (if b then Some n else numbered_from (n + 1) cs i) (Some p) → ◌≡◌ {A = Option ℕ} (if b then Some n else numbered_from (n + 1) (cs ++ es) i) (Some p)
    go later true k = k
    go later false k = later k

-- after a declaration: the new procedure's number is how many were declared before
pub number_of-declared : (J : Journal) (e : Entry) (i : Indicator) (k : Kind) (q : Indicator) → e.what ≡ Declare i k → number_of J q ≡ None
    → number_of (J ++ e ∷ []) q ≡ (if same_indicator q i then Some (length (procedures J)) else None)
number_of-declared J e i k q is h =
    ap (λ ds. numbered_from 0 ds q) (procedures-push J e ∙ ap (λ w. procedures J ++ declaration w) is)
    ∙ numbered-push 0 (procedures J) (i, k) q h ∙ ap (λ m. if same_indicator q i then Some m else None) (omega arith)

pub number_of-kept : (J : Journal) (e : Entry) (q : Indicator) (p : ℕ) → number_of J q ≡ Some p → number_of (J ++ e ∷ []) q ≡ Some p
number_of-kept J e q p h = ap (λ ds. numbered_from 0 ds q) (procedures-push J e) ∙ numbered-keeps 0 (procedures J) (declaration e.what) q p h

-- an entry that declares nothing leaves the procedures as they are
pub procedures-same : (J : Journal) (e : Entry) → declaration e.what ≡ [] → procedures (J ++ e ∷ []) ≡ procedures J
procedures-same J e h = procedures-push J e ∙ ap (λ l. procedures J ++ l) h ∙ append-nil (procedures J)

-- ---- indicators

pub same-equal : (i j : Indicator) → same_indicator i j ≡ true → i ≡ j
same-equal i j h =
    let p = and_parts (pointwise nat_eq i.name j.name) (i.arity == j.arity) h in
    let names : i.name ≡ j.name = (bytes_decides i.name j.name).0 p.0 in
    let arities : i.arity ≡ j.arity = eqb-true i.arity j.arity p.1 in
    ap (λ (n : List ℕ). record i { name = n }) names ∙ ap (λ (a : ℕ). record j { arity = a }) arities

pub same-refl : (i : Indicator) → same_indicator i i ≡ true
same-refl i = and_from (pointwise nat_eq i.name i.name) (i.arity == i.arity) ((bytes_decides i.name i.name).1 refl) (eq-eqb i.arity i.arity refl)

pub same-symmetric : (i j : Indicator) → same_indicator i j ≡ same_indicator j i
same-symmetric i j = go (same_indicator i j) (same_indicator j i) refl refl
  where
    go : (a b : Bool) → same_indicator i j ≡ a → same_indicator j i ≡ b → a ≡ b
    go true true h k = refl
    go false false h k = refl
    go true false h k = sym (subst (λ x. same_indicator j x ≡ true) (sym (same-equal i j h)) (same-refl j)) ∙ k
    go false true h k = sym h ∙ subst (λ x. same_indicator i x ≡ true) (sym (same-equal j i k)) (same-refl i)

-- after a declaration each procedure has its number
pub number_of-after : (J : Journal) (e : Entry) (i : Indicator) (k : Kind) (q : Indicator) → e.what ≡ Declare i k → number_of J i ≡ None
    → number_of (J ++ e ∷ []) q ≡ (if same_indicator i q then Some (length (procedures J)) else number_of J q)
number_of-after J e i k q is absent = go (same_indicator i q) refl (number_of J q) refl
  where
    go : (b : Bool) → same_indicator i q ≡ b → (o : Option ℕ) → number_of J q ≡ o → number_of (J ++ e ∷ []) q ≡ (if b then Some (length (procedures J)) else number_of J q)
    go true s None h = number_of-declared J e i k q is h ∙ rw (sym (same-symmetric i q), s) refl
    go true s (Some p) h = let t : number_of J q ≡ None = subst (λ x. number_of J x ≡ None) (same-equal i q s) absent in let u : Some p ≡ None = sym h ∙ t in absurd cc
    go false s None h = number_of-declared J e i k q is h ∙ rw (sym (same-symmetric i q), s) (sym h)
    go false s (Some p) h = number_of-kept J e q p h ∙ sym h
