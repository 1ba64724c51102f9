-- The worked journals: what each of them is, or isn't, legal by.
use Rattle.std.proofs.Common.{arith, List, ◌≡◌, ◌≤◌, ℕ, zero, suc, [], ◌∷◌, Some, ◌∙◌, ap, refl, sym, subst, codes}
use Rattle.std.specs.Prelude.{slice_get, take, option_and_then}
use Rattle.prolog_terms.specs.declared.entry.Entry.{Entry}
use Rattle.prolog_terms.specs.declared.entry.Indicator.{Indicator}
use Rattle.prolog_terms.specs.declared.entry.Kind.{Kind}
use Rattle.prolog_terms.specs.declared.entry.Kind.TheVariants.{Static, Dynamic}
use Rattle.prolog_terms.specs.declared.entry.End.TheVariants.{Back}
use Rattle.prolog_terms.specs.declared.entry.What.TheVariants.{Add, Erase}
use Rattle.call_patterns.specs.Keys.{keys}
use Rattle.journals.specs.Examples.{name}
use Rattle.journals.specs.Journal.{Journal, procedures, procedure_of}
use Rattle.journal_base.specs.Space.{used, need, clause_words}
use Rattle.journal_base.specs.Legal.{Legal, MayChange, MayAdd, MayErase, MayFollow}
use Rattle.journal_base.specs.Examples.{by, dynamic, static, one_fact, adds, erased, other_fact, wide_fact, static_erased_by_load, HasJournals}

some-same : {A : Type 0} (a b : A) → Some a ≡ Some b → a ≡ b
some-same a b e = cc

-- what is declared and added
abbrev added : Journal
added = by 1 dynamic ∷ by 1 adds ∷ []

words_added : used added ≡ 30
unfolding used need clause_words keys
words_added = refl

words_erased : used erased ≡ 30
unfolding used need clause_words keys
words_erased = refl

abbrev k_one : Indicator
k_one = name 1 (codes "k")

may_add : MayAdd (by 1 dynamic ∷ []) 1 0 one_fact
may_add = record {
  procedure = (k_one, Dynamic);
  declared = refl;
  headed = refl;
  permitted = tt;
  clause = record { head = refl; body = refl; numbered = refl };
}

-- the clause's procedure is dynamic
its_procedure : (e : Entry) (d : Indicator × Kind) → slice_get added 1 ≡ Some e → option_and_then (slice_get (procedures added)) (procedure_of e.what) ≡ Some d → MayChange d.1 2
its_procedure e d h k =
    let there : Some (k_one, Dynamic) ≡ Some d = subst (λ (x : Entry). option_and_then (slice_get (procedures added)) (procedure_of x.what) ≡ Some d) (sym (some-same (by 1 adds) e h)) k in
    subst (λ (x : Indicator × Kind). MayChange x.1 2) (some-same (k_one, Dynamic) d there) tt

may_erase : MayErase added 2 1
may_erase = record { clause = one_fact; named = refl; alive = λ u. cc u; permitted = its_procedure }

follows : (n : ℕ) (e : Entry) → slice_get erased n ≡ Some e → MayFollow (take n erased) e.by e.what
follows zero e h = subst (λ (x : Entry). MayFollow [] x.by x.what) (some-same (by 1 dynamic) e h) (refl, tt)
follows (suc zero) e h = subst (λ (x : Entry). MayFollow (by 1 dynamic ∷ []) x.by x.what) (some-same (by 1 adds) e h) may_add
follows (suc (suc zero)) e h = subst (λ (x : Entry). MayFollow added x.by x.what) (some-same (by 2 (Erase 1)) e h) may_erase
follows (suc (suc (suc n))) e h = absurd (cc h)

-- ---- the same by the load, static

abbrev loaded : Journal
loaded = by 0 static ∷ by 0 adds ∷ []

words_loaded : used static_erased_by_load ≡ 30
unfolding used need clause_words keys
words_loaded = refl

load_may_add : MayAdd (by 0 static ∷ []) 0 0 one_fact
load_may_add = record {
  procedure = (k_one, Static);
  declared = refl;
  headed = refl;
  permitted = refl;
  clause = record { head = refl; body = refl; numbered = refl };
}

load_procedure : (e : Entry) (d : Indicator × Kind) → slice_get loaded 1 ≡ Some e → option_and_then (slice_get (procedures loaded)) (procedure_of e.what) ≡ Some d → MayChange d.1 0
load_procedure e d h k =
    let there : Some (k_one, Static) ≡ Some d = subst (λ (x : Entry). option_and_then (slice_get (procedures loaded)) (procedure_of x.what) ≡ Some d) (sym (some-same (by 0 adds) e h)) k in
    subst (λ (x : Indicator × Kind). MayChange x.1 0) (some-same (k_one, Static) d there) refl

load_may_erase : MayErase loaded 0 1
load_may_erase = record { clause = one_fact; named = refl; alive = λ u. cc u; permitted = load_procedure }

load_follows : (n : ℕ) (e : Entry) → slice_get static_erased_by_load n ≡ Some e → MayFollow (take n static_erased_by_load) e.by e.what
load_follows zero e h = subst (λ (x : Entry). MayFollow [] x.by x.what) (some-same (by 0 static) e h) (refl, refl)
load_follows (suc zero) e h = subst (λ (x : Entry). MayFollow (by 0 static ∷ []) x.by x.what) (some-same (by 0 adds) e h) load_may_add
load_follows (suc (suc zero)) e h = subst (λ (x : Entry). MayFollow loaded x.by x.what) (some-same (by 0 (Erase 1)) e h) load_may_erase
load_follows (suc (suc (suc n))) e h = absurd (cc h)

static_legal : Legal 30 3 static_erased_by_load
static_legal = let words = words_loaded in record { follows = load_follows; few = omega arith; fits = omega arith }

-- ---- what is refused

abbrev first_byte : List ℕ → ℕ
first_byte [] = 0
first_byte (b ∷ bs) = b

other_name : MayAdd (by 1 dynamic ∷ []) 1 0 other_fact → ⊥
other_name m =
    let same : k_one ≡ name 1 (codes "j") = ap (λ (x : Indicator × Kind). x.0) (some-same (k_one, Dynamic) m.procedure m.declared) ∙ sym (some-same (name 1 (codes "j")) m.procedure.0 m.headed) in
    let bytes : ◌≡◌ {A = ℕ} 107 106 = ap (λ (i : Indicator). first_byte i.name) same in
    omega arith

other_arity : MayAdd (by 1 dynamic ∷ []) 1 0 wide_fact → ⊥
other_arity m =
    let same : k_one ≡ name 2 (codes "k") = ap (λ (x : Indicator × Kind). x.0) (some-same (k_one, Dynamic) m.procedure m.declared) ∙ sym (some-same (name 2 (codes "k")) m.procedure.0 m.headed) in
    let arities : ◌≡◌ {A = ℕ} 1 2 = ap (λ (i : Indicator). i.arity) same in
    omega arith

is_legal : Legal 30 3 erased
is_legal = let words = words_erased in record { follows = follows; few = omega arith; fits = omega arith }

never_zero : ◌≡◌ {A = ℕ} 1 0 → ⊥
never_zero e = omega arith

too_large : Legal 29 3 added → ⊥
too_large l = let words = words_added in let fits : used added ≤ 29 = l.fits in omega arith

too_many : Legal 30 2 erased → ⊥
too_many l = let few : 3 ≤ 2 = l.few in omega arith

-- an addition by engine 1 to a static procedure
static_added : MayAdd (by 0 static ∷ []) 1 0 one_fact → ⊥
static_added m =
    let there : Some (k_one, Static) ≡ Some m.procedure = m.declared in
    never_zero (subst (λ (x : Indicator × Kind). MayChange x.1 1) (sym (some-same (k_one, Static) m.procedure there)) m.permitted)

pub has_journals : HasJournals
has_journals = record {
  legal = is_legal;
  too_many = too_many;
  too_large = too_large;
  erased_twice = λ l. (l.follows 3 (by 2 (Erase 1)) refl).alive refl;
  declared_twice = λ l. let first = (l.follows 1 (by 2 dynamic) refl).0 in cc first;
  added_first = λ l. let there = (l.follows 0 (by 1 adds) refl).declared in cc there;
  static_added = λ l. static_added (l.follows 1 (by 1 adds) refl);
  static_declared = λ l. never_zero ((l.follows 0 (by 1 static) refl).1);
  static_legal = static_legal;
  other_name = λ l. other_name (l.follows 1 (by 1 (Add Back 0 other_fact)) refl);
  other_arity = λ l. other_arity (l.follows 1 (by 1 (Add Back 0 wide_fact)) refl);
  other_procedure = λ l. let there = (l.follows 1 (by 1 (Add Back 1 one_fact)) refl).declared in cc there;
  erased_nothing = λ l. let there = (l.follows 1 (by 1 (Erase 7)) refl).named in cc there;
  erased_declaration = λ l. let there = (l.follows 1 (by 1 (Erase 0)) refl).named in cc there;
  erased_first = λ l. let there = (l.follows 1 (by 1 (Erase 2)) refl).named in cc there;
  static_erased = λ l. never_zero ((l.follows 2 (by 1 (Erase 1)) refl).permitted (by 0 adds) (k_one, Static) refl refl);
}
