-- What a plain base keeps beside its entries, as entries are added.
use Rattle.std.proofs.Common.{◌≡◌, ℕ, ◌+◌, ◌^◌, ◌<◌, ◌≤◌, [], ◌∷◌, ◌++◌, length, length-append, Option, Some, None, true, false, refl, sym, ap, ◌∙◌, arith, subst}
use Rattle.std.specs.Prelude.{IsSome}
use Rattle.std.specs.HashMap.{get, Updates}
use Rattle.std.proofs.lemmas.Bool.{both_ways}
use Rattle.prolog_terms.specs.declared.entry.Entry.{Entry}
use Rattle.prolog_terms.specs.declared.entry.Clause.{Clause}
use Rattle.prolog_terms.specs.declared.entry.Indicator.{Indicator}
use Rattle.prolog_terms.specs.declared.entry.Kind.{Kind}
use Rattle.prolog_terms.specs.declared.entry.End.{End}
use Rattle.prolog_terms.specs.declared.entry.What.TheVariants.{Declare, Add, Erase}
use Rattle.journals.specs.Journal.{Journal, procedures, declaration, procedure_named, same_indicator, clause_named, is_erased}
use Rattle.journal_base.specs.Legal.{MayChange, MayAdd, MayErase, MayChangeClause, MayFollow}
use Rattle.journal_base.specs.Space.{need, used, clause_words, text_words}
use Rattle.journal_base.specs.PlainInside.{Found, AreKept}
use Rattle.journals.proofs.Entries.{procedures-push, procedures-same}
use Rattle.journal_base.proofs.Entries.{Legal-push, used-push}
use Rattle.journal_base.proofs.Procedures.{no_number, named-same, found-after, few_procedures}

module _ (w u : ℕ) (J : Journal) (f : Found) (d n : ℕ) (h : AreKept w u J f d n) where
  -- an entry that declares nothing
  kept-push : (e : Entry) (m : ℕ) → declaration e.what ≡ [] → MayFollow J e.by e.what → m ≡ n + need e.what → m ≤ w → length J < u → AreKept w u (J ++ e ∷ []) f d m
  kept-push e m plain may sum fits few = record {
    sizes = h.sizes;
    legal = Legal-push w u J e h.legal may (omega (arith, sum, h.summed)) (omega arith);
    found_in = λ i. h.found_in i ∙ sym (named-same J e i plain);
    counted = h.counted ∙ ap length (sym (procedures-same J e plain));
    summed = sum ∙ ap (λ k. k + need e.what) h.summed ∙ sym (used-push J e);
  }

  pub kept-added : (by p : ℕ) (end : End) (c : Clause) (m : ℕ) → MayAdd J by p c → m ≡ need (Add end p c) → n + m ≤ w → length J < u
      → AreKept w u (J ++ record { by = by; what = Add end p c } ∷ []) f d (n + m)
  kept-added by p end c m may is fits few = kept-push (record { by = by; what = Add end p c }) (n + m) refl may (ap (λ k. n + k) is) fits few

  erases_free : (k : ℕ) → need (Erase k) ≡ 0
  unfolding need
  erases_free k = refl

  pub kept-erased : (by k : ℕ) → MayErase J by k → length J < u → AreKept w u (J ++ record { by = by; what = Erase k } ∷ []) f d n
  kept-erased by k may few =
      let none = erases_free k in
      kept-push (record { by = by; what = Erase k }) n refl may (omega (arith, none)) (subst (λ m. m ≤ w) (sym h.summed) h.legal.fits) few

  pub kept-declared : (g : Found) (by : ℕ) (i : Indicator) (k : Kind) (m : ℕ) → procedure_named J i ≡ None → MayChange k by → m ≡ need (Declare i k) → n + m ≤ w → length J < u
      → Updates same_indicator f g i (Some (d, k)) → AreKept w u (J ++ record { by = by; what = Declare i k } ∷ []) g (d + 1) (n + m)
  kept-declared g by i k m absent may is fits few updates =
      let e : Entry = record { by = by; what = Declare i k } in
      record {
        sizes = h.sizes;
        legal = Legal-push w u J e h.legal (no_number J i absent, may) (omega (arith, is, h.summed)) (omega arith);
        found_in = found-after J e f g i k d refl (no_number J i absent) h.found_in h.counted updates;
        counted = ap (λ x. x + 1) h.counted ∙ sym (ap length (procedures-push J e) ∙ length-append (procedures J) ((i, k) ∷ []));
        summed = ap (λ x. x + m) h.summed ∙ ap (λ x. used J + x) is ∙ sym (used-push J e);
      }

-- an erasure of a clause that is alive may follow
pub may_erase : (J : Journal) (by k : ℕ) → IsSome (clause_named J k) → is_erased J k ≡ false → MayChangeClause J by k → MayErase J by k
may_erase J by k some alive may = go (clause_named J k) refl
  where
    go : (o : Option Clause) → clause_named J k ≡ o → MayErase J by k
    go None is = let wrong : false ≡ true = subst IsSome is some in absurd cc
    go (Some c) is = record { clause = c; named = is; alive = (λ erased. absurd (both_ways (is_erased J k) alive erased)); permitted = may }

pub need-add : (end : End) (p : ℕ) (c : Clause) → need (Add end p c) ≡ 4 + clause_words c
unfolding need
need-add end p c = refl

pub need-declare : (i : Indicator) (k : Kind) → need (Declare i k) ≡ 16 + text_words (length i.name)
unfolding need
need-declare i k = refl

-- the same entries, and the same procedures in the map
pub kept-still : (w u : ℕ) (J K : Journal) (f g : Found) (d n : ℕ) → AreKept w u J f d n → K ≡ J → ((i : Indicator) → get same_indicator g i ≡ get same_indicator f i) → AreKept w u K g d n
kept-still w u J K f g d n h is same = subst (λ L. AreKept w u L g d n) (sym is) (record {
  sizes = h.sizes;
  legal = h.legal;
  found_in = λ i. same i ∙ h.found_in i;
  counted = h.counted;
  summed = h.summed;
})

pub few_declared : (w u : ℕ) (J : Journal) (f : Found) (d n : ℕ) → AreKept w u J f d n → d + 1 < 2 ^ 32
few_declared w u J f d n h = omega (arith, few_procedures J, h.counted, h.legal.few, h.sizes.few_updates)
