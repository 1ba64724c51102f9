-- A legal journal and one entry more.
use Rattle.std.proofs.Common.{◌≡◌, ℕ, suc, zero, ◌+◌, [], ◌∷◌, ◌++◌, length, take, ◌≤◌, Some, slice_get, refl, sym, ap, arith, subst}
use Rattle.std.proofs.Common.{◌⊎◌, inl, inr}
use Rattle.std.proofs.lemmas.List.Sums.{sum_by_push}
use Rattle.std.proofs.lemmas.Grind.{common_steps}
use Rattle.prolog_terms.specs.declared.entry.Entry.{Entry}
use Rattle.journals.specs.Journal.{Journal}
use Rattle.journal_base.specs.Legal.{Legal, MayFollow}
use Rattle.journal_base.specs.Space.{used, need}

-- ---- places

Before : Journal → Entry → ℕ → Entry → Type 0
Before J e n x = (slice_get J n ≡ Some x) × (take n (J ++ e ∷ []) ≡ take n J)

Last : Journal → Entry → ℕ → Entry → Type 0
Last J e n x = (x ≡ e) × (take n (J ++ e ∷ []) ≡ J)

one : (J : Journal) (e : Entry) (n : ℕ) (x : Entry) → slice_get (J ++ e ∷ []) n ≡ Some x → Before J e n x ⊎ Last J e n x
unfolding Before Last
one [] e zero x h = inr (cc, refl)
one [] e (suc n) x h = absurd (cc)
one (y ∷ J) e zero x h = inl (h, refl)
one (y ∷ J) e (suc n) x h = further (one J e n x h)
  where
    further : Before J e n x ⊎ Last J e n x → Before (y ∷ J) e (suc n) x ⊎ Last (y ∷ J) e (suc n) x
    further (inl p) = inl (p.0, ap (λ l. y ∷ l) p.1)
    further (inr p) = inr (p.0, ap (λ l. y ∷ l) p.1)

-- ---- room

pub used-push : (J : Journal) (e : Entry) → used (J ++ e ∷ []) ≡ used J + need e.what
unfolding used
used-push J e = sum_by_push (λ x. need x.what) J e

length-push : (J : Journal) (e : Entry) → length (J ++ e ∷ []) ≡ length J + 1
length-push J e = grind (arith, common_steps)

-- a legal journal and an entry that may follow it, for which there is room
pub Legal-push : (words updates : ℕ) (J : Journal) (e : Entry) → Legal words updates J → MayFollow J e.by e.what
    → used J + need e.what ≤ words → length J + 1 ≤ updates → Legal words updates (J ++ e ∷ [])
unfolding Before Last
Legal-push words updates J e l may fits few = record {
  follows = λ n x h. go n x (one J e n x h);
  few = subst (λ n. n ≤ updates) (sym (length-push J e)) few;
  fits = subst (λ n. n ≤ words) (sym (used-push J e)) fits;
}
  where
    go : (n : ℕ) (x : Entry) → Before J e n x ⊎ Last J e n x → MayFollow (take n (J ++ e ∷ [])) x.by x.what
    go n x (inl p) = subst (λ l. MayFollow l x.by x.what) (sym p.1) (l.follows n x p.0)
    go n x (inr p) = subst (λ l. MayFollow l x.by x.what) (sym p.1) (subst (λ y. MayFollow J y.by y.what) (sym p.0) may)

-- the empty journal is legal
pub Legal-nil : (words updates : ℕ) → Legal words updates []
unfolding used
Legal-nil words updates = record { follows = λ n e h. absurd cc; few = omega arith; fits = omega arith }
