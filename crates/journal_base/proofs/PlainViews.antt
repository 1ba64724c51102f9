-- A plain base stands for its own list alone.
use Rattle.std.proofs.Common.{◌≡◌, ℕ, ◌+◌, ◌^◌, ◌≤◌, ◌<◌, ◌++◌, Option, length, take, refl, sym, ap, ◌∙◌, subst, arith}
use Rattle.std.proofs.Math.Seq.{take-length}
use Rattle.journals.specs.Journal.{Journal, chain}
use Rattle.journal_base.specs.Legal.{Legal}
use Rattle.journal_base.specs.Goals.{Goal}
use Rattle.call_patterns.specs.Candidates.{candidates}
use Rattle.journal_base.specs.View.{IsSound, Looks, AreSizes, InSeen, entries_by}
use Rattle.journal_base.specs.Scan.{scan, left, listed}
use Rattle.journal_base.specs.Plain.{Plain, plain_view}
use Rattle.journal_base.specs.PlainInside.{plain_of, IsPlain}
use Rattle.journal_base.specs.declared.plain.PlainBase.TheInside.{Inside}
use Rattle.journal_base.proofs.WholeScan.{scan-whole, left-whole, left-few}

pub sound : (s : Plain) → AreSizes s.words s.updates → Legal s.words s.updates s.entries → IsSound (plain_view s)
sound s sizes h = record {
  sizes = sizes;
  some = ∣ (s.entries, refl) ∣₁;
  each = λ J e. record {
    legal = subst (Legal s.words s.updates) (sym e) h;
    long = subst (λ l. length s.entries ≤ length l) (sym e) (omega arith);
    own = ap (entries_by s.number) e;
    own_seen = ap (λ l. entries_by s.number (take (length s.entries) l)) e ∙ ap (entries_by s.number) (take-length s.entries);
  };
}

pub still : (s : Plain) → AreSizes s.words s.updates → Legal s.words s.updates s.entries → Looks (plain_view s) (plain_view s)
still s sizes h = record {
  grows = record {
    front = omega arith;
    prefix = λ J e. (length s.entries, (omega arith, (subst (λ l. length s.entries ≤ length l) (sym e) (omega arith), ap (take (length s.entries)) e ∙ take-length s.entries)));
    number = refl;
    words = refl;
    updates = refl;
    causes = refl;
    sound = sound s sizes h;
  };
  own = refl;
}

pub still_at : (a : Inside) (s : Plain) → plain_of a ≡ s → IsPlain a → Looks (plain_view s) (plain_view s)
still_at a s e h = subst (λ t. Looks (plain_view t) (plain_view t)) e (still (plain_of a) h.sizes h.legal)

pub still_from : (a : Inside) (s : Plain) → plain_of a ≡ s → IsPlain a → Looks (plain_view s) (plain_view (plain_of a))
still_from a s e h = subst (λ t. Looks (plain_view t) (plain_view (plain_of a))) e (still (plain_of a) h.sizes h.legal)

-- what is so in what is seen is so of the entries
pub seen_whole : (a : Inside) (s : Plain) → plain_of a ≡ s → (P : Journal → Type 0) → InSeen (plain_view s) P → P a.ledger.entries
seen_whole a s is P h = subst P (take-length a.ledger.entries) (subst (λ t. InSeen (plain_view t) P) (sym is) h a.ledger.entries refl)

module _ (e s J : Journal) (same : s ≡ e) (is : J ≡ e) where
  whole : take (length e) J ≡ e
  whole = ap (take (length e)) is ∙ take-length e

  part : take (length s) (take (length e) J) ≡ s
  part = ap (take (length s)) (whole ∙ sym same) ∙ take-length s

  pub looked : (g : Goal) (next : Option ℕ) (at : ℕ) → scan s g 0 ≡ listed next ++ scan s g at
      → listed next ++ scan (take (length s) (take (length e) J)) g at ≡ candidates (take (length e) J) g.procedure g.keys
  looked g next at found =
      ap (λ l. listed next ++ scan l g at) part ∙ sym found ∙ scan-whole s g ∙ ap (λ l. candidates l g.procedure g.keys) (same ∙ sym whole)

  pub visited : (p old new at : ℕ) → new + left s p at ≡ old + left s p 0
      → new + left (take (length s) (take (length e) J)) p at ≤ old + length (chain (take (length e) J) p)
  visited p old new at h =
      let a : left (take (length s) (take (length e) J)) p at ≡ left s p at = ap (λ l. left l p at) part in
      let b : length (chain (take (length e) J) p) ≡ left s p 0 = ap (λ l. length (chain l p)) (whole ∙ sym same) ∙ sym (left-whole s p) in
      rw (a, b) (omega arith)

  -- and no more visits than two for each entry
  pub visited_few : (p old new at : ℕ) → new + left s p at ≡ old + left s p 0 → length e < 2 ^ 24
      → new + left (take (length s) (take (length e) J)) p at ≤ old + 0x200_0000
  visited_few p old new at h few =
      let a : left (take (length s) (take (length e) J)) p at ≡ left s p at = ap (λ l. left l p at) part in
      let b : length s ≡ length e = ap length same in
      let c = left-few s p 0 in
      rw a (omega arith)
