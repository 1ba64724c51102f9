-- What an update does to what a plain base shows.
use Rattle.std.proofs.Common.{◌≡◌, ℕ, ◌+◌, ◌-◌, List, [], ◌∷◌, ◌++◌, length, length-append, take, true, Some, slice_get, refl, sym, ap, ◌∙◌, subst, arith}
use Rattle.std.specs.Prelude.{◌==◌}
use Rattle.std.proofs.Math.Seq.{take-length, take-append_seam}
use Rattle.std.proofs.lemmas.Bool.{eq-eqb}
use Rattle.std.proofs.lemmas.List.Elements.{filter-append, All-nil, All-cons}
use Rattle.prolog_terms.specs.declared.entry.Entry.{Entry}
use Rattle.prolog_terms.specs.declared.entry.What.{What}
use Rattle.journals.specs.Journal.{Journal}
use Rattle.journal_base.specs.Legal.{Legal}
use Rattle.journal_base.specs.View.{AreSizes, InSeen, Looks, Appends, entries_by}
use Rattle.journal_base.specs.Plain.{Plain, plain_view, IsContinued}
use Rattle.journal_base.specs.PlainInside.{plain_of, IsPlain}
use Rattle.journal_base.specs.declared.plain.PlainBase.TheInside.{Inside}
use Rattle.journal_base.proofs.PlainViews.{sound, still}

-- the base with other entries
abbrev pub with_entries : Inside → Journal → Plain
with_entries a K = record { number = a.number; words = a.words; updates = a.updates; entries = K; out = a.out }

-- what is so of the entries is so in what is seen
pub in_seen : (a : Inside) (K : Journal) (P : Journal → Type 0) → P K → InSeen (plain_view (with_entries a K)) P
in_seen a K P h = λ J is. subst P (sym (ap (take (length K)) is ∙ take-length K)) h

-- the same entries
pub still_with : (a : Inside) (s : Plain) (K : Journal) → plain_of a ≡ s → IsPlain a → K ≡ a.ledger.entries → Looks (plain_view s) (plain_view (with_entries a K))
still_with a s K is h same =
    let here : with_entries a K ≡ s = ap (with_entries a) same ∙ is in
    subst (λ (t : Plain). Looks (plain_view t) (plain_view (with_entries a K))) here
    (still (with_entries a K) h.sizes (subst (Legal a.words a.updates) (sym same) h.legal))

last-get : {X : Type 0} (xs : List X) (x : X) → slice_get (xs ++ x ∷ []) (length xs) ≡ Some x
last-get [] x = refl
last-get (y ∷ xs) x = last-get xs x

own-push : (n : ℕ) (J : Journal) (e : Entry) → e.by ≡ n → entries_by n (J ++ e ∷ []) ≡ entries_by n J ++ e ∷ []
own-push n J e is =
    let t : (e.by == n) ≡ true = eq-eqb e.by n is in
    filter-append (λ (x : Entry). x.by == n) J (e ∷ []) ∙ rw t refl

-- one entry of its own more
appends : (s : Plain) (K : Journal) (what : What) → K ≡ s.entries ++ record { by = s.number; what = what } ∷ [] → AreSizes s.words s.updates → Legal s.words s.updates K
    → Appends (plain_view s) (plain_view (record s { entries = K })) what
appends s K what made sizes legal =
    let e : Entry = record { by = s.number; what = what } in
    let long : length K ≡ length s.entries + 1 = ap length made ∙ length-append s.entries (e ∷ []) in
    record {
      grows = record {
        front = omega arith;
        prefix = λ J is. (length s.entries, (omega arith, (omega (arith, ap length is), ap (take (length s.entries)) (is ∙ made) ∙ take-append_seam s.entries (e ∷ []))));
        number = refl;
        words = refl;
        updates = refl;
        causes = refl;
        sound = sound (record s { entries = K }) sizes legal;
      };
      own = ap (entries_by s.number) made ∙ own-push s.number s.entries e refl;
      some_seen = omega arith;
      last = λ J is.
          let at : length K - 1 ≡ length s.entries = omega arith in
          ap (slice_get J) at ∙ ap (λ (l : Journal). slice_get l (length s.entries)) (is ∙ made) ∙ last-get s.entries e;
    }

pub appends_with : (a : Inside) (s : Plain) (K : Journal) (what : What) → plain_of a ≡ s → K ≡ a.ledger.entries ++ record { by = a.number; what = what } ∷ []
    → AreSizes a.words a.updates → Legal a.words a.updates K → Appends (plain_view s) (plain_view (with_entries a K)) what
appends_with a s K what is made sizes legal =
    subst (λ (t : Plain). Appends (plain_view t) (plain_view (with_entries a K)) what) is (appends (plain_of a) K what made sizes legal)

pub continued_with : (a : Inside) (s : Plain) (K : Journal) (what : What) → plain_of a ≡ s → K ≡ a.ledger.entries ++ record { by = a.number; what = what } ∷ [] → IsContinued s (with_entries a K)
continued_with a s K what is made =
    subst (λ (t : Plain). IsContinued t (with_entries a K)) is (record {
      number = refl;
      words = refl;
      updates = refl;
      added = record { by = a.number; what = what } ∷ [];
      entries = made;
      own = All-cons (λ (x : Entry). x.by ≡ a.number) (record { by = a.number; what = what }) [] refl (All-nil (λ (x : Entry). x.by ≡ a.number));
    })
