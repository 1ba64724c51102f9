-- A base that keeps one list of entries, after a call.
use Rattle.std.proofs.Common.{◌≡◌, ℕ, List, [], ◌∷◌, ◌++◌, length, take, All, Bool, true, false, refl, sym, ap, ◌∙◌, subst, append-nil}
use Rattle.std.specs.Prelude.{◌==◌, if◌then◌else◌}
use Rattle.std.proofs.Math.Seq.{take-length}
use Rattle.std.proofs.Math.Path.{fun_ext}
use Rattle.std.proofs.lemmas.Bool.{eq-eqb}
use Rattle.std.proofs.lemmas.List.{append_cancel_left}
use Rattle.std.proofs.lemmas.List.Elements.{filter-append, All-head, All-tail}
use Rattle.prolog_terms.specs.declared.entry.Entry.{Entry}
use Rattle.prolog_terms.specs.declared.entry.What.{What}
use Rattle.journals.specs.Journal.{Journal}
use Rattle.journal_base.specs.View.{Looks, Appends, InSeen, Out, none_out, entries_by}
use Rattle.journal_base.specs.Plain.{Plain, plain_view, plain_out, IsContinued}

-- what is so in what is seen is so of the entries
pub in_seen : (s : Plain) (P : Journal → Type 0) → InSeen (plain_view s) P → P s.entries
in_seen s P h = subst P (take-length s.entries) (h s.entries refl)

-- and what is so of the entries is so in what is seen
pub to_seen : (s : Plain) (P : Journal → Type 0) → P s.entries → InSeen (plain_view s) P
to_seen s P h = λ J e. subst P (sym (ap (take (length s.entries)) e ∙ take-length s.entries)) h

-- no cursor is out
pub out_none : (n : ℕ) → n ≡ 0 → plain_out n ≡ none_out
out_none n e = ap plain_out e ∙ ap (λ (f : ℕ → ℕ). record { all = 0; of_group = f }) (fun_ext (λ h. zeros (h == 0)))
  where
    zeros : (b : Bool) → ◌≡◌ {A = ℕ} (if b then 0 else 0) 0
    zeros true = refl
    zeros false = refl

pub out_same : (n m : ℕ) → plain_out n ≡ plain_out m → n ≡ m
out_same n m e = ap (λ (o : Out). o.all) e

-- ---- entries by the base's own engine

all_own : (n : ℕ) (added : List Entry) → All (λ x. x.by ≡ n) added → entries_by n added ≡ added
all_own n [] h = refl
all_own n (x ∷ xs) h =
    let P : Entry → Type 0 = λ y. y.by ≡ n in
    let first : (x.by == n) ≡ true = eq-eqb x.by n (All-head P x xs h) in
    ap (λ (b : Bool). if b then x ∷ entries_by n xs else entries_by n xs) first ∙ ap (λ l. x ∷ l) (all_own n xs (All-tail P x xs h))

-- what the entries by the engine tell of what was added
added_is : (s t : Plain) (c : IsContinued s t) (tail : List Entry) → entries_by t.number t.entries ≡ entries_by s.number s.entries ++ tail → c.added ≡ tail
added_is s t c tail h =
    let own : List Entry = entries_by s.number s.entries in
    let whole : entries_by t.number t.entries ≡ own ++ c.added =
    ap (λ (n : ℕ). entries_by n t.entries) c.number ∙ ap (entries_by s.number) c.entries
    ∙ filter-append (λ (x : Entry). x.by == s.number) s.entries c.added ∙ ap (λ l. own ++ l) (all_own s.number c.added c.own) in
    append_cancel_left own c.added tail (sym whole ∙ h)

with_entries : (s t : Plain) (c : IsContinued s t) (tail : List Entry) → c.added ≡ tail → plain_out t.out ≡ plain_out s.out
    → t ≡ record s { entries = s.entries ++ tail }
with_entries s t c tail is o =
    ap (λ (n : ℕ). record t { number = n }) c.number
    ∙ ap (λ (n : ℕ). record t { number = s.number; words = n }) c.words
    ∙ ap (λ (n : ℕ). record t { number = s.number; words = s.words; updates = n }) c.updates
    ∙ ap (λ (n : ℕ). record s { entries = t.entries; out = n }) (out_same t.out s.out o)
    ∙ ap (λ (l : List Entry). record s { entries = l }) (c.entries ∙ ap (λ l. s.entries ++ l) is)

-- the base after a call: the entries that it added stand behind those before
pub continued_after : (s t : Plain) (c : IsContinued s t) → plain_out t.out ≡ plain_out s.out → t ≡ record s { entries = s.entries ++ c.added }
continued_after s t c o = with_entries s t c c.added refl o

-- a call that adds no entry of its engine leaves the base as it is
pub same_after : (s t : Plain) → IsContinued s t → Looks (plain_view s) (plain_view t) → plain_out t.out ≡ plain_out s.out → t ≡ s
same_after s t c l o =
    with_entries s t c [] (added_is s t c [] (l.own ∙ sym (append-nil (entries_by s.number s.entries)))) o
    ∙ ap (λ (J : List Entry). record s { entries = J }) (append-nil s.entries)

-- an update that is done is the last entry
pub more_after : (s t : Plain) (what : What) → IsContinued s t → Appends (plain_view s) (plain_view t) what → plain_out t.out ≡ plain_out s.out
    → t ≡ record s { entries = s.entries ++ record { by = s.number; what = what } ∷ [] }
more_after s t what c l o =
    with_entries s t c (record { by = t.number; what = what } ∷ []) (added_is s t c _ l.own) o
    ∙ ap (λ (n : ℕ). record s { entries = s.entries ++ record { by = n; what = what } ∷ [] }) c.number
