-- What a user of a plain base may conclude, who knows its model and the clauses of `Base`.
use Rattle.std.proofs.Common.{◌≡◌, ℕ, ◌+◌, List, [], ◌∷◌, ◌++◌, length, take, Bool, true, false, refl, sym, ap, ◌∙◌, subst, append-nil, if◌then◌else◌}
use Rattle.std.specs.Prelude.{◌==◌, All}
use Rattle.std.proofs.Math.Path.{fun_ext}
use Rattle.std.proofs.Math.Seq.{take-length}
use Rattle.std.proofs.lemmas.Bool.{eq-eqb}
use Rattle.std.proofs.lemmas.List.Elements.{filter-append, All-head, All-tail}
use Rattle.prolog_terms.specs.declared.entry.Entry.{Entry}
use Rattle.prolog_terms.specs.declared.entry.What.{What}
use Rattle.journals.specs.Journal.{Journal}
use Rattle.journal_base.specs.Legal.{Legal}
use Rattle.journal_base.specs.View.{IsSound, AreSizes, InSeen, Looks, Appends, Out, opened, entries_by}
use Rattle.journal_base.specs.Plain.{Plain, plain_view, plain_out, IsContinued}

-- ---- the journal

-- the base stands for its entries
pub stands : (s : Plain) → (plain_view s).stands_for s.entries
stands s = refl

-- and has seen all of them
pub of_seen : (s : Plain) (P : Journal → Type 0) → InSeen (plain_view s) P → P s.entries
of_seen s P h = subst P (take-length s.entries) (h s.entries refl)

pub to_seen : (s : Plain) (P : Journal → Type 0) → P s.entries → InSeen (plain_view s) P
to_seen s P h = λ J is. subst P (sym (ap (take (length s.entries)) is ∙ take-length s.entries)) h

pub legal_of : (s : Plain) → IsSound (plain_view s) → Legal s.words s.updates s.entries
legal_of s h = (h.each s.entries refl).legal

pub sizes_of : (s : Plain) → IsSound (plain_view s) → AreSizes s.words s.updates
sizes_of s h = h.sizes

-- ---- what calls do to the entries

all_own : (n : ℕ) (es : List Entry) → All (λ x. x.by ≡ n) es → entries_by n es ≡ es
all_own n [] h = refl
all_own n (e ∷ es) h =
    let test : (e.by == n) ≡ true = eq-eqb e.by n (All-head (λ (x : Entry). x.by ≡ n) e es h) in
    rw test (ap (λ l. e ∷ l) (all_own n es (All-tail (λ (x : Entry). x.by ≡ n) e es h)))

-- the entries that were added, from the base's own
added_are : (s t : Plain) (h : IsContinued s t) → entries_by t.number t.entries ≡ entries_by s.number s.entries ++ h.added
added_are s t h =
    ap (λ n. entries_by n t.entries) h.number ∙ ap (entries_by s.number) h.entries ∙ filter-append (λ (x : Entry). x.by == s.number) s.entries h.added
    ∙ ap (λ l. entries_by s.number s.entries ++ l) (all_own s.number h.added h.own)

same-front : {X : Type 0} (xs ys zs : List X) → xs ++ ys ≡ xs ++ zs → ys ≡ zs
same-front [] ys zs e = e
same-front (x ∷ xs) ys zs e = same-front xs ys zs cc

-- a call that adds no entry of the engine leaves the entries as they are
pub looks_same : (s t : Plain) → IsContinued s t → Looks (plain_view s) (plain_view t) → t.entries ≡ s.entries
looks_same s t h l =
    let none : h.added ≡ [] = same-front (entries_by s.number s.entries) h.added [] (sym (added_are s t h) ∙ l.own ∙ sym (append-nil (entries_by s.number s.entries))) in
    h.entries ∙ ap (λ a. s.entries ++ a) none ∙ append-nil s.entries

-- an update adds its entry at the end
pub appends_one : (s t : Plain) (what : What) → IsContinued s t → Appends (plain_view s) (plain_view t) what → t.entries ≡ s.entries ++ record { by = s.number; what = what } ∷ []
appends_one s t what h a =
    let one : h.added ≡ record { by = s.number; what = what } ∷ [] =
    same-front (entries_by s.number s.entries) h.added (record { by = s.number; what = what } ∷ [])
    (sym (added_are s t h) ∙ a.own ∙ ap (λ n. entries_by s.number s.entries ++ record { by = n; what = what } ∷ []) h.number) in
    h.entries ∙ ap (λ l. s.entries ++ l) one

-- the whole base, but for its cursors
pub looks_kept : (s t : Plain) → IsContinued s t → Looks (plain_view s) (plain_view t) → t ≡ record s { out = t.out }
looks_kept s t h l =
    ap (λ n. record t { number = n }) h.number ∙ ap (λ w. record t { number = s.number; words = w }) h.words
    ∙ ap (λ u. record t { number = s.number; words = s.words; updates = u }) h.updates ∙ ap (λ J. record s { entries = J; out = t.out }) (looks_same s t h l)

pub appends_kept : (s t : Plain) (what : What) → IsContinued s t → Appends (plain_view s) (plain_view t) what
    → t ≡ record s { entries = s.entries ++ record { by = s.number; what = what } ∷ []; out = t.out }
appends_kept s t what h a =
    ap (λ n. record t { number = n }) h.number ∙ ap (λ w. record t { number = s.number; words = w }) h.words
    ∙ ap (λ u. record t { number = s.number; words = s.words; updates = u }) h.updates ∙ ap (λ J. record s { entries = J; out = t.out }) (appends_one s t what h a)

-- ---- cursors

pub out_same : (m n : ℕ) → plain_out m ≡ plain_out n → m ≡ n
out_same m n e = ap (λ (o : Out). o.all) e

-- after a look one cursor more is out, and before a drop
pub out_more : (g m n : ℕ) → plain_out m ≡ opened g (plain_out n) → m ≡ n + 1
out_more g m n e = ap (λ (o : Out). o.all) e

pub opened_one : (n : ℕ) → opened 0 (plain_out n) ≡ plain_out (n + 1)
opened_one n = ap (λ (f : ℕ → ℕ). record { all = n + 1; of_group = f }) (fun_ext (λ h. either (h == 0)))
  where
    either : (b : Bool) → (if b then (if b then n else 0) + 1 else (if b then n else 0)) ≡ (if b then n + 1 else 0)
    either true = refl
    either false = refl
