-- A base that keeps one list of entries and scans it whole.
use Rattle.std.specs.Prelude.{◌≡◌, ℕ, ◌==◌, List, [], ◌∷◌, ◌++◌, length, All, refl, if◌then◌else◌}
use Rattle.std.proofs.Common.{sym, ap, ◌∙◌, subst, append_assoc, append-nil}
use Rattle.std.proofs.lemmas.List.Elements.{All-append, All-nil}
use Rattle.std.specs.Coded.{Coded, code_by, coded×, coded_ℕ, coded_list}
use Rattle.prolog_terms.specs.declared.entry.Entry.{Entry}
use Rattle.prolog_terms.specs.contracts.entry.Entry as of_entry
use Rattle.journal_base.specs.View.{View, Out, entries_by}

-- the engine that it serves, its sizes, its entries, and how many of its cursors were not given back
pub record Plain : Type 0 where
  pub number : ℕ
  pub words : ℕ
  pub updates : ℕ
  pub entries : List Entry
  pub out : ℕ

abbrev pub plain_code : Coded Plain
plain_code =
    code_by (ℕ × (ℕ × (ℕ × (List Entry × ℕ)))) (coded× coded_ℕ (coded× coded_ℕ (coded× coded_ℕ (coded× (coded_list of_entry.the_row.coded) coded_ℕ))))
    (λ s. (s.number, (s.words, (s.updates, (s.entries, s.out)))))
    (λ t. record { number = t.0; words = t.1.0; updates = t.1.1.0; entries = t.1.1.1.0; out = t.1.1.1.1 }) (λ _. refl)

-- it stands for its own list alone, and has seen all of it
abbrev pub plain_view : Plain → View
plain_view s = record {
  stands_for = λ J. J ≡ s.entries;
  seen = length s.entries;
  number = s.number;
  words = s.words;
  updates = s.updates;
  causes = 0 ∷ [];
  own = entries_by s.number s.entries;
}

-- all cursors are of one group
abbrev pub plain_out : ℕ → Out
plain_out n = record { all = n; of_group = λ h. if h == 0 then n else 0 }

-- the same engine and sizes, and the entries and perhaps more, all by the engine
pub record IsContinued (s t : Plain) : Type 0 where
  pub number : t.number ≡ s.number
  pub words : t.words ≡ s.words
  pub updates : t.updates ≡ s.updates
  pub added : List Entry
  pub entries : t.entries ≡ s.entries ++ added
  pub own : All (λ x. x.by ≡ s.number) added

pub continued_itself : (s : Plain) → IsContinued s s
continued_itself s = record {
  number = refl;
  words = refl;
  updates = refl;
  added = [];
  entries = sym (append-nil s.entries);
  own = All-nil (λ (x : Entry). x.by ≡ s.number);
}

pub continued_further : (s t u : Plain) → IsContinued s t → IsContinued t u → IsContinued s u
continued_further s t u h k = record {
  number = k.number ∙ h.number;
  words = k.words ∙ h.words;
  updates = k.updates ∙ h.updates;
  added = h.added ++ k.added;
  entries = k.entries ∙ ap (λ (l : List Entry). l ++ k.added) h.entries ∙ append_assoc s.entries h.added k.added;
  own = All-append (λ (x : Entry). x.by ≡ s.number) h.added k.added h.own (subst (λ (n : ℕ). All (λ (x : Entry). x.by ≡ n) k.added) h.number k.own);
}
