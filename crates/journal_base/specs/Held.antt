-- A list of entries with room for more.
use Rattle.std.specs.Prelude.{ℕ, List, refl}
use Rattle.std.specs.Coded.{Coded, code_by, coded×, coded_ℕ, coded_list}
use Rattle.prolog_terms.specs.declared.entry.Entry.{Entry}
use Rattle.prolog_terms.specs.contracts.entry.Entry as of_entry

-- the entries, and for how many more there is room, beside that for the erasure of each clause that is alive
pub record Held : Type 0 where
  pub entries : List Entry
  pub room : ℕ

abbrev pub held_code : Coded Held
held_code = code_by (List Entry × ℕ) (coded× (coded_list of_entry.the_row.coded) coded_ℕ) (λ h. (h.entries, h.room)) (λ t. record { entries = t.0; room = t.1 }) (λ _. refl)
