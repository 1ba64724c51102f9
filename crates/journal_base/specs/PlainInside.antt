-- The fields of a plain base.
use Rattle.std.specs.Prelude.{◌≡◌, ℕ, length}
use Rattle.std.specs.HashMap.{get, HashMap}
use Rattle.std.specs.declared.hash.FoldHasher.{FoldHasher}
use Rattle.std.specs.declared.hash.BuildHasherDefault.{BuildHasherDefault}
use Rattle.prolog_terms.specs.declared.entry.Indicator.{Indicator}
use Rattle.prolog_terms.specs.declared.entry.Kind.{Kind}
use Rattle.journals.specs.Journal.{Journal, procedures, same_indicator, procedure_named}
use Rattle.journal_base.specs.Legal.{Legal}
use Rattle.journal_base.specs.Space.{used}
use Rattle.journal_base.specs.View.{AreSizes}
use Rattle.journal_base.specs.Plain.{Plain}
use Rattle.journal_base.specs.declared.plain.PlainBase.TheInside.{Inside}

abbrev pub plain_of : Inside → Plain
plain_of a = record { number = a.number; words = a.words; updates = a.updates; entries = a.ledger.entries; out = a.out }

abbrev pub Found : Type 0
Found = HashMap Indicator (ℕ × Kind) (BuildHasherDefault FoldHasher)

-- each procedure stands in the map
abbrev pub AreFound : Journal → Found → Type 0
AreFound J found = (i : Indicator) → get same_indicator found i ≡ procedure_named J i

-- the list is legal, and what stands beside it is so: the map of procedures, and the counts
pub record AreKept (words updates : ℕ) (J : Journal) (found : Found) (declared used' : ℕ) : Type 0 where
  pub sizes : AreSizes words updates
  pub legal : Legal words updates J
  pub found_in : AreFound J found
  pub counted : declared ≡ length (procedures J)
  pub summed : used' ≡ used J

abbrev pub IsPlain : Inside → Type 0
IsPlain a = AreKept a.words a.updates a.ledger.entries a.found a.declared a.used
