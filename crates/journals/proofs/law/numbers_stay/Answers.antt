use Rattle.std.proofs.Common.{◌≡◌, subst, true}
use Rattle.prolog_terms.specs.declared.entry.Indicator.{Indicator}
use Rattle.journals.specs.Journal.{same_indicator}
use Rattle.journals.proofs.Entries.{number_of-kept, number_of-after, same-equal, same-refl}
use Rattle.journals.proofs.law.numbers_stay.Goals as goal

pub returns-clause-stay : goal.returns-clause-stay
returns-clause-stay c = number_of-kept

pub returns-clause-new : goal.returns-clause-new
returns-clause-new c = number_of-after

pub returns-clause-equal : goal.returns-clause-equal
returns-clause-equal c = λ i j. (same-equal i j, λ e. subst (λ (k : Indicator). same_indicator i k ≡ true) e (same-refl i))
