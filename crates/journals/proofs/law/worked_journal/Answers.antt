use Rattle.std.proofs.Common.{refl}
use Rattle.journals.proofs.law.worked_journal.Goals as goal

pub returns : goal.returns
returns c = record {
  chained = refl;
  living = refl;
  updated = refl;
  first = refl;
  last = refl;
  updated_other = refl;
  first_erased = refl;
  last_erased = refl;
  updated_twice = refl;
  second = refl;
  other_arity = refl;
}
