use Rattle.std.proofs.Common.{refl}
use Rattle.call_patterns.specs.Keys.{keys}
use Rattle.journal_base.specs.Space.{need, clause_words}
use Rattle.journal_base.proofs.law.worked_words.Goals as goal

pub returns : goal.returns
unfolding need clause_words keys
returns c = record { declaration_words = refl; addition_words = refl; variable_words = refl; inner_words = refl; erasure_words = refl }
