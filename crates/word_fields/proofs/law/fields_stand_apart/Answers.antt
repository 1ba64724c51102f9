use Rattle.word_fields.proofs.Apart.{field-apart}
use Rattle.word_fields.proofs.Split.{field-with_field, field-lt}
use Rattle.word_fields.proofs.law.fields_stand_apart.Goals as goal

pub returns-clause-same : goal.returns-clause-same
returns-clause-same c = field-with_field

pub returns-clause-apart : goal.returns-clause-apart
returns-clause-apart c = field-apart

pub returns-clause-below : goal.returns-clause-below
returns-clause-below c = field-lt
