use Rattle.prolog_writer.proofs.Names.{name_spelled, number_spelled, negative_spelled, variable_spelled}
use Rattle.prolog_writer.proofs.reading_again.parts_have_tokens.Goals as goal

pub returns : goal.returns
returns c = record { names = name_spelled; numbers = number_spelled; negatives = negative_spelled; variables = variable_spelled }
