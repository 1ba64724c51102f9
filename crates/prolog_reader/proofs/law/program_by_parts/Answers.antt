use Rattle.prolog_reader.proofs.Sentences.{program_parts}
use Rattle.prolog_reader.proofs.law.program_by_parts.Goals as goal

pub returns : goal.returns
returns c = program_parts
