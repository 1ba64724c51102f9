use Rattle.prolog_arith.proofs.Smaller.{remainder-small, modulo-small, shifts-floors, complement-opposite}
use Rattle.prolog_arith.proofs.law.operations.Goals as goal

pub returns : goal.returns
returns c = record { remainder = remainder-small; modulo = modulo-small; shifts = shifts-floors; complement = complement-opposite }
