use Rattle.wam_machine.proofs.ReservedAreDone.{reserved-are-done}
use Rattle.wam_machine.proofs.law.what_is_reserved_is_done.Goals as goal

pub returns : goal.returns
returns c = reserved-are-done
