use Rattle.std.proofs.Common.{refl}
use Rattle.wam_machine.proofs.FirstTerms.{first_said}
use Rattle.wam_machine.proofs.shown.begun.Goals as goal

pub returns-clause-said : goal.returns-clause-said
returns-clause-said g c = first_said _ c.new.ensures.items refl c.new-2.ensures.items
