use Rattle.wam_machine.proofs.Marks.{findalls_have_marks}
use Rattle.wam_machine.proofs.law.findalls_have_marks.Goals as goal

pub returns : goal.returns
returns c = findalls_have_marks
