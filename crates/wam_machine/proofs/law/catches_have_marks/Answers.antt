use Rattle.wam_machine.proofs.Marks.{catches_have_marks}
use Rattle.wam_machine.proofs.law.catches_have_marks.Goals as goal

pub returns : goal.returns
returns c = catches_have_marks
