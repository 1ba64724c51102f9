use Rattle.wam_machine.proofs.OthersAreCalled.{others-are-called}
use Rattle.wam_machine.proofs.law.what_is_defined_is_called.Goals as goal

pub returns : goal.returns
returns c = others-are-called
