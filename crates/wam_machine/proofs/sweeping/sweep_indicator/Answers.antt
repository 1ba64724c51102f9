use Rattle.std.proofs.Common.{sym, ap, ◌∙◌, Option}
use Rattle.std.specs.Prelude.{option_map}
use Rattle.std.proofs.lemmas.Result.{IfOk-weaker}
use Rattle.term_store.specs.declared.cell.Cell.{Cell}
use Rattle.wam_machine.specs.Procedures.{sweep_at}
use Rattle.wam_machine.proofs.sweeping.sweep_indicator.Goals as goal

pub returns-in-Some : goal.returns-in-Some
returns-in-Some c =
    IfOk-weaker c.retract_all_indicator.result _ _ (λ i e tree. e ∙ sym (ap (λ (o : Option Cell). sweep_at (option_map tree o)) c.in-Some.is)) c.retract_all_indicator.ensures

pub returns-in-None : goal.returns-in-None
returns-in-None c =
    IfOk-weaker c.abolish_indicator.result _ _ (λ i e tree. e ∙ sym (ap (λ (o : Option Cell). sweep_at (option_map tree o)) c.in-None.is)) c.abolish_indicator.ensures
