use Rattle.std.proofs.Common.{ap, ◌∙◌}
use Rattle.std.proofs.lemmas.Result.{IfOk-weaker}
use Rattle.prolog_terms.specs.Faults.{fault_tree}
use Rattle.wam_machine.specs.Procedures.{no_change}
use Rattle.wam_machine.proofs.sweeping.unswept.Goals as goal

pub returns : goal.returns
returns c =
    IfOk-weaker c.unchangeable_at.result _ _ (λ t e tree. e ∙ ap (fault_tree (no_change c.args.indicator.now)) (c.in_ok-at.ensures tree)) c.unchangeable_at.ensures
