use Rattle.std.proofs.Common.{codes}
use Rattle.std.proofs.lemmas.Result.{IfOk-weaker}
use Rattle.wam_machine.proofs.GoalParts.{tested, three-plain}
use Rattle.wam_machine.proofs.control.three_control.Goals as goal

pub returns : goal.returns
returns c =
    let f = c.args.name.now in
    let found = three-plain f c.args.first c.args.second c.args.third (tested f _ (codes "catch") _ _ c.eq.ensures c.as_slice.ensures c.if-eq.false)
    (tested f _ (codes "findall") _ _ c.eq-2.ensures c.as_slice-2.ensures c.if-eq-2.false) (tested f _ (codes "call") _ _ c.eq-3.ensures c.as_slice-3.ensures c.if-eq-3.false) in
    IfOk-weaker c.plain.result _ _ found c.plain.ensures
