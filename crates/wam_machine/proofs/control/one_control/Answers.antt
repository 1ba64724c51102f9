use Rattle.std.proofs.Common.{codes}
use Rattle.std.proofs.lemmas.Result.{IfOk-weaker}
use Rattle.wam_machine.proofs.GoalParts.{tested, told, one-asked, throw-found}
use Rattle.wam_machine.proofs.control.one_control.Goals as goal

pub returns : goal.returns
returns c =
    let f = c.args.name.now in
    let only = c.args.only in
    let found = one-asked f only (tested f _ (codes "call") _ _ c.eq.ensures c.as_slice.ensures c.if-eq.false) (tested f _ (codes "once") _ _ c.eq-2.ensures c.as_slice-2.ensures c.if-eq-2.false)
    (tested f _ (codes "\\+") _ _ c.eq-3.ensures c.as_slice-3.ensures c.if-eq-3.false) (tested f _ (codes "throw") _ _ c.eq-4.ensures c.as_slice-4.ensures c.if-eq-4.false)
    (tested f _ (codes "halt") _ _ c.eq-5.ensures c.as_slice-5.ensures c.if-eq-5.false) in
    IfOk-weaker c.access_control.result _ _ found c.access_control.ensures

pub returns-then-eq-4 : goal.returns-then-eq-4
returns-then-eq-4 c = throw-found c.args.name.now c.args.only (told c.args.name.now _ (codes "throw") _ c.eq-4.ensures c.as_slice-4.ensures c.if-eq-4.true)
