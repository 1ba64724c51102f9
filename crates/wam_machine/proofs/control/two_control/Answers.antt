use Rattle.std.proofs.Common.{codes}
use Rattle.std.proofs.lemmas.Result.{IfOk-weaker}
use Rattle.wam_machine.proofs.GoalParts.{tested, told, two-plain, clause-found}
use Rattle.wam_machine.proofs.control.two_control.Goals as goal

pub returns-then-eq-4 : goal.returns-then-eq-4
returns-then-eq-4 c = clause-found c.args.name.now c.args.left c.args.right (told c.args.name.now _ (codes "clause") _ c.eq-4.ensures c.as_slice-4.ensures c.if-eq-4.true)

pub returns : goal.returns
returns c =
    let f = c.args.name.now in
    let found = two-plain f c.args.left c.args.right (tested f _ (codes ",") _ _ c.eq.ensures c.as_slice.ensures c.if-eq.false) c.requires (tested f _ (codes "->") _ _ c.eq-2.ensures c.as_slice-2.ensures c.if-eq-2.false)
    (tested f _ (codes "call") _ _ c.eq-3.ensures c.as_slice-3.ensures c.if-eq-3.false) (tested f _ (codes "clause") _ _ c.eq-4.ensures c.as_slice-4.ensures c.if-eq-4.false) in
    IfOk-weaker c.plain.result _ _ found c.plain.ensures
