use Rattle.std.proofs.Common.{◌∙◌, refl}
use Rattle.wam_machine.proofs.Told.{at_err}
use Rattle.wam_machine.proofs.Gathered.{putting-first, putting-next, putting-stack}
use Rattle.wam_machine.proofs.findall.put_copies.Goals as goal

pub loop-copy-init : goal.loop-copy-init
loop-copy-init g c = putting-first c.args.terms.now c.args.found.now c.new-cells.result.items c.new-cells.ensures.items c.requires.terms

pub loop-copy-preserved : goal.loop-copy-preserved
loop-copy-preserved g c =
    let e = c.in_ok-cell.ensures in
    putting-next c.args.terms.now c.args.found.now c.loop-copy.terms c.put_ball.new.terms c.loop-copy.cells.items c.push.new.self.items c.in_ok-cell.cell c.in-Some.copy.now c.loop-copy.left.now c.in-Some.rest.now
    c.loop-copy.invariant c.in-Some.ensures.cases.0 e.terms e.said e.cells e.cell e.ball c.in_ok-push.ensures.items

pub returns-in_err-cell-clause-err : goal.returns-in_err-cell-clause-err
returns-in_err-cell-clause-err g c =
    at_err c.from_residual.result _ (c.in_err-cell.ensures.err ∙ putting-stack c.args.terms.now c.args.found.now c.loop-copy.terms c.loop-copy.cells.items c.loop-copy.left.now c.loop-copy.invariant)

pub returns-in_err-push-clause-err : goal.returns-in_err-push-clause-err
returns-in_err-push-clause-err g c =
    let e = c.in_ok-cell.ensures in
    let p = putting-next c.args.terms.now c.args.found.now c.loop-copy.terms c.put_ball.new.terms c.loop-copy.cells.items _ c.in_ok-cell.cell c.in-Some.copy.now c.loop-copy.left.now c.in-Some.rest.now
    c.loop-copy.invariant c.in-Some.ensures.cases.0 e.terms e.said e.cells e.cell e.ball refl in
    at_err c.from_residual-in_err-push.result _ (putting-stack c.args.terms.now c.args.found.now c.put_ball.new.terms _ c.in-Some.rest.now p)
