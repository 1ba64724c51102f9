use Rattle.std.proofs.Common.{arith}
use Rattle.wam_machine.proofs.Pushed.{terms-push, said-push, terms-stay, said-stay, cells-frames, at_err}
use Rattle.wam_machine.proofs.goals.push_next.Goals as goal

pub returns-in_err-push-clause-terms : goal.returns-in_err-push-clause-terms
returns-in_err-push-clause-terms g c = terms-stay c.args.terms.now c.requires.terms c.push.new.self c.args.terms.now.next c.in_err-push.ensures.items (omega arith)

pub returns-in_err-push-clause-err : goal.returns-in_err-push-clause-err
returns-in_err-push-clause-err g c =
    at_err c.from_residual.result (said-stay c.args.terms.now c.requires.terms c.push.new.self c.args.terms.now.next c.in_err-push.ensures.items (omega arith))

pub returns-in_err-push-clause-cells : goal.returns-in_err-push-clause-cells
returns-in_err-push-clause-cells g c = cells-frames c.args.terms.now c.push.new.self c.args.terms.now.next

pub returns-clause-terms : goal.returns-clause-terms
returns-clause-terms g c =
    let a = c.push.new.self.ok.0 in
    let b = c.len-terms.ensures in
    terms-push c.args.terms.now c.requires.terms c.push.new.self c.len-terms.result c.args.what c.requires.next c.in_ok-push.ensures.items (omega (arith, a, b))

pub returns-clause-said : goal.returns-clause-said
returns-clause-said g c =
    let a = c.push.new.self.ok.0 in
    let b = c.len-terms.ensures in
    said-push c.args.terms.now c.requires.terms c.push.new.self c.len-terms.result c.args.what c.requires.next c.in_ok-push.ensures.items (omega (arith, a, b))

pub returns-clause-cells : goal.returns-clause-cells
returns-clause-cells g c = cells-frames c.args.terms.now c.push.new.self c.len-terms.result
