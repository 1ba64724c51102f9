use Rattle.term_store.proofs.WorkSteps.{outcome-follow, IfOk-more}
use Rattle.term_store.proofs.store.Store.step.Goals as goal

pub returns-clause-outcome : goal.returns-clause-outcome
returns-clause-outcome c =
    IfOk-more c.solve.result _ _
    (λ t h. outcome-follow c.args.self.now c.solve.new.self c.args.work.now.items c.solve.new.work.items c.args.pair.left c.args.pair.right c.follow-left.result c.follow-right.result
    c.follow-left.ensures.formed c.follow-left.ensures.named c.follow-right.ensures.named c.follow-left.ensures.same c.follow-right.ensures.same t h)
    c.solve.ensures.outcome
