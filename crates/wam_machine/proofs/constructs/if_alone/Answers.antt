use Rattle.std.proofs.Common.{length, [], ◌∷◌, refl, ap, ap₂}
use Rattle.wam_machine.specs.States.{Do, ConditionEnd}
use Rattle.wam_machine.specs.Terms.{said, built}
use Rattle.wam_machine.proofs.Acted.{acts-onwards, said-put, cells-on, on_ok}
use Rattle.wam_machine.proofs.constructs.if_alone.Goals as goal

pub returns-clause-acts : goal.returns-clause-acts
returns-clause-acts g c =
    let m = c.args.machine.now in
    let t1 = c.push_next.new.terms in
    let t2 = c.push_next-2.new.terms in
    let t3 = c.push_next-3.new.terms in
    let o = said m.terms in
    let before = c.height-before.result in
    let h = length o.stack in
    let then_ = Do (built m.terms c.args.then) c.args.cut in
    let cond = (cells-on m.terms t1 t2 c.in_ok-push_next.ensures.cells c.in_ok-push_next-2.ensures.cells c.args.condition c.requires.condition.built_is).1 in
    let two = said-put (said t1) (record o { goals = then_ ∷ o.goals }) (said t2) (ConditionEnd before) (ConditionEnd h)
    c.in_ok-push_next.ensures.said (ap ConditionEnd c.height-before.ensures) c.in_ok-push_next-2.ensures.said in
    on_ok c.push_next-3.result _ _
    (λ is. acts-onwards m (record m { terms = t3 }) c.push_next-3.ensures.terms refl
    (λ k. Do (built m.terms c.args.condition) k ∷ ConditionEnd k ∷ then_ ∷ []) refl
    (said-put (said t2) (record o { goals = ConditionEnd h ∷ then_ ∷ o.goals }) (said t3) (Do (built t2 c.args.condition) before) (Do (built m.terms c.args.condition) h)
    two (ap₂ Do cond c.height-before.ensures) is))
    c.push_next-3.ensures.said
