use Rattle.std.proofs.Common.{◌∙◌, ◌++◌, ◌∷◌, [], ap}
use Rattle.prolog_arith.specs.declared.evaluation.Task.{Task}
use Rattle.prolog_arith.proofs.Way.{way-cell, way-evaluated, way-evaluated-smaller, way-applied}
use Rattle.prolog_arith.proofs.evaluation.eval.Goals as goal

pub evaluate-requires-clause-valid : goal.evaluate-requires-clause-valid
evaluate-requires-clause-valid c =
    way-cell c.args.names.now c.args.store.now c.args.cell c.loop-task.tasks.items c.pop.new.self.items c.loop-task.values.items c.loop-task.values.items
    c.in-Evaluate.next (c.in-Some.ensures.items ∙ ap (λ (t : Task). c.pop.new.self.items ++ t ∷ []) c.in-Evaluate.is) c.loop-task.invariant

pub loop-task-smaller-in-Continue-branch-2 : goal.loop-task-smaller-in-Continue-branch-2
loop-task-smaller-in-Continue-branch-2 c =
    way-evaluated-smaller c.args.names.now c.args.store.now c.args.cell c.loop-task.tasks.items c.pop.new.self.items c.loop-task.values.items c.evaluate.new.values.items
    c.evaluate.new.tasks.items c.in-Evaluate.next (c.in-Some.ensures.items ∙ ap (λ (t : Task). c.pop.new.self.items ++ t ∷ []) c.in-Evaluate.is) c.in_ok-evaluate-in-Evaluate.ensures.evaluated

pub loop-task-preserved-in-Continue-branch-2 : goal.loop-task-preserved-in-Continue-branch-2
loop-task-preserved-in-Continue-branch-2 c =
    way-evaluated c.args.names.now c.args.store.now c.args.cell c.loop-task.tasks.items c.pop.new.self.items c.loop-task.values.items c.evaluate.new.values.items
    c.evaluate.new.tasks.items c.in-Evaluate.next (c.in-Some.ensures.items ∙ ap (λ (t : Task). c.pop.new.self.items ++ t ∷ []) c.in-Evaluate.is) c.loop-task.invariant c.in_ok-evaluate-in-Evaluate.ensures.evaluated

pub loop-task-preserved : goal.loop-task-preserved
loop-task-preserved c =
    way-applied c.args.names.now c.args.store.now c.args.cell c.loop-task.tasks.items c.pop.new.self.items c.loop-task.values.items c.apply.new.values.items
    c.in-Apply.operation (c.in-Some.ensures.items ∙ ap (λ (t : Task). c.pop.new.self.items ++ t ∷ []) c.in-Apply.is) c.loop-task.invariant c.in_ok-apply-in-Apply.ensures.applied
