use Rattle.std.proofs.Common.{reverse}
use Rattle.term_store.specs.Terms.{term_of}
use Rattle.prolog_arith.specs.Work.{tasks_size, IsUnderWay}
use Rattle.prolog_arith.proofs.evaluation.eval.Given as goal

abbrev pub invariant-loop-task : goal.invariant-loop-task
invariant-loop-task l = IsUnderWay l.names l.store l.fn.cell l.tasks.items l.values.items

abbrev pub decreases-loop-task : goal.decreases-loop-task
decreases-loop-task l = tasks_size (term_of l.names l.store) (reverse l.tasks.items)
