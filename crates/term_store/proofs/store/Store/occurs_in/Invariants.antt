use Rattle.term_store.specs.Terms.{value, trees_of}
use Rattle.term_store.specs.Work.{size_all, plain, IsWalk}
use Rattle.term_store.proofs.store.Store.occurs_in.Given as goal

abbrev pub invariant-loop-next : goal.invariant-loop-next
invariant-loop-next l = IsWalk l.self l.variable l.fn.cells l.todo.items

abbrev pub decreases-loop-next : goal.decreases-loop-next
decreases-loop-next l = size_all (trees_of (value plain l.self) l.todo.items)
