use Rattle.std.proofs.Common.{reverse}
use Rattle.term_store.specs.Terms.{value}
use Rattle.term_store.specs.Work.{work_size, plain}
use Rattle.term_store.specs.Compares.{IsComparing}
use Rattle.term_store.proofs.store.Store.compare_cells.Given as goal

abbrev pub invariant-loop-pair : goal.invariant-loop-pair
invariant-loop-pair l = IsComparing l.names l.self l.fn.left l.fn.right l.todo.items

abbrev pub decreases-loop-pair : goal.decreases-loop-pair
decreases-loop-pair l = work_size (value plain l.self) (reverse l.todo.items)
