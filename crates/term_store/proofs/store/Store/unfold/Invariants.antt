use Rattle.std.proofs.Common.{reverse}
use Rattle.term_store.specs.Terms.{value, trees_of}
use Rattle.term_store.specs.Work.{size_all, plain}
use Rattle.term_store.specs.Copies.{IsUnfolding}
use Rattle.term_store.proofs.store.Store.unfold.Given as goal

abbrev pub invariant-loop-next : goal.invariant-loop-next
invariant-loop-next l = IsUnfolding l.self l.fn.cell l.todo.items l.cells.items l.seen

abbrev pub decreases-loop-next : goal.decreases-loop-next
decreases-loop-next l = size_all (trees_of (value plain l.self) (reverse l.todo.items))
