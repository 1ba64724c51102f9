use Rattle.std.proofs.Common.{reverse}
use Rattle.term_store.specs.Terms.{value, term_of, trees_of}
use Rattle.term_store.specs.Work.{size_all, plain}
use Rattle.term_store.specs.Reads.{IsPartlyRead}
use Rattle.term_store.proofs.store.Store.read_back.Given as goal

abbrev pub invariant-loop-next : goal.invariant-loop-next
invariant-loop-next l = IsPartlyRead l.names l.self (term_of l.names l.self l.fn.cell) l.todo.items l.seen l.nodes.items

abbrev pub decreases-loop-next : goal.decreases-loop-next
decreases-loop-next l = size_all (trees_of (value plain l.self) (reverse l.todo.items))
