use Rattle.term_store.specs.Terms.{value}
use Rattle.term_store.specs.Work.{work_size, free_count, potential, plain, IsUnderWay}
use Rattle.term_store.proofs.store.Store.unify.Given as goal

abbrev pub invariant-loop-pair : goal.invariant-loop-pair
invariant-loop-pair l = IsUnderWay l.fn.self l.self l.fn.a l.fn.b l.work.items

abbrev pub decreases-loop-pair : goal.decreases-loop-pair
decreases-loop-pair l = potential (free_count l.self) (work_size (value plain l.self) l.work.items)
