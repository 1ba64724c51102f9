use Rattle.std.proofs.Common.{◌≡◌, ◌++◌, take}
use Rattle.term_store.specs.Work.{pairs_of}
use Rattle.term_store.proofs.solve.push_pairs.Given as goal

abbrev pub invariant-loop-k : goal.invariant-loop-k
invariant-loop-k l = l.work.items ≡ l.fn.work.items ++ take l.k (pairs_of l.left l.right)
