use Rattle.std.proofs.Common.{◌≡◌, ◌≤◌, ◌++◌, length, drop, reverse}
use Rattle.term_store.specs.Work.{pairs_of}
use Rattle.term_store.proofs.compare.push_pairs_back.Given as goal

abbrev pub invariant-loop-at : goal.invariant-loop-at
invariant-loop-at l = record {
  left : l.at ≤ length l.left;
  right : l.at ≤ length l.right;
  pushed : reverse l.todo.items ≡ drop l.at (pairs_of l.left l.right) ++ reverse l.fn.todo.items;
}

abbrev pub decreases-loop-at : goal.decreases-loop-at
decreases-loop-at l = l.at
