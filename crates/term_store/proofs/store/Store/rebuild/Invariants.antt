use Rattle.std.proofs.Common.{◌≤◌, length, drop}
use Rattle.term_store.specs.Copies.{behind, IsRebuilding}
use Rattle.term_store.proofs.store.Store.rebuild.Given as goal

abbrev pub invariant-loop-at : goal.invariant-loop-at
invariant-loop-at l = record {
  low : l.at ≤ length l.cells;
  going : IsRebuilding (behind l.from l.seen) l.fn.self l.self (drop l.at l.cells) l.stack.items;
}

abbrev pub decreases-loop-at : goal.decreases-loop-at
decreases-loop-at l = l.at
