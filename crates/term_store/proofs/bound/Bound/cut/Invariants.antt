use Rattle.std.proofs.Common.{◌≡◌, ◌≤◌, ◌-◌, length, drop}
use Rattle.term_store.proofs.bound.Bound.cut.Given as goal

abbrev pub invariant-loop-self : goal.invariant-loop-self
invariant-loop-self l = record {
  low : l.count ≤ length l.self;
  high : length l.self ≤ length l.fn.self;
  same : l.self ≡ drop (length l.fn.self - length l.self) l.fn.self;
}

abbrev pub decreases-loop-self : goal.decreases-loop-self
decreases-loop-self l = length l.self
