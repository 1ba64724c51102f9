use Rattle.std.proofs.Common.{◌≡◌, ◌+◌, ◌≤◌, length}
use Rattle.prolog_terms.specs.Flat.{past}
use Rattle.call_patterns.specs.Places.{trees_at}
use Rattle.call_patterns.proofs.walk.argument_at.Given as goal

abbrev pub invariant-loop-turn : goal.invariant-loop-turn
invariant-loop-turn l = record {
  same : trees_at l.nodes l.k ≡ past l._turn (trees_at l.nodes (l.at + 1));
  within : l.k ≤ length l.nodes;
}
