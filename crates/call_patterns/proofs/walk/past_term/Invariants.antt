use Rattle.std.proofs.Common.{◌≡◌, ◌+◌, ◌*◌, ◌≤◌, ◌^◌}
use Rattle.prolog_terms.specs.Flat.{past}
use Rattle.call_patterns.specs.Places.{trees_at}
use Rattle.call_patterns.proofs.walk.past_term.Given as goal

abbrev pub invariant-loop-k : goal.invariant-loop-k
invariant-loop-k l = record {
  same : past l.left (trees_at l.nodes l.k) ≡ past 1 (trees_at l.nodes l.at);
  few : l.left ≤ 2 ^ 32 * l.k + 1;
}
