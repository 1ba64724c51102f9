use Rattle.std.proofs.Common.{List, ℕ, take, ◌≡◌}
use Rattle.std.specs.List.{filter}
use Rattle.call_patterns.specs.Calls.{goal_keys}
use Rattle.call_patterns.specs.Patterns.{IsPattern, argument_positions, has_key as is_key_there, positions}
use Rattle.call_patterns.proofs.pattern.pattern_of.Given as goal

abbrev pub invariant-loop-argument : goal.invariant-loop-argument
invariant-loop-argument l = record {
  pattern : IsPattern l.pattern;
  positions : (names : List (List ℕ)) → positions l.pattern ≡ take 3 (filter (is_key_there (goal_keys names l.keys.at)) (take l.argument argument_positions));
}
