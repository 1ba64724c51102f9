use Rattle.std.specs.Prelude.{◌≡◌, ◌≤◌, ℕ, List, nat_eq}
use Rattle.std.specs.List.{IsDistinct}
use Rattle.std.specs.Cmp.Lexicographic.{pointwise}
use Rattle.call_patterns.specs.Keys.{keys_agree}
use Rattle.call_patterns.specs.Calls.{AreKeysOf, goal_keys}
use Rattle.call_patterns.proofs.Agreeing.{agree_from}
use Rattle.call_patterns.proofs.keys.could_match.Given as goal

abbrev pub invariant-loop-position : goal.invariant-loop-position
invariant-loop-position l = ((names : List (List ℕ)) → IsDistinct (pointwise nat_eq) names → AreKeysOf names l.head.at → AreKeysOf names l.goal.at
    → pointwise keys_agree (goal_keys names l.head.at) (goal_keys names l.goal.at) ≡ agree_from names l.head.at l.goal.at l.position) × (l.position ≤ 40)
