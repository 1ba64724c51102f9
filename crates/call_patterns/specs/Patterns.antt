-- The pattern of a call: the first of the argument positions at which the goal has a key, three at most.
use Rattle.std.specs.Prelude.{◌≡◌, ◌≤◌, ◌<◌, ℕ, List, [], ◌∷◌, length, take, filter, map, Bool, Option, option_and_then, slice_get, slice_index}
use Rattle.std.specs.Option.{option_map_or, is_some}
use Rattle.call_patterns.specs.Keys.{Key, GoalKeys}
use Rattle.call_patterns.specs.Codes.{key_code}
use Rattle.call_patterns.specs.declared.pattern.Pattern.{Pattern}

-- the positions of the first eight arguments themselves
abbrev pub argument_positions : List ℕ
argument_positions = 0 ∷ 5 ∷ 10 ∷ 15 ∷ 20 ∷ 25 ∷ 30 ∷ 35 ∷ []

abbrev pub key_in : GoalKeys → ℕ → Option Key
key_in goal p = option_and_then (λ k. k) (slice_get goal p)

abbrev pub has_key : GoalKeys → ℕ → Bool
has_key goal p = is_some (key_in goal p)

unfoldable pub pattern : GoalKeys → List ℕ
pattern goal = take 3 (filter (has_key goal) argument_positions)

-- the goal's codes at the positions of its pattern
unfoldable pub pattern_codes : GoalKeys → List ℕ
pattern_codes goal = map (λ p. option_map_or key_code (key_in goal p) 0) (pattern goal)

-- ---- patterns as the code has them

-- the three positions that a pattern has room for
abbrev pub places : Pattern → List ℕ
places p = map (λ q. q.0) p.at

-- the positions of a pattern, in order
abbrev pub positions : Pattern → List ℕ
positions p = take p.count (places p)

-- at most three positions, each below 40; past them stands 0
pub record IsPattern (p : Pattern) : Type 0 where
  pub few : p.count ≤ 3
  pub three : length (places p) ≡ 3
  pub below : (i : ℕ) → slice_index (places p) i < 40
  pub past : (i : ℕ) → p.count ≤ i → slice_index (places p) i ≡ 0
