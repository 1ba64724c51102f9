-- Keys at the first positions of a term.
use Rattle.std.specs.Prelude.{◌≡◌, ℕ, ◌<◌, List, length, take, Option, None, option_map, slice_index_or}
use Rattle.prolog_terms.specs.Tree.{Tree}
use Rattle.call_patterns.specs.Keys.{key_at}
use Rattle.call_patterns.specs.Calls.{IsKeyOf, key_of}
use Rattle.call_patterns.specs.declared.key.Key.{Key}

-- the key that stands at a position, by these texts
abbrev pub IsKeyAt : List (List ℕ) → Tree → ℕ → Option Key → Type 0
IsKeyAt names t p k = IsKeyOf names k × (option_map (key_of names) k ≡ key_at t p)

-- the first n of 40 keys are those of the term
pub record Filled (names : List (List ℕ)) (t : Tree) (keys : List (Option Key)) (n : ℕ) : Type 0 where
  pub whole : length keys ≡ 40
  pub each : (p : ℕ) → p < n → IsKeyAt names t p (slice_index_or keys p None)

-- the texts go on from the old ones
abbrev pub Longer : List (List ℕ) → List (List ℕ) → Type 0
Longer old new = take (length old) new ≡ old
