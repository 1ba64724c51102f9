-- Keys whose names are numbers of a list of texts, as a call has them: the keys that they stand for.
use Rattle.std.specs.Prelude.{◌≡◌, ℕ, ◌<◌, List, [], length, map, Option, Some, None, option_map, unwrap_or, slice_get, All}
use Rattle.call_patterns.specs.Keys as terms
use Rattle.call_patterns.specs.Keys.{GoalKeys}
use Rattle.call_patterns.specs.declared.key.Key.{Key}
use Rattle.call_patterns.specs.declared.key.Key.TheVariants.{Int, Atom, Functor}

abbrev pub text_of : List (List ℕ) → ℕ → List ℕ
text_of names n = unwrap_or (slice_get names n) []

-- the key that a numbered key stands for
abbrev pub key_of : List (List ℕ) → Key → terms.Key
key_of names (Int z) = terms.integer_key z
key_of names (Atom n) = terms.atom_key (text_of names n)
key_of names (Functor n k) = terms.functor_key (text_of names n) k

abbrev pub goal_keys : List (List ℕ) → List (Option Key) → GoalKeys
goal_keys names keys = map (option_map (key_of names)) keys

-- the key's name is a number of these texts
abbrev pub IsKeyOf : List (List ℕ) → Option Key → Type 0
IsKeyOf names None = Unit {0}
IsKeyOf names (Some (Int z)) = Unit {0}
IsKeyOf names (Some (Atom n)) = n < length names
IsKeyOf names (Some (Functor n k)) = n < length names

-- 40 keys, one at each position or none
pub record AreKeysOf (names : List (List ℕ)) (keys : List (Option Key)) : Type 0 where
  pub whole : length keys ≡ 40
  pub numbered : All (IsKeyOf names) keys
