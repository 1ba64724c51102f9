-- The field of some bits of a word, from one bit on.
use Rattle.std.specs.Prelude.{ℕ, ◌+◌, ◌*◌, ◌/◌, ◌%◌, ◌^◌, ◌<◌, ◌≤◌}

pub record IsField (at bits : ℕ) : Type 0 where
  pub some : 0 < bits
  pub within : at + bits ≤ 64

unfoldable pub field : ℕ → ℕ → ℕ → ℕ
field at bits word = word / 2 ^ at % 2 ^ bits

-- the word with another value in the field
unfoldable pub with_field : ℕ → ℕ → ℕ → ℕ → ℕ
with_field at bits word value = (word / 2 ^ (at + bits) * 2 ^ bits + value) * 2 ^ at + word % 2 ^ at
