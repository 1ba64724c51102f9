use Rattle.std.specs.Prelude.{ℕ, ◌+◌, ◌-◌, ◌^◌, ◌≤◌, min, List, Contains}

-- one more; a count at the end of its type stands still
abbrev pub next_count : ℕ → ℕ
next_count n = min (n + 1) (2 ^ 64 - 1)

-- the count has risen, or stands at the end of its type
abbrev pub Rose : ℕ → ℕ → Type 0
Rose before now = next_count before ≤ now

-- after this many calls, the next call is one of those that fail
abbrev pub FailsNext : List ℕ → ℕ → Type 0
FailsNext fails calls = Contains fails (next_count calls)
