-- How many clauses of a procedure agree with a goal at the positions of its pattern.
use Rattle.std.specs.Prelude.{ℕ, length}
use Rattle.call_patterns.specs.Keys.{GoalKeys}
use Rattle.journals.specs.Journal.{Journal}
use Rattle.call_patterns.specs.Patterns.{pattern, pattern_codes}
use Rattle.call_patterns.specs.Rows.{rows, bucket}

abbrev pub agreeing : Journal → ℕ → GoalKeys → ℕ
agreeing J p goal = length (bucket (rows J p) (pattern goal) (pattern_codes goal))
