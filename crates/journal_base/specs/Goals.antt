-- What a call asks for: a procedure, and the goal's keys.
use Rattle.std.specs.Prelude.{ℕ}
use Rattle.call_patterns.specs.Keys.{GoalKeys}
use Rattle.call_patterns.specs.Calls.{goal_keys}
use Rattle.journal_base.specs.declared.call.Call.{Call}

-- a call as the definitions see it
pub record Goal : Type 0 where
  pub procedure : ℕ
  pub keys : GoalKeys

abbrev pub goal_of : Call → Goal
goal_of c = record { procedure = c.procedure; keys = goal_keys c.names.now c.keys.now.at }
