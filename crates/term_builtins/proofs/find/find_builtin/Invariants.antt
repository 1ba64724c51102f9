use Rattle.std.proofs.Common.{◌-◌}
use Rattle.term_builtins.specs.Table.{builtins}
use Rattle.term_builtins.proofs.Halved.{IsBetween}
use Rattle.term_builtins.proofs.find.find_builtin.Given as goal

-- rows below `low` are less than the name and arity, and those from `high` on greater
abbrev pub invariant-loop-low : goal.invariant-loop-low
invariant-loop-low l = IsBetween builtins l.name l.arity l.low l.high

-- proposed from the loop's first test
abbrev pub decreases-loop-low : goal.decreases-loop-low
decreases-loop-low l = l.high - l.low
