use Rattle.std.proofs.Common.{◌≡◌, ◌≤◌, ◌+◌, drop}
use Rattle.std.specs.Prelude.{filter}
use Rattle.prolog_session.specs.Output.{is_of_goal, runs_after}
use Rattle.prolog_session.proofs.texts.put_goals.Given as goal

abbrev pub invariant-loop-run : goal.invariant-loop-run
invariant-loop-run l = (l.goals ≤ l.run-index)
    × (runs_after l.ops l.text.items (l.goals + 1) (filter is_of_goal (drop l.run-index l.runs)) ≡ runs_after l.ops l.fn.text.items 1 (filter is_of_goal l.runs))
