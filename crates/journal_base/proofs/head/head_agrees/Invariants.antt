use Rattle.std.proofs.Common.{◌≡◌, Some}
use Rattle.call_patterns.specs.NodeKey.{rest_agrees}
use Rattle.call_patterns.specs.Candidates.{head_agrees}
use Rattle.journal_base.specs.Goals.{goal_of}
use Rattle.journal_base.proofs.head.head_agrees.Given as goal

abbrev pub invariant-loop-position : goal.invariant-loop-position
invariant-loop-position l = head_agrees (goal_of l.call).keys (Some l.clause) ≡ rest_agrees l.clause.head (goal_of l.call).keys l.position
