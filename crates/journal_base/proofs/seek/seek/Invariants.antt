use Rattle.std.proofs.Common.{◌≡◌, ◌+◌, ◌≤◌}
use Rattle.journal_base.specs.Goals.{goal_of}
use Rattle.journal_base.specs.Scan.{scan, left}
use Rattle.journal_base.proofs.seek.seek.Given as goal

abbrev pub invariant-loop-q : goal.invariant-loop-q
invariant-loop-q l = record {
  found : scan l.seen (goal_of l.call) l.fn.from ≡ scan l.seen (goal_of l.call) l.q;
  visits : l.visits + left l.seen l.call.procedure l.q ≡ l.initial.visits + left l.seen l.call.procedure l.fn.from;
  few : l.visits + l.fn.from ≤ l.initial.visits + l.q;
  more : l.initial.visits ≤ l.visits;
}
