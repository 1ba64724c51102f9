use Rattle.std.proofs.Common.{◌≤◌, length, drop}
use Rattle.term_builtins.proofs.Listed.{IsPartlyPut}
use Rattle.term_builtins.proofs.lists.put_list.Given as goal

abbrev pub invariant-loop-at : goal.invariant-loop-at
invariant-loop-at l = record { low : l.at ≤ length l.cells; put : IsPartlyPut l.fn.store l.fn.names l.store l.names (drop l.at l.cells) l.list }

abbrev pub decreases-loop-at : goal.decreases-loop-at
decreases-loop-at l = l.at
