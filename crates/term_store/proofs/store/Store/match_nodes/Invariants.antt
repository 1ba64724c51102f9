use Rattle.std.proofs.Common.{◌-◌, length}
use Rattle.term_store.proofs.Matched.{IsMatching}
use Rattle.term_store.proofs.store.Store.match_nodes.Given as goal

abbrev pub invariant-loop-next : goal.invariant-loop-next
invariant-loop-next l = IsMatching l.fn.self l.fn.names l.nodes l.from l.fn.cell l.self l.names l.matching

abbrev pub decreases-loop-next : goal.decreases-loop-next
decreases-loop-next l = length l.nodes - l.matching.at
