use Rattle.std.proofs.Common.{◌≡◌, take}
use Rattle.std.specs.List.{sum_by}
use Rattle.journal_base.specs.Space.{node_words}
use Rattle.journal_base.proofs.space.all_words.Given as goal

abbrev pub invariant-loop-node : goal.invariant-loop-node
invariant-loop-node l = l.words ≡ sum_by node_words (take l.node-index l.nodes)
