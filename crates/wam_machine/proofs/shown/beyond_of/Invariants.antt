use Rattle.std.proofs.Common.{◌≡◌, drop}
use Rattle.std.specs.Prelude.{max}
use Rattle.prolog_terms.specs.Substitutions.{beyond}
use Rattle.wam_machine.specs.Beyond.{beyond_nodes}
use Rattle.wam_machine.proofs.shown.beyond_of.Given as goal

abbrev pub invariant-loop-node : goal.invariant-loop-node
invariant-loop-node l = max l.beyond (beyond_nodes (drop l.node-index l.nodes)) ≡ beyond l.term
