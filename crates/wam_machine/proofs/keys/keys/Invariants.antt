use Rattle.call_patterns.specs.Filling.{Filled}
use Rattle.term_store.specs.Terms.{term_of}
use Rattle.wam_machine.proofs.keys.keys.Given as goal

abbrev pub invariant-loop-position : goal.invariant-loop-position
invariant-loop-position g l = Filled l.terms.names (term_of l.terms.names l.terms.store l.goal) l.at l.position
