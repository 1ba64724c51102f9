use Rattle.std.proofs.Common.{length}
use Rattle.term_store.specs.Terms.{term_of}
use Rattle.term_builtins.specs.Meanings.{elements}
use Rattle.term_builtins.proofs.Listed.{IsPartlyTaken}
use Rattle.term_builtins.proofs.lists.elements_of.Given as goal

abbrev pub invariant-loop-first : goal.invariant-loop-first
invariant-loop-first l = IsPartlyTaken l.names l.store (term_of l.names l.store l.fn.list) l.cells.items l.end

-- what is left to be taken
abbrev pub decreases-loop-first : goal.decreases-loop-first
decreases-loop-first l = length (elements (term_of l.names l.store l.end))
