use Rattle.std.proofs.Common.{◌≤◌, length, drop}
use Rattle.prolog_terms.specs.Substitutions.{all_substituted}
use Rattle.prolog_terms.specs.Flat.{forest}
use Rattle.term_store.specs.Puts.{shifted, Grows, AreCells}
use Rattle.term_store.proofs.store.Store.put_nodes.Given as goal

abbrev pub invariant-loop-at : goal.invariant-loop-at
invariant-loop-at l = record {
  low : l.at ≤ length l.nodes;
  grows : Grows l.fn.self l.fn.names l.self l.names;
  cells : AreCells l.self l.names l.stack.items (all_substituted (shifted l.from) (forest (drop l.at l.nodes)));
}

abbrev pub decreases-loop-at : goal.decreases-loop-at
decreases-loop-at l = l.at
