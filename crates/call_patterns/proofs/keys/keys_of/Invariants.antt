use Rattle.std.specs.Prelude.{◌≤◌}
use Rattle.prolog_terms.specs.Flat.{tree}
use Rattle.call_patterns.specs.Filling.{Filled, Longer}
use Rattle.call_patterns.proofs.keys.keys_of.Given as goal

abbrev pub invariant-loop-position : goal.invariant-loop-position
invariant-loop-position l = Filled l.names (tree l.nodes) l.at l.position × (Longer l.fn.names l.names × (l.position ≤ 40))
