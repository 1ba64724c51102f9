use Rattle.std.proofs.Common.{length, ◌-◌, ◌≤◌, drop}
use Rattle.prolog_terms.specs.Clauses as terms
use Rattle.prolog_terms.specs.Flat.{tree}
use Rattle.prolog_clauses.proofs.Bodies.{Left}
use Rattle.prolog_clauses.proofs.goals.is_body.Given as goal

abbrev pub invariant-goals : goal.invariant-goals
invariant-goals l = record {
  within : l.at ≤ length l.nodes;
  left : Left (drop l.at l.nodes) (terms.is_body (tree l.nodes));
}

-- proposed from the loop's first test
abbrev pub decreases-goals : goal.decreases-goals
decreases-goals l = length l.nodes - l.at
