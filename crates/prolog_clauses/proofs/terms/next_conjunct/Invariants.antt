use Rattle.std.proofs.Common.{◌≡◌, ◌≤◌, length}
use Rattle.prolog_terms.specs.Flat.{forest}
use Rattle.prolog_clauses.specs.Procedures.{all_conjuncts, ArePrefixOrders}
use Rattle.prolog_clauses.proofs.terms.next_conjunct.Given as goal

abbrev pub invariant-commas : goal.invariant-commas
invariant-commas l = record {
  prefix : ArePrefixOrders l.left;
  same : all_conjuncts (forest l.left) ≡ all_conjuncts (forest l.nodes);
  within : length l.left ≤ length l.nodes;
}

abbrev pub decreases-commas : goal.decreases-commas
decreases-commas l = length l.left
