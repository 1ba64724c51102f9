use Rattle.std.proofs.Common.{sym}
use Rattle.prolog_terms.specs.Flat.{tree}
use Rattle.prolog_clauses.proofs.Conjuncts.{one_tree}
use Rattle.prolog_clauses.proofs.Listings.{listed_so, joined_so}
use Rattle.prolog_clauses.proofs.dynamics.form_of.Goals as goal

pub returns-then-ends_in_nil-clause-terms : goal.returns-then-ends_in_nil-clause-terms
returns-then-ends_in_nil-clause-terms c = listed_so (tree c.args.specs.now) (sym c.if-ends_in_nil.ensures)

pub returns-else-ends_in_nil-clause-terms : goal.returns-else-ends_in_nil-clause-terms
returns-else-ends_in_nil-clause-terms c = joined_so c.args.specs.now c.requires (sym c.if-ends_in_nil.ensures)

pub returns-else-ends_in_nil-clause-left : goal.returns-else-ends_in_nil-clause-left
returns-else-ends_in_nil-clause-left c = one_tree c.args.specs.now c.requires
