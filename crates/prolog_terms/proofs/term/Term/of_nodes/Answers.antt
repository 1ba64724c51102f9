use Rattle.std.proofs.Common.{◌≡◌, true, false, refl}
use Rattle.std.proofs.lemmas.Bool.{both_ways}
use Rattle.prolog_terms.specs.Flat.{are_trees, tree, IsPrefixOrder-test, test-IsPrefixOrder}
use Rattle.prolog_terms.proofs.term.Term.of_nodes.Goals as goal

pub invariant_of-result : goal.invariant_of-result
invariant_of-result c =
    let passed : are_trees 1 c.args.nodes.items ≡ true = cc in
    rw c.from_vec.ensures (IsPrefixOrder-test _ passed)

pub returns-then-is_prefix_order-clause-accepted :
    goal.returns-then-is_prefix_order-clause-accepted
returns-then-is_prefix_order-clause-accepted c =
    let passed : are_trees 1 c.args.nodes.items ≡ true = cc in
    let h = IsPrefixOrder-test c.args.nodes.items passed in
    (λ _. (tree c.args.nodes.items, (h.arities, h.spelled)), λ _. refl)

pub returns-then-is_prefix_order-clause-ok : goal.returns-then-is_prefix_order-clause-ok
returns-then-is_prefix_order-clause-ok c =
    let passed : are_trees 1 c.args.nodes.items ≡ true = cc in
    rw c.from_vec.ensures (IsPrefixOrder-test c.args.nodes.items passed).spelled

pub returns-else-is_prefix_order-clause-accepted :
    goal.returns-else-is_prefix_order-clause-accepted
returns-else-is_prefix_order-clause-accepted c =
    let failed : are_trees 1 c.args.nodes.items ≡ false = cc in
    (λ e. cc, λ h. absurd (both_ways _ failed (test-IsPrefixOrder _ h)))
