use Rattle.std.proofs.Common.{length, ◌<◌, sym, ◌∙◌, arith}
use Rattle.prolog_clauses.proofs.Conjuncts.{next, next_same, next_prefix, next_behind, next_shorter}
use Rattle.prolog_clauses.proofs.terms.next_conjunct.Goals as goal

pub returns-else-is_empty-clause-next : goal.returns-else-is_empty-clause-next
returns-else-is_empty-clause-next c =
    let k = next c.commas.left.now c.commas.invariant.prefix (sym c.is_empty.ensures ∙ c.if-is_empty.false) (sym c.begins_with.ensures ∙ c.commas-test.false) in
    sym c.commas.invariant.same
    ∙ next_same c.commas.left.now c.split_tree.result.0.now c.split_tree.result.1.now k (c.split_tree.ensures.front k.term k.behind k.spelled) (c.split_tree.ensures.back k.term k.behind k.spelled)

pub returns-else-is_empty-clause-term : goal.returns-else-is_empty-clause-term
returns-else-is_empty-clause-term c =
    let k = next c.commas.left.now c.commas.invariant.prefix (sym c.is_empty.ensures ∙ c.if-is_empty.false) (sym c.begins_with.ensures ∙ c.commas-test.false) in
    next_prefix c.commas.left.now c.split_tree.result.0.now k (c.split_tree.ensures.front k.term k.behind k.spelled)

pub returns-else-is_empty-clause-rest : goal.returns-else-is_empty-clause-rest
returns-else-is_empty-clause-rest c =
    let k = next c.commas.left.now c.commas.invariant.prefix (sym c.is_empty.ensures ∙ c.if-is_empty.false) (sym c.begins_with.ensures ∙ c.commas-test.false) in
    next_behind c.commas.left.now c.split_tree.result.1.now k (c.split_tree.ensures.back k.term k.behind k.spelled)

pub returns-else-is_empty-clause-shorter : goal.returns-else-is_empty-clause-shorter
returns-else-is_empty-clause-shorter c =
    let k = next c.commas.left.now c.commas.invariant.prefix (sym c.is_empty.ensures ∙ c.if-is_empty.false) (sym c.begins_with.ensures ∙ c.commas-test.false) in
    let below : length c.split_tree.result.1.now < length c.commas.left.now = next_shorter c.commas.left.now c.split_tree.result.1.now k (c.split_tree.ensures.back k.term k.behind k.spelled) in
    omega (arith, c.commas.invariant.within, below)
