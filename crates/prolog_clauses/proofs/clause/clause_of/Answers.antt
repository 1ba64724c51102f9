use Rattle.std.proofs.Common.{◌≡◌, sym, ap, ◌∙◌, subst}
use Rattle.std.specs.Prelude.{IfOk}
use Rattle.prolog_terms.specs.Flat.{tree, tree-nodes, IsPrefixOrder-tree}
use Rattle.prolog_clauses.specs.Formed as spec
use Rattle.prolog_clauses.proofs.clause.clause_of.Goals as goal

pub rule-requires-clause-term : goal.rule-requires-clause-term
rule-requires-clause-term c = IsPrefixOrder-tree c.nodes-nodes.result.now (c.args.term.now, (c.nodes-nodes.ensures.arities, sym c.nodes-nodes.ensures.nodes))

pub fact-requires-clause-term : goal.fact-requires-clause-term
fact-requires-clause-term c = IsPrefixOrder-tree c.nodes-nodes.result.now (c.args.term.now, (c.nodes-nodes.ensures.arities, sym c.nodes-nodes.ensures.nodes))

pub returns-then-begins_rule : goal.returns-then-begins_rule
returns-then-begins_rule c =
    subst (λ t. IfOk c.rule.result (λ x. x ≡ spec.clause_of t)) (ap tree c.nodes-nodes.ensures.nodes ∙ tree-nodes c.args.term.now) c.rule.ensures

pub returns-else-begins_rule : goal.returns-else-begins_rule
returns-else-begins_rule c =
    subst (λ t. IfOk c.fact.result (λ x. x ≡ spec.clause_of t)) (ap tree c.nodes-nodes.ensures.nodes ∙ tree-nodes c.args.term.now) c.fact.ensures
