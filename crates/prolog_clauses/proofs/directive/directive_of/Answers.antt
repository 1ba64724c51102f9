use Rattle.std.proofs.Common.{◌≡◌, sym, ap, ◌∙◌, subst}
use Rattle.std.specs.Prelude.{None, IfOk}
use Rattle.prolog_terms.specs.Tree.{Tree}
use Rattle.prolog_terms.specs.Flat.{tree, tree-nodes, IsPrefixOrder-tree}
use Rattle.prolog_clauses.specs.Directives as spec
use Rattle.prolog_clauses.proofs.Arguments.{none_declared, ready_result}
use Rattle.prolog_clauses.proofs.directive.directive_of.Goals as goal

pub of_nodes-requires : goal.of_nodes-requires
of_nodes-requires c = IsPrefixOrder-tree c.nodes.result.now (c.args.term.now, (c.nodes.ensures.arities, sym c.nodes.ensures.nodes))

pub returns-in-None-clause-directive : goal.returns-in-None-clause-directive
returns-in-None-clause-directive c =
    none_declared c.args.term.now c.of_nodes.result (sym c.in_ok-declaring.ensures.declaring ∙ c.in-None.is)
    (subst (λ (t : Tree). IfOk c.of_nodes.result (λ d. d ≡ spec.by_declaring None t)) (ap tree c.nodes.ensures.nodes ∙ tree-nodes c.args.term.now) c.of_nodes.ensures)

pub returns-in-None-clause-ready : goal.returns-in-None-clause-ready
returns-in-None-clause-ready c =
    ready_result c.args.term.now c.of_nodes.result
    (subst (λ (t : Tree). IfOk c.of_nodes.result (λ d. d ≡ spec.by_declaring None t)) (ap tree c.nodes.ensures.nodes ∙ tree-nodes c.args.term.now) c.of_nodes.ensures)
