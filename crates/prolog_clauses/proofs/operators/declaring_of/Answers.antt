use Rattle.std.proofs.Common.{codes, sym, ap, subst, ◌∙◌, append-nil}
use Rattle.std.proofs.lemmas.List.{take_rest}
use Rattle.prolog_terms.specs.Tree.{more, none}
use Rattle.prolog_terms.specs.Flat.{nodes, tree, tree-nodes, IsPrefixOrder-tree}
use Rattle.prolog_clauses.specs.Flat.{begins_with}
use Rattle.prolog_clauses.specs.Declarations.{HasPriority, arguments}
use Rattle.prolog_clauses.proofs.Lists.{is_prefix}
use Rattle.prolog_clauses.proofs.Directives.{directive, declared_by}
use Rattle.prolog_clauses.proofs.Priorities.{of_arguments}
use Rattle.prolog_clauses.proofs.operators.declaring_of.Goals as goal

pub of_arguments-requires-clause-priority : goal.of_arguments-requires-clause-priority
of_arguments-requires-clause-priority c =
    let ns = c.nodes-nodes.result.now in
    let h = IsPrefixOrder-tree ns (c.args.term.now, (c.nodes-nodes.ensures.arities, sym c.nodes-nodes.ensures.nodes)) in
    let d = directive ns h (sym c.if-not-begins_with.ensures) (ap (begins_with (codes "op") 3) (sym (take_rest ns 1)) ∙ sym c.if-not-begins_with-2.ensures) in
    let front = c.split_tree.ensures.front d.priority (more d.kind (more d.names none)) (d.spelled ∙ sym (take_rest ns 2)) in
    is_prefix d.priority c.split_tree.result.0.now d.priority_arities front

pub of_arguments-requires-clause-kind : goal.of_arguments-requires-clause-kind
of_arguments-requires-clause-kind c =
    let ns = c.nodes-nodes.result.now in
    let h = IsPrefixOrder-tree ns (c.args.term.now, (c.nodes-nodes.ensures.arities, sym c.nodes-nodes.ensures.nodes)) in
    let d = directive ns h (sym c.if-not-begins_with.ensures) (ap (begins_with (codes "op") 3) (sym (take_rest ns 1)) ∙ sym c.if-not-begins_with-2.ensures) in
    let back = c.split_tree.ensures.back d.priority (more d.kind (more d.names none)) (d.spelled ∙ sym (take_rest ns 2)) in
    is_prefix d.kind c.split_tree-2.result.0.now d.kind_arities (c.split_tree-2.ensures.front d.kind (more d.names none) (sym back))

pub of_arguments-requires-clause-names : goal.of_arguments-requires-clause-names
of_arguments-requires-clause-names c =
    let ns = c.nodes-nodes.result.now in
    let h = IsPrefixOrder-tree ns (c.args.term.now, (c.nodes-nodes.ensures.arities, sym c.nodes-nodes.ensures.nodes)) in
    let d = directive ns h (sym c.if-not-begins_with.ensures) (ap (begins_with (codes "op") 3) (sym (take_rest ns 1)) ∙ sym c.if-not-begins_with-2.ensures) in
    let back = c.split_tree.ensures.back d.priority (more d.kind (more d.names none)) (d.spelled ∙ sym (take_rest ns 2)) in
    is_prefix d.names c.split_tree-2.result.1.now d.names_arities (c.split_tree-2.ensures.back d.kind (more d.names none) (sym back) ∙ append-nil (nodes d.names))

pub returns-clause-declaring : goal.returns-clause-declaring
returns-clause-declaring c =
    let ns = c.nodes-nodes.result.now in
    let h = IsPrefixOrder-tree ns (c.args.term.now, (c.nodes-nodes.ensures.arities, sym c.nodes-nodes.ensures.nodes)) in
    let d = directive ns h (sym c.if-not-begins_with.ensures) (ap (begins_with (codes "op") 3) (sym (take_rest ns 1)) ∙ sym c.if-not-begins_with-2.ensures) in
    let front = c.split_tree.ensures.front d.priority (more d.kind (more d.names none)) (d.spelled ∙ sym (take_rest ns 2)) in
    let back = c.split_tree.ensures.back d.priority (more d.kind (more d.names none)) (d.spelled ∙ sym (take_rest ns 2)) in
    declared_by ns c.args.term.now d c.split_tree.result.0.now c.split_tree-2.result.0.now c.split_tree-2.result.1.now c.in_ok-of_arguments.field-0
    (ap tree c.nodes-nodes.ensures.nodes ∙ tree-nodes c.args.term.now)
    front
    (c.split_tree-2.ensures.front d.kind (more d.names none) (sym back))
    (c.split_tree-2.ensures.back d.kind (more d.names none) (sym back) ∙ append-nil (nodes d.names))
    c.in_ok-of_arguments.ensures

pub returns-clause-priority : goal.returns-clause-priority
returns-clause-priority c =
    subst HasPriority (sym c.in_ok-of_arguments.ensures) (of_arguments (arguments (tree c.split_tree.result.0.now) (tree c.split_tree-2.result.0.now) (tree c.split_tree-2.result.1.now)))
