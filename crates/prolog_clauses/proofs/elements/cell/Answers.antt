use Rattle.std.proofs.Common.{sym, ◌∙◌, append-nil}
use Rattle.std.proofs.lemmas.List.{take_rest}
use Rattle.prolog_terms.specs.Tree.{more, none}
use Rattle.prolog_terms.specs.Flat.{nodes}
use Rattle.prolog_clauses.proofs.Lists.{cell_of, cell_parts, is_prefix}
use Rattle.prolog_clauses.proofs.elements.cell.Goals as goal

pub returns-then-begins_with-clause-cell : goal.returns-then-begins_with-clause-cell
returns-then-begins_with-clause-cell c =
    let k = cell_of c.args.nodes.now c.requires (sym c.if-begins_with.ensures) in
    cell_parts c.args.nodes.now c.split_tree.result.0.now c.split_tree.result.1.now k
    (c.split_tree.ensures.front k.element (more k.rest none) (k.spelled ∙ sym (take_rest c.args.nodes.now 1)))
    (c.split_tree.ensures.back k.element (more k.rest none) (k.spelled ∙ sym (take_rest c.args.nodes.now 1)))

pub returns-then-begins_with-clause-element : goal.returns-then-begins_with-clause-element
returns-then-begins_with-clause-element c =
    let k = cell_of c.args.nodes.now c.requires (sym c.if-begins_with.ensures) in
    is_prefix k.element c.split_tree.result.0.now k.element_arities
    (c.split_tree.ensures.front k.element (more k.rest none) (k.spelled ∙ sym (take_rest c.args.nodes.now 1)))

pub returns-then-begins_with-clause-rest : goal.returns-then-begins_with-clause-rest
returns-then-begins_with-clause-rest c =
    let k = cell_of c.args.nodes.now c.requires (sym c.if-begins_with.ensures) in
    is_prefix k.rest c.split_tree.result.1.now k.rest_arities
    (c.split_tree.ensures.back k.element (more k.rest none) (k.spelled ∙ sym (take_rest c.args.nodes.now 1)) ∙ append-nil (nodes k.rest))
