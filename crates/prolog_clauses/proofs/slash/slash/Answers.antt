use Rattle.std.proofs.Common.{sym, ◌∙◌, append-nil}
use Rattle.std.proofs.lemmas.List.{take_rest}
use Rattle.prolog_terms.specs.Tree.{more, none}
use Rattle.prolog_terms.specs.Flat.{nodes}
use Rattle.prolog_clauses.proofs.Lists.{is_prefix}
use Rattle.prolog_clauses.proofs.Slashes.{slash_of, slash_parts, no_slash}
use Rattle.prolog_clauses.proofs.slash.slash.Goals as goal

pub returns-then-begins_with-clause-slash : goal.returns-then-begins_with-clause-slash
returns-then-begins_with-clause-slash c =
    let k = slash_of c.args.term.now c.requires (sym c.if-begins_with.ensures) in
    slash_parts c.args.term.now c.split_tree.result.0.now c.split_tree.result.1.now k
    (c.split_tree.ensures.front k.name (more k.arity none) (k.spelled ∙ sym (take_rest c.args.term.now 1)))
    (c.split_tree.ensures.back k.name (more k.arity none) (k.spelled ∙ sym (take_rest c.args.term.now 1)))

pub returns-then-begins_with-clause-name : goal.returns-then-begins_with-clause-name
returns-then-begins_with-clause-name c =
    let k = slash_of c.args.term.now c.requires (sym c.if-begins_with.ensures) in
    is_prefix k.name c.split_tree.result.0.now k.name_arities
    (c.split_tree.ensures.front k.name (more k.arity none) (k.spelled ∙ sym (take_rest c.args.term.now 1)))

pub returns-then-begins_with-clause-arity : goal.returns-then-begins_with-clause-arity
returns-then-begins_with-clause-arity c =
    let k = slash_of c.args.term.now c.requires (sym c.if-begins_with.ensures) in
    is_prefix k.arity c.split_tree.result.1.now k.arity_arities
    (c.split_tree.ensures.back k.name (more k.arity none) (k.spelled ∙ sym (take_rest c.args.term.now 1)) ∙ append-nil (nodes k.arity))

pub returns-else-begins_with-clause-slash : goal.returns-else-begins_with-clause-slash
returns-else-begins_with-clause-slash c = no_slash c.args.term.now c.requires (sym c.if-begins_with.ensures)
