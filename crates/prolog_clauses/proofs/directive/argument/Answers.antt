use Rattle.std.proofs.Common.{sym}
use Rattle.std.proofs.lemmas.List.{take_rest}
use Rattle.prolog_clauses.proofs.Arguments.{argument_in, argument_some, argument_prefix, argument_none}
use Rattle.prolog_clauses.proofs.directive.argument.Goals as goal

pub returns-then-begins_with-clause-some : goal.returns-then-begins_with-clause-some
returns-then-begins_with-clause-some c =
    argument_some c.args.name.now c.args.nodes.now _ (argument_in c.args.name.now c.args.nodes.now c.requires (sym c.if-begins_with.ensures)) (take_rest c.args.nodes.now 1)

pub returns-then-begins_with-clause-prefix : goal.returns-then-begins_with-clause-prefix
returns-then-begins_with-clause-prefix c =
    argument_prefix c.args.name.now c.args.nodes.now _ (argument_in c.args.name.now c.args.nodes.now c.requires (sym c.if-begins_with.ensures)) (take_rest c.args.nodes.now 1)

pub returns-else-begins_with-clause-none : goal.returns-else-begins_with-clause-none
returns-else-begins_with-clause-none c = argument_none c.args.name.now c.args.nodes.now c.requires (sym c.if-begins_with.ensures)
