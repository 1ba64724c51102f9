use Rattle.std.proofs.Common.{◌∙◌, ap, ◌++◌, List}
use Rattle.prolog_terms.specs.Flat.{nodes}
use Rattle.prolog_terms.specs.Faults.{indicator_tree}
use Rattle.prolog_terms.specs.declared.node.Node.{Node}
use Rattle.wam_machine.proofs.IndicatorTerms.{indicator_prefix, indicator_is}
use Rattle.wam_machine.proofs.errors.indicator_term.Goals as goal

pub from_prefix-requires : goal.from_prefix-requires
from_prefix-requires c =
    let ns : List Node = nodes (indicator_tree c.args.indicator.now) in
    indicator_prefix c.args.indicator.now c.put_indicator.new.nodes.items (c.in_ok-put_indicator.ensures ∙ ap (λ (xs : List Node). xs ++ ns) c.new-nodes.ensures.items)

pub returns : goal.returns
returns c =
    let ns : List Node = nodes (indicator_tree c.args.indicator.now) in
    indicator_is c.args.indicator.now c.put_indicator.new.nodes.items c.from_prefix.result (c.in_ok-put_indicator.ensures ∙ ap (λ (xs : List Node). xs ++ ns) c.new-nodes.ensures.items) c.from_prefix.ensures
