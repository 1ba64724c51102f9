use Rattle.std.proofs.Common.{◌∙◌}
use Rattle.prolog_reader.proofs.Turns.{in_order, is_prefix_order, same_tree}
use Rattle.prolog_reader.proofs.order.term_of.Goals as goal

pub from_prefix-requires : goal.from_prefix-requires
from_prefix-requires c =
    is_prefix_order c.args.built c.in_ok-nodes.nodes.items
    (c.in_ok-nodes.ensures ∙ in_order c.into_nodes.result.items c.args.built c.into_nodes.ensures c.requires) c.requires

pub returns : goal.returns
returns c =
    same_tree _ _ (c.from_prefix.ensures ∙ c.in_ok-nodes.ensures ∙ in_order c.into_nodes.result.items c.args.built c.into_nodes.ensures c.requires)
