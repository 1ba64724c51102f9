use Rattle.std.proofs.Common.{sym, ap, ◌∙◌, Some}
use Rattle.std.specs.Prelude.{option_and_then, option_map}
use Rattle.call_patterns.specs.Keys.{key, keys_agree}
use Rattle.call_patterns.specs.Places.{tree_at}
use Rattle.call_patterns.specs.Calls.{key_of}
use Rattle.call_patterns.proofs.NodeKeys.{agree_past, key_at_node}
use Rattle.journal_base.proofs.head.key_agrees.Goals as goal

pub returns-in-None-node_at : goal.returns-in-None-node_at
returns-in-None-node_at c = sym (agree_past c.args.nodes.now c.args.at _ (sym c.in-None-node_at.ensures))

pub returns-in-Some-node_at : goal.returns-in-Some-node_at
returns-in-Some-node_at c =
    c.node_agrees.ensures
    ∙ ap (λ o. keys_agree o (Some (key_of c.args.names.now c.in-Some.key))) (sym (key_at_node c.args.nodes.now c.args.at _ c.requires.prefix (sym c.in-Some-node_at.ensures)))
    ∙ ap (λ o. keys_agree (option_and_then key (tree_at c.args.nodes.now c.args.at)) (option_map (key_of c.args.names.now) o)) (sym c.in-Some.is)
