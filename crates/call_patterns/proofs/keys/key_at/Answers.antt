use Rattle.std.proofs.Common.{◌≡◌, sym, ap, ◌∙◌, subst, List}
use Rattle.std.specs.Prelude.{IfOk, option_map, option_and_then}
use Rattle.prolog_terms.specs.Flat.{tree, IsPrefixOrder-test}
use Rattle.prolog_terms.specs.declared.node.Node.{Node}
use Rattle.call_patterns.specs.Calls.{IsKeyOf, key_of}
use Rattle.call_patterns.specs.NodeKey.{node_key}
use Rattle.call_patterns.proofs.NodeKeys.{position_key}
use Rattle.call_patterns.proofs.keys.key_at.Goals as goal

pub returns-in-None-clause-key : goal.returns-in-None-clause-key
returns-in-None-clause-key c =
    let ns : List Node = c.args.nodes.now in
    let order = IsPrefixOrder-test ns c.requires in
    (tt, ap (option_and_then node_key) c.in-None.ensures ∙ position_key (tree ns) ns c.args.position c.position_at.result (sym order.spelled) c.requires c.position_at.ensures.place)

pub returns-in-Some-clause-key : goal.returns-in-Some-clause-key
returns-in-Some-clause-key c =
    let ns : List Node = c.args.nodes.now in
    let order = IsPrefixOrder-test ns c.requires in
    subst (λ x. IfOk c.key_of_node.result (λ k. IsKeyOf c.key_of_node.new.names k × (option_map (key_of c.key_of_node.new.names) k ≡ x)))
    (ap (option_and_then node_key) c.in-Some.ensures ∙ position_key (tree ns) ns c.args.position c.position_at.result (sym order.spelled) c.requires c.position_at.ensures.place)
    c.key_of_node.ensures.key
