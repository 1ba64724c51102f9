use Rattle.std.proofs.Common.{sym, ◌∙◌}
use Rattle.std.proofs.lemmas.List.{take_rest}
use Rattle.prolog_session.proofs.Answered.{values_put}
use Rattle.prolog_session.proofs.texts.put_values.Goals as goal

pub returns : goal.returns
returns c =
    values_put c.args.ops.now c.args.shown.now _ _ c.args.values.now c.nodes-nodes.result.now _ _ c.in_ok-count.count
    c.args.text.now.items c.put_value.new.text.items c.put_further.new.text.items
    c.nodes-nodes.ensures.arities c.nodes-nodes.ensures.nodes (take_rest c.nodes-nodes.result.now 1) (take_rest _ c.in_ok-count.count)
    (sym c.at_cell.ensures ∙ c.if-not-at_cell.false) c.in_ok-count.ensures.text c.in_ok-count.ensures.count c.in_ok-put_further.ensures c.in-Some.ensures.cases.0
