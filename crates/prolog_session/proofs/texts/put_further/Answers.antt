use Rattle.std.proofs.Common.{◌≡◌, ◌+◌, ◌∙◌, sym, ap, drop, length, length-drop, List, arith, true}
use Rattle.std.proofs.lemmas.List.{take_rest}
use Rattle.prolog_terms.specs.declared.node.Node.{Node}
use Rattle.prolog_session.specs.Cells.{at_cell}
use Rattle.prolog_session.proofs.Answered.{further_step, cell_within}
use Rattle.prolog_session.proofs.texts.put_further.Goals as goal

pub loop-variable-preserved : goal.loop-variable-preserved
loop-variable-preserved c =
    let ns : List Node = c.args.nodes.now in
    let at = c.loop-variable.at in
    let n = c.in_ok-at.field-0 in
    let cell : at_cell (drop at ns) ≡ true = ap at_cell (sym (take_rest ns at)) ∙ sym c.at_cell.ensures ∙ c.if-not-at_cell.false in
    let there = take_rest ns (at + 1) in
    record {
      within = omega (arith, c.in_ok-at.ensures.within, ap length there, length-drop (at + 1) ns, cell_within ns at cell);
      text = λ t h e. further_step c.args.ops.now c.args.shown.now c.loop-variable.variable-index c.variable-item.result ns at n
          c.loop-variable.text.items c.put.new.text.items c.put_value.new.text.items _
          c.loop-variable-test.true c.variable-item.is (c.loop-variable.invariant.text t h e) cell c.in_ok-put.ensures
          (λ u rest small l. c.in_ok-at.ensures.text u rest small (there ∙ l))
          (λ u rest small l. c.in_ok-at.ensures.count u rest small (there ∙ l));
    }
