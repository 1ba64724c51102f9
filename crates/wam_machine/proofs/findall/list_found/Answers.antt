use Rattle.std.proofs.Common.{List, ap, ◌∙◌}
use Rattle.std.proofs.lemmas.Result.{IfOk-weaker, on_ok_weaker}
use Rattle.std.specs.Prelude.{map}
use Rattle.term_store.specs.declared.cell.Cell.{Cell}
use Rattle.term_builtins.specs.Meanings.{list_tree}
use Rattle.wam_machine.specs.Terms.{Said, built}
use Rattle.wam_machine.proofs.Acted.{cells-on}
use Rattle.wam_machine.proofs.Told.{err_weaker}
use Rattle.wam_machine.proofs.findall.list_found.Goals as goal

pub returns-clause-terms : goal.returns-clause-terms
returns-clause-terms g c = on_ok_weaker c.list_of_cells.result (λ h. h.terms) c.list_of_cells.ensures.grown

pub returns-clause-said : goal.returns-clause-said
returns-clause-said g c = on_ok_weaker c.list_of_cells.result (λ h. h.said_is ∙ c.in_ok-cells.ensures.said) c.list_of_cells.ensures.grown

pub returns-clause-cells : goal.returns-clause-cells
returns-clause-cells g c =
    on_ok_weaker c.list_of_cells.result (λ h. cells-on c.args.terms.now c.put_copies.new.terms c.list_of_cells.new.terms c.in_ok-cells.ensures.kept h.cells) c.list_of_cells.ensures.grown

pub returns-clause-term : goal.returns-clause-term
returns-clause-term g c =
    IfOk-weaker c.list_of_cells.result _ _
    (λ w e. e ∙ ap (λ (cs : List Cell). list_tree (map (built c.put_copies.new.terms) cs)) c.as_slice.ensures.value ∙ ap list_tree c.in_ok-cells.ensures.copies)
    c.list_of_cells.ensures.term

pub returns-clause-err : goal.returns-clause-err
returns-clause-err g c = err_weaker c.list_of_cells.result _ _ (λ h. h ∙ ap (λ (s : Said _). s.stack) c.in_ok-cells.ensures.said) c.list_of_cells.ensures.err
