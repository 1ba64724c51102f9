use Rattle.std.proofs.Common.{List, ◌++◌, refl, sym, ap, ◌∙◌, subst}
use Rattle.std.proofs.lemmas.Result.{IfOk-weaker}
use Rattle.term_store.specs.declared.cell.Cell.{Cell}
use Rattle.wam_machine.specs.Goals.{IsPlain}
use Rattle.wam_machine.proofs.GoalParts.{plain-builtin, plain-user}
use Rattle.wam_machine.proofs.control.plain.Goals as goal

pub returns-in_ok-extend_from_slice-in-Some : goal.returns-in_ok-extend_from_slice-in-Some
returns-in_ok-extend_from_slice-in-Some c =
    let cells = c.args.arguments.now in
    plain-builtin c.args.name.now cells _ c.in-Some.row _ refl (sym c.find_builtin.ensures ∙ c.in-Some.is)
    (c.in_ok-extend_from_slice-in-Some.ensures.items ∙ ap (λ (xs : List Cell). xs ++ cells) c.new-args.ensures.items)

pub returns-in-None : goal.returns-in-None
returns-in-None c =
    let cells = c.args.arguments.now in
    IfOk-weaker c.user.result _ _
    (λ x e. subst (IsPlain c.args.name.now cells) (sym e) (plain-user c.args.name.now cells _ refl (sym c.find_builtin.ensures ∙ c.in-None.is)))
    c.user.ensures
