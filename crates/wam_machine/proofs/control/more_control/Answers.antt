use Rattle.std.proofs.Common.{◌≡◌, ◌-◌, ◌++◌, ◌∙◌, ap, arith, false, codes, length, drop, take, List, length-drop}
use Rattle.std.specs.Prelude.{◌&&◌, nat_lt}
use Rattle.std.proofs.lemmas.Result.{IfOk-weaker}
use Rattle.std.proofs.lemmas.List.{take_all}
use Rattle.prolog_terms.specs.Clauses.{is_named}
use Rattle.term_store.specs.declared.cell.Cell.{Cell}
use Rattle.term_store.specs.declared.cell.Cell.TheVariants.{Variable}
use Rattle.wam_machine.proofs.GoalParts.{tested, many-arguments, other-name, more-call, more-plain}
use Rattle.wam_machine.proofs.control.more_control.Goals as goal
use Rattle.wam_machine.proofs.control.more_control.Goals.{else-eq-via-then-eq+else-arguments-le8, else-eq-via-else-eq}

pub returns-then-arguments-le8 : goal.returns-then-arguments-le8
returns-then-arguments-le8 c =
    let args = c.args.arguments.now in
    let l = length-drop 1 args in
    let whole : take (length args - 1) (drop 1 args) ≡ drop 1 args = take_all (length args - 1) (drop 1 args) (omega (arith, l)) in
    more-call c.args.name.now args (Variable 0) c.extend_from_slice.new.self c.requires.some c.if-arguments-le8.true (tested c.args.name.now _ (codes "call") _ _ c.eq.ensures c.as_slice.ensures c.if-eq.true)
    (c.in_ok-extend_from_slice.ensures.items ∙ ap (λ (xs : List Cell). xs ++ take (length args - 1) (drop 1 args)) c.new-added.ensures.items ∙ whole)

pub returns : goal.returns
returns c =
    let args = c.args.arguments.now in
    let f = c.args.name.now in
    let no_call : (is_named (codes "call") f && nat_lt (length args - 1) 8) ≡ false = elim c.else-eq.branch [
      | else-eq-via-then-eq+else-arguments-le8 w ↦ many-arguments (is_named (codes "call") f) (length args) w.if-arguments-le8.false
      | else-eq-via-else-eq w ↦ other-name (is_named (codes "call") f) (nat_lt (length args - 1) 8) (tested f _ (codes "call") _ _ c.eq.ensures c.as_slice.ensures w.if-eq.false)
    ] in
    IfOk-weaker c.plain.result _ _ (more-plain f args c.requires.some no_call) c.plain.ensures
