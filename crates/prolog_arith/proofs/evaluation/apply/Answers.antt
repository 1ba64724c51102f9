use Rattle.std.proofs.Common.{◌≡◌, ◌∙◌, ap₂, subst, rules, w64, SFits}
use Rattle.std.proofs.Math.Facts.{to_z-of_z}
use Rattle.std.proofs.lemmas.Result.{err_from_is_err_and}
use Rattle.prolog_arith.specs.Arithmetic.{Value, binary_value}
use Rattle.prolog_arith.specs.Work.{outcome, IsPushed, IsCause}
use Rattle.prolog_arith.proofs.Stacks.{applied-two, refused-two}
use Rattle.prolog_arith.proofs.evaluation.apply.Goals as goal

pub returns-in_err-push_answer-in-Two-clause-refused : goal.returns-in_err-push_answer-in-Two-clause-refused
returns-in_err-push_answer-in-Two-clause-refused c =
    let left : SFits w64 c.last-left.result = search rules in
    let right : SFits w64 c.last-right.result = search rules in
    let is : outcome c.apply_binary.result ≡ binary_value c.in-Two.binary c.last-left.result c.last-right.result = c.apply_binary.ensures ∙ ap₂ (binary_value c.in-Two.binary) (to_z-of_z left) (to_z-of_z right) in
    let p = err_from_is_err_and c.from_residual-in_err-push_answer-in-Two.result c.from_residual-in_err-push_answer-in-Two.ensures.1 in
    rw (p.1, p.2, c.in-Two.is)
    (refused-two c.in-Two.binary c.args.values.now.items c.last-right.new.values.items c.last-left.new.values.items c.last-right.result c.last-left.result c.last-right.ensures c.last-left.ensures _
    (subst (IsCause c.in_err-push_answer-in-Two.field-0.0) is c.in_err-push_answer-in-Two.ensures.refused))

pub returns-in_ok-push_answer-in-Two-clause-applied : goal.returns-in_ok-push_answer-in-Two-clause-applied
returns-in_ok-push_answer-in-Two-clause-applied c =
    let left : SFits w64 c.last-left.result = search rules in
    let right : SFits w64 c.last-right.result = search rules in
    let is : outcome c.apply_binary.result ≡ binary_value c.in-Two.binary c.last-left.result c.last-right.result = c.apply_binary.ensures ∙ ap₂ (binary_value c.in-Two.binary) (to_z-of_z left) (to_z-of_z right) in
    rw c.in-Two.is
    (applied-two c.in-Two.binary c.args.values.now.items c.last-right.new.values.items c.last-left.new.values.items c.last-right.result c.last-left.result c.last-right.ensures c.last-left.ensures _
    (subst (λ (v : Value). IsPushed v c.last-left.new.values.items c.push_answer-in-Two.new.values.items) is c.in_ok-push_answer-in-Two.ensures.pushed))
