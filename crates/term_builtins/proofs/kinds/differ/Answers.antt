use Rattle.std.proofs.Common.{◌≡◌, ◌∙◌, length, sym, ap, subst}
use Rattle.term_store.specs.Shape.{Shape}
use Rattle.term_store.specs.Heads.{IsFurther}
use Rattle.term_builtins.proofs.Grown.{further-itself}
use Rattle.term_builtins.proofs.Done.{undone, further-bound, differ}
use Rattle.term_builtins.proofs.kinds.differ.Goals as goal

pub returns-in_err-is_one-clause-further : goal.returns-in_err-is_one-clause-further
returns-in_err-is_one-clause-further c =
    further-bound c.args.store.now c.unify.new.self c.args.names.now c.unify.ensures.later
    (c.unify.ensures.named (length c.args.names.now) c.requires.named c.requires.left c.requires.right)

pub returns-clause-further : goal.returns-clause-further
returns-clause-further c =
    let s = c.args.store.now in
    let e : c.undo_to.new.self ≡ s = c.undo_to.ensures ∙ undone c.mark-mark.result s c.unify.new.self c.mark-mark.ensures.can c.mark-mark.ensures.same c.unify.ensures.later c.unify.ensures.variables in
    subst (λ (t : Shape). IsFurther s c.args.names.now t c.args.names.now) (sym e) (further-itself s c.args.names.now c.requires.named)

pub returns-clause-bindings : goal.returns-clause-bindings
returns-clause-bindings c =
    let s = c.args.store.now in
    let e : c.undo_to.new.self ≡ s = c.undo_to.ensures ∙ undone c.mark-mark.result s c.unify.new.self c.mark-mark.ensures.can c.mark-mark.ensures.same c.unify.ensures.later c.unify.ensures.variables in
    ap (λ (t : Shape). t.bindings) e

pub returns-clause-answer : goal.returns-clause-answer
returns-clause-answer c =
    let s = c.args.store.now in
    let texts = c.args.names.now in
    let e : c.undo_to.new.self ≡ s = c.undo_to.ensures ∙ undone c.mark-mark.result s c.unify.new.self c.mark-mark.ensures.can c.mark-mark.ensures.same c.unify.ensures.later c.unify.ensures.variables in (
      differ texts s c.unify.new.self c.args.left c.args.right c.in_ok-is_one.is_one
          (λ one. c.in_ok-is_one.ensures.unified one texts)
          (λ apart. c.in_ok-is_one.ensures.refused apart texts c.count.ensures.distinct c.requires.named c.requires.left c.requires.right),
      ap (λ (t : Shape). t.variables) e,
    )
