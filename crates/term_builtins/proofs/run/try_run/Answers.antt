use Rattle.std.proofs.Common.{◌∙◌, length, sym, ap, subst}
use Rattle.term_store.specs.Shape.{Shape}
use Rattle.term_store.specs.Terms.{term_of, trees_of, HasTerm}
use Rattle.term_store.specs.Heads.{IsFurther}
use Rattle.term_builtins.specs.declared.answer.Answer.{Answer}
use Rattle.term_builtins.specs.declared.answer.Answer.TheVariants as gives
use Rattle.term_builtins.specs.declared.table.What.{What}
use Rattle.term_builtins.specs.Meanings.{meaning}
use Rattle.term_builtins.specs.Table.{builtins, indicator}
use Rattle.term_builtins.specs.Answers.{IsAnswer, row_at}
use Rattle.term_builtins.proofs.Grown.{further-further}
use Rattle.term_builtins.proofs.Done.{undone, further-bound, answer-cells, done-true, done-false, done-writes, done-puts, done-raises, done-one, done-apart}
use Rattle.term_builtins.proofs.run.try_run.Goals as goal
use Rattle.term_builtins.proofs.run.try_run.Goals.{In_ok-come_to, In-Equates, After-unify}

-- what the call comes to, by its row
answered : (c : In_ok-come_to) → IsAnswer c.come_to.new.names c.args.store.now c.come_to.new.store (meaning (row_at builtins c.args.row).what c.args.store.now.variables (trees_of (term_of c.come_to.new.names c.args.store.now) c.args.args.now)) c.in_ok-come_to.field-0
answered c =
    subst (λ (w : What). IsAnswer c.come_to.new.names c.args.store.now c.come_to.new.store (meaning w c.args.store.now.variables (trees_of (term_of c.come_to.new.names c.args.store.now) c.args.args.now)) c.in_ok-come_to.field-0)
    c.row_of-builtin.ensures.what c.in_ok-come_to.ensures.answer

equates : (c : In-Equates) → IsAnswer c.come_to.new.names c.args.store.now c.come_to.new.store (meaning (row_at builtins c.args.row).what c.args.store.now.variables (trees_of (term_of c.come_to.new.names c.args.store.now) c.args.args.now)) (gives.Equates c.in-Equates.left c.in-Equates.right)
equates c =
    subst (λ (a : Answer). IsAnswer c.come_to.new.names c.args.store.now c.come_to.new.store (meaning (row_at builtins c.args.row).what c.args.store.now.variables (trees_of (term_of c.come_to.new.names c.args.store.now) c.args.args.now)) a)
    c.in-Equates.is
    (subst (λ (w : What). IsAnswer c.come_to.new.names c.args.store.now c.come_to.new.store (meaning w c.args.store.now.variables (trees_of (term_of c.come_to.new.names c.args.store.now) c.args.args.now)) c.in_ok-come_to.field-0)
    c.row_of-builtin.ensures.what c.in_ok-come_to.ensures.answer)

cells : (c : In-Equates) → HasTerm (length c.come_to.new.names) c.come_to.new.store c.in-Equates.left × HasTerm (length c.come_to.new.names) c.come_to.new.store c.in-Equates.right
cells c = answer-cells c.come_to.new.names c.args.store.now c.come_to.new.store c.in-Equates.left c.in-Equates.right _ (equates c)

bound : (c : After-unify) → HasTerm (length c.come_to.new.names) c.come_to.new.store c.in-Equates.left × HasTerm (length c.come_to.new.names) c.come_to.new.store c.in-Equates.right
    → IsFurther c.args.store.now c.args.names.now c.unify.new.self c.come_to.new.names
bound c has =
    further-further c.args.store.now c.come_to.new.store c.unify.new.self c.args.names.now c.come_to.new.names c.come_to.new.names c.come_to.ensures.further
    (further-bound c.come_to.new.store c.unify.new.self c.come_to.new.names c.unify.ensures.later
    (c.unify.ensures.named (length c.come_to.new.names) c.come_to.ensures.further.named has.0 has.1))

pub returns-in_err-unify-in-Equates-clause-further :
    goal.returns-in_err-unify-in-Equates-clause-further
returns-in_err-unify-in-Equates-clause-further c = bound (goal.at.returns-in_err-unify-in-Equates-clause-further c).After-unify (cells (goal.at.returns-in_err-unify-in-Equates-clause-further c).In-Equates)

pub returns-then-branch-2-clause-further : goal.returns-then-branch-2-clause-further
returns-then-branch-2-clause-further c = bound (goal.at.returns-then-branch-2-clause-further c).After-unify (cells (goal.at.returns-then-branch-2-clause-further c).In-Equates)

pub returns-then-branch-2-clause-done : goal.returns-then-branch-2-clause-done
returns-then-branch-2-clause-done c =
    done-one c.come_to.new.names c.args.store.now (indicator (row_at builtins c.args.row)) c.come_to.new.store c.in-Equates.left c.in-Equates.right c.unify.new.self _
    c.known.ensures c.come_to.ensures.further.later c.in_ok-come_to.ensures.bindings (equates (goal.at.returns-then-branch-2-clause-done c).In-Equates)
    c.unify.ensures.variables (c.in_ok-unify-in-Equates.ensures.unified c.if-branch-2.true c.come_to.new.names)

pub returns-in-Holds-true-clause-done : goal.returns-in-Holds-true-clause-done
returns-in-Holds-true-clause-done c =
    done-true c.come_to.new.names c.args.store.now (indicator (row_at builtins c.args.row)) c.come_to.new.store _
    (subst (λ (a : Answer). IsAnswer c.come_to.new.names c.args.store.now c.come_to.new.store (meaning (row_at builtins c.args.row).what c.args.store.now.variables (trees_of (term_of c.come_to.new.names c.args.store.now) c.args.args.now)) a)
    (c.in-Holds-true.is ∙ ap gives.Holds c.in-Holds-true.field-0-test) (answered (goal.at.returns-in-Holds-true-clause-done c).In_ok-come_to))
    c.in_ok-come_to.ensures.bindings

pub returns-in-Holds-false-clause-done : goal.returns-in-Holds-false-clause-done
returns-in-Holds-false-clause-done c =
    done-false c.come_to.new.names c.args.store.now (indicator (row_at builtins c.args.row)) c.come_to.new.store _
    (subst (λ (a : Answer). IsAnswer c.come_to.new.names c.args.store.now c.come_to.new.store (meaning (row_at builtins c.args.row).what c.args.store.now.variables (trees_of (term_of c.come_to.new.names c.args.store.now) c.args.args.now)) a)
    (c.in-Holds-false.is ∙ ap gives.Holds c.in-Holds-false.field-0-test) (answered (goal.at.returns-in-Holds-false-clause-done c).In_ok-come_to))
    c.in_ok-come_to.ensures.bindings

pub returns-else-branch-2-clause-further : goal.returns-else-branch-2-clause-further
returns-else-branch-2-clause-further c =
    subst (λ (s : Shape). IsFurther c.args.store.now c.args.names.now s c.come_to.new.names)
    (sym (c.undo_to.ensures ∙ undone c.mark-mark.result c.come_to.new.store c.unify.new.self c.mark-mark.ensures.can c.mark-mark.ensures.same c.unify.ensures.later c.unify.ensures.variables))
    c.come_to.ensures.further

pub returns-else-branch-2-clause-done : goal.returns-else-branch-2-clause-done
returns-else-branch-2-clause-done c =
    let has = cells (goal.at.returns-else-branch-2-clause-done c).In-Equates in
    done-apart c.come_to.new.names c.args.store.now (indicator (row_at builtins c.args.row)) c.come_to.new.store c.in-Equates.left c.in-Equates.right c.undo_to.new.self _
    c.in_ok-come_to.ensures.bindings (equates (goal.at.returns-else-branch-2-clause-done c).In-Equates)
    (c.undo_to.ensures ∙ undone c.mark-mark.result c.come_to.new.store c.unify.new.self c.mark-mark.ensures.can c.mark-mark.ensures.same c.unify.ensures.later c.unify.ensures.variables)
    (c.in_ok-unify-in-Equates.ensures.refused c.if-branch-2.false c.come_to.new.names (c.come_to.ensures.further.distinct c.count.ensures.distinct) c.come_to.ensures.further.named has.0 has.1)

pub returns-in_ok-ball-in-Raises-clause-done : goal.returns-in_ok-ball-in-Raises-clause-done
returns-in_ok-ball-in-Raises-clause-done c =
    done-raises c.come_to.new.names c.args.store.now (indicator (row_at builtins c.args.row)) c.come_to.new.store _ c.in-Raises.fault c.in_ok-ball-in-Raises.field-0
    (subst (λ (a : Answer). IsAnswer c.come_to.new.names c.args.store.now c.come_to.new.store (meaning (row_at builtins c.args.row).what c.args.store.now.variables (trees_of (term_of c.come_to.new.names c.args.store.now) c.args.args.now)) a)
    c.in-Raises.is (answered (goal.at.returns-in_ok-ball-in-Raises-clause-done c).In_ok-come_to))
    c.in_ok-ball-in-Raises.ensures c.in_ok-come_to.ensures.bindings

pub returns-in-Writes-clause-done : goal.returns-in-Writes-clause-done
returns-in-Writes-clause-done c =
    done-writes c.come_to.new.names c.args.store.now (indicator (row_at builtins c.args.row)) c.come_to.new.store _ c.in-Writes.style c.in-Writes.term
    (subst (λ (a : Answer). IsAnswer c.come_to.new.names c.args.store.now c.come_to.new.store (meaning (row_at builtins c.args.row).what c.args.store.now.variables (trees_of (term_of c.come_to.new.names c.args.store.now) c.args.args.now)) a)
    c.in-Writes.is (answered (goal.at.returns-in-Writes-clause-done c).In_ok-come_to))
    c.in_ok-come_to.ensures.bindings

pub returns-in-Puts-clause-done : goal.returns-in-Puts-clause-done
returns-in-Puts-clause-done c =
    done-puts c.come_to.new.names c.args.store.now (indicator (row_at builtins c.args.row)) c.come_to.new.store _ c.in-Puts.bytes
    (subst (λ (a : Answer). IsAnswer c.come_to.new.names c.args.store.now c.come_to.new.store (meaning (row_at builtins c.args.row).what c.args.store.now.variables (trees_of (term_of c.come_to.new.names c.args.store.now) c.args.args.now)) a)
    c.in-Puts.is (answered (goal.at.returns-in-Puts-clause-done c).In_ok-come_to))
    c.in_ok-come_to.ensures.bindings
