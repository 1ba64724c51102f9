use Rattle.std.proofs.Common.{sym, ap, subst, ◌∙◌, [], length}
use Rattle.term_store.specs.Shape.{Shape}
use Rattle.term_store.specs.Terms.{IsShape}
use Rattle.wam_machine.specs.Terms.{said, IsBuilt, AreTerms}
use Rattle.term_store.proofs.Laws.{longer-itself}
use Rattle.wam_machine.proofs.Grown.{Grows}
use Rattle.wam_machine.proofs.Told.{at_err, stack-later, terms-later}
use Rattle.wam_machine.proofs.Entered.{equated-unified, equated-refused, still-unified, undone}
use Rattle.wam_machine.proofs.Under.{bound-unified, bound-refused}
use Rattle.wam_machine.proofs.enter.equate.Goals as goal

pub unify-requires-clause-a : goal.unify-requires-clause-a
unfolding IsBuilt
unify-requires-clause-a g c = c.requires.left.0

pub unify-requires-clause-b : goal.unify-requires-clause-b
unfolding IsBuilt
unify-requires-clause-b g c = c.requires.right.0

pub returns-in_err-unify-clause-err : goal.returns-in_err-unify-clause-err
unfolding IsBuilt
returns-in_err-unify-clause-err g c = let t = c.args.terms.now in
    at_err c.from_residual.result _ (stack-later t t.names c.unify.new.self c.requires.terms
    (record {
      formed = subst IsShape c.mark-mark.ensures.same c.mark-mark.ensures.can.formed;
      named = c.requires.terms.named;
      later = c.unify.ensures.later;
      longer = longer-itself t.names;
    }))

pub returns-then-branch-clause-terms : goal.returns-then-branch-clause-terms
unfolding IsBuilt
returns-then-branch-clause-terms g c = let t = c.args.terms.now in
    let grows : Grows t.names t.names t.store c.unify.new.self = record {
      formed = subst IsShape c.mark-mark.ensures.same c.mark-mark.ensures.can.formed;
      named = c.requires.terms.named;
      later = c.unify.ensures.later;
      longer = longer-itself t.names;
    } in
    terms-later t t.names c.unify.new.self c.requires.terms grows
    (still-unified t c.unify.new.self c.args.left c.args.right grows c.unify.ensures.compounds (c.in_ok-unify.ensures.unified c.if-branch.true t.names))
    c.requires.terms.distinct (c.unify.ensures.named (length t.names) c.requires.terms.named c.requires.left c.requires.right)

pub returns-then-branch-clause-equated : goal.returns-then-branch-clause-equated
returns-then-branch-clause-equated g c = let t = c.args.terms.now in
    equated-unified t c.unify.new.self c.args.left c.args.right c.requires.terms
    (record {
      formed = subst IsShape c.mark-mark.ensures.same c.mark-mark.ensures.can.formed;
      named = c.requires.terms.named;
      later = c.unify.ensures.later;
      longer = longer-itself t.names;
    })
    c.unify.ensures.compounds c.unify.ensures.variables (c.in_ok-unify.ensures.unified c.if-branch.true t.names)

pub returns-then-branch-clause-cells : goal.returns-then-branch-clause-cells
returns-then-branch-clause-cells g c = let t = c.args.terms.now in
    bound-unified t c.unify.new.self c.args.left c.args.right
    (record {
      formed = subst IsShape c.mark-mark.ensures.same c.mark-mark.ensures.can.formed;
      named = c.requires.terms.named;
      later = c.unify.ensures.later;
      longer = longer-itself t.names;
    })
    c.unify.ensures.compounds (c.in_ok-unify.ensures.unified c.if-branch.true t.names)

pub returns-clause-terms : goal.returns-clause-terms
returns-clause-terms g c = let t = c.args.terms.now in
    subst (λ (s : Shape). AreTerms (record t { store = s }))
    (sym (c.undo_to.ensures ∙ undone c.mark-mark.result t.store c.unify.new.self c.mark-mark.ensures.can c.mark-mark.ensures.same c.unify.ensures.later c.unify.ensures.variables))
    c.requires.terms

pub returns-clause-equated : goal.returns-clause-equated
unfolding IsBuilt
returns-clause-equated g c = let t = c.args.terms.now in
    equated-refused [] t _ c.args.left c.args.right
    (c.in_ok-unify.ensures.refused c.if-branch.false t.names c.requires.terms.distinct c.requires.terms.named c.requires.left c.requires.right)
    (ap (λ (s : Shape). said (record t { store = s }))
    (c.undo_to.ensures ∙ undone c.mark-mark.result t.store c.unify.new.self c.mark-mark.ensures.can c.mark-mark.ensures.same c.unify.ensures.later c.unify.ensures.variables))

pub returns-clause-cells : goal.returns-clause-cells
unfolding IsBuilt
returns-clause-cells g c = let t = c.args.terms.now in
    bound-refused t c.undo_to.new.self c.args.left c.args.right
    (c.in_ok-unify.ensures.refused c.if-branch.false t.names c.requires.terms.distinct c.requires.terms.named c.requires.left c.requires.right)
    (c.undo_to.ensures ∙ undone c.mark-mark.result t.store c.unify.new.self c.mark-mark.ensures.can c.mark-mark.ensures.same c.unify.ensures.later c.unify.ensures.variables)
