use Rattle.std.proofs.Common.{◌∙◌, ◌+◌}
use Rattle.wam_machine.specs.Terms.{IsBuilt}
use Rattle.wam_machine.proofs.Grown.{can-later}
use Rattle.wam_machine.proofs.Told.{at_err}
use Rattle.wam_machine.proofs.Entered.{undone-wider, numbered-below}
use Rattle.wam_machine.proofs.Entries.{IsMet, stack-met, terms-refused, cells-refused, compared-refused, head-met}
use Rattle.wam_machine.proofs.enter.compare.Goals as goal

pub unify_new-requires-clause-variables : goal.unify_new-requires-clause-variables
unify_new-requires-clause-variables g c =
    (numbered-below c.args.clause.now.head c.args.clause.now.body c.args.clause.now.vars c.requires.clause.numbered).0

pub unify_new-requires-clause-named : goal.unify_new-requires-clause-named
unify_new-requires-clause-named g c = c.requires.terms.named

pub unify_new-requires-clause-valid : goal.unify_new-requires-clause-valid
unfolding IsBuilt
unify_new-requires-clause-valid g c = c.requires.goal

pub returns-in_err-met-clause-err : goal.returns-in_err-met-clause-err
returns-in_err-met-clause-err g c =
    let t = c.args.terms.now in
    let p : IsMet t c.unify_new.new.names c.unify_new.new.self = record {
      terms = c.requires.terms;
      formed = c.known.ensures;
      later = c.unify_new.ensures.later;
      longer = c.unify_new.ensures.texts;
      distinct = c.unify_new.ensures.distinct;
      named = c.unify_new.ensures.named;
    } in
    at_err c.from_residual.result _ (stack-met t c.unify_new.new.names c.unify_new.new.self p)

pub undo_to-requires : goal.undo_to-requires
undo_to-requires g c = can-later c.mark-mark.result c.args.terms.now.store c.unify_new.new.self c.mark-mark.ensures.can c.unify_new.ensures.later

pub returns-clause-terms : goal.returns-clause-terms
returns-clause-terms g c =
    let t = c.args.terms.now in
    let p : IsMet t c.unify_new.new.names c.unify_new.new.self = record {
      terms = c.requires.terms;
      formed = c.known.ensures;
      later = c.unify_new.ensures.later;
      longer = c.unify_new.ensures.texts;
      distinct = c.unify_new.ensures.distinct;
      named = c.unify_new.ensures.named;
    } in
    terms-refused t c.unify_new.new.names c.unify_new.new.self p c.args.clause.now 0 c.args.goal c.requires.goal c.undo_to.new.self
    (c.undo_to.ensures ∙ undone-wider c.mark-mark.result t.store c.unify_new.new.self (t.store.variables + c.args.clause.now.vars) c.mark-mark.ensures.can c.mark-mark.ensures.same c.unify_new.ensures.later c.in_ok-met.ensures.variables)

pub returns-clause-cells : goal.returns-clause-cells
returns-clause-cells g c =
    let t = c.args.terms.now in
    let p : IsMet t c.unify_new.new.names c.unify_new.new.self = record {
      terms = c.requires.terms;
      formed = c.known.ensures;
      later = c.unify_new.ensures.later;
      longer = c.unify_new.ensures.texts;
      distinct = c.unify_new.ensures.distinct;
      named = c.unify_new.ensures.named;
    } in
    cells-refused t c.unify_new.new.names c.unify_new.new.self p c.args.clause.now 0 c.args.goal c.requires.goal c.undo_to.new.self
    (c.undo_to.ensures ∙ undone-wider c.mark-mark.result t.store c.unify_new.new.self (t.store.variables + c.args.clause.now.vars) c.mark-mark.ensures.can c.mark-mark.ensures.same c.unify_new.ensures.later c.in_ok-met.ensures.variables)

pub returns-clause-compared : goal.returns-clause-compared
returns-clause-compared g c =
    let t = c.args.terms.now in
    let p : IsMet t c.unify_new.new.names c.unify_new.new.self = record {
      terms = c.requires.terms;
      formed = c.known.ensures;
      later = c.unify_new.ensures.later;
      longer = c.unify_new.ensures.texts;
      distinct = c.unify_new.ensures.distinct;
      named = c.unify_new.ensures.named;
    } in
    compared-refused t c.unify_new.new.names c.unify_new.new.self p c.args.clause.now 0 c.args.goal c.requires.goal c.undo_to.new.self
    (c.undo_to.ensures ∙ undone-wider c.mark-mark.result t.store c.unify_new.new.self (t.store.variables + c.args.clause.now.vars) c.mark-mark.ensures.can c.mark-mark.ensures.same c.unify_new.ensures.later c.in_ok-met.ensures.variables)
    c.in_ok-met.met
    (head-met t c.unify_new.new.names c.unify_new.new.self p c.args.clause.now 0 c.args.goal c.requires.goal c.in_ok-met.met c.in_ok-met.ensures.made_one c.in_ok-met.ensures.refused)
