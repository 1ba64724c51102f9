use Rattle.std.proofs.Common.{◌∙◌, ◌+◌, arith, subst}
use Rattle.term_store.proofs.Laws.{later-further, longer-further}
use Rattle.wam_machine.specs.States.{Match}
use Rattle.wam_machine.specs.Terms.{said, built, purpose_of, use_of, IsBuilt, IsOfUse}
use Rattle.wam_machine.proofs.Grown.{can-later}
use Rattle.wam_machine.proofs.Told.{at_err, is_built-later}
use Rattle.wam_machine.proofs.Entered.{undone-wider, numbered-below}
use Rattle.wam_machine.proofs.Entries.{IsMet, stack-met, terms-refused, entered-refused, sides-refused, terms-entered, entered-met, bodies-refused, bodies-met}
use Rattle.wam_machine.proofs.enter.enter.Goals as goal

pub unify_new-requires-clause-variables : goal.unify_new-requires-clause-variables
unify_new-requires-clause-variables g c =
    (numbered-below c.args.clause.now.head c.args.clause.now.body c.args.clause.now.vars c.requires.clause.numbered).0

pub unify_new-requires-clause-named : goal.unify_new-requires-clause-named
unify_new-requires-clause-named g c = c.requires.terms.named

pub unify_new-requires-clause-valid : goal.unify_new-requires-clause-valid
unfolding IsBuilt
unify_new-requires-clause-valid g c = c.requires.goal

pub returns-in_err-unify_new-clause-err : goal.returns-in_err-unify_new-clause-err
returns-in_err-unify_new-clause-err g c =
    let t = c.args.terms.now in
    let p : IsMet t c.unify_new.new.names c.unify_new.new.self = record {
      terms = c.requires.terms;
      formed = c.known.ensures;
      later = c.unify_new.ensures.later;
      longer = c.unify_new.ensures.texts;
      distinct = c.unify_new.ensures.distinct;
      named = c.unify_new.ensures.named;
    } in
    at_err c.from_residual.result _ (stack-met t c.unify_new.new.names c.unify_new.new.self p)

pub undo_to-requires : goal.undo_to-requires
undo_to-requires g c = can-later c.mark-mark.result c.args.terms.now.store c.unify_new.new.self c.mark-mark.ensures.can c.unify_new.ensures.later

pub returns-then-not-branch-clause-terms : goal.returns-then-not-branch-clause-terms
returns-then-not-branch-clause-terms g c =
    let t = c.args.terms.now in
    let p : IsMet t c.unify_new.new.names c.unify_new.new.self = record {
      terms = c.requires.terms;
      formed = c.known.ensures;
      later = c.unify_new.ensures.later;
      longer = c.unify_new.ensures.texts;
      distinct = c.unify_new.ensures.distinct;
      named = c.unify_new.ensures.named;
    } in
    terms-refused t c.unify_new.new.names c.unify_new.new.self p c.args.clause.now c.args.cut c.args.goal c.requires.goal c.undo_to.new.self
    (c.undo_to.ensures ∙ undone-wider c.mark-mark.result t.store c.unify_new.new.self (t.store.variables + c.args.clause.now.vars) c.mark-mark.ensures.can c.mark-mark.ensures.same c.unify_new.ensures.later c.in_ok-unify_new.ensures.variables)

pub returns-then-not-branch-clause-entered : goal.returns-then-not-branch-clause-entered
returns-then-not-branch-clause-entered g c =
    let t = c.args.terms.now in
    let p : IsMet t c.unify_new.new.names c.unify_new.new.self = record {
      terms = c.requires.terms;
      formed = c.known.ensures;
      later = c.unify_new.ensures.later;
      longer = c.unify_new.ensures.texts;
      distinct = c.unify_new.ensures.distinct;
      named = c.unify_new.ensures.named;
    } in
    entered-refused t c.unify_new.new.names c.unify_new.new.self p c.args.clause.now c.args.cut c.args.goal c.requires.goal c.undo_to.new.self
    (c.undo_to.ensures ∙ undone-wider c.mark-mark.result t.store c.unify_new.new.self (t.store.variables + c.args.clause.now.vars) c.mark-mark.ensures.can c.mark-mark.ensures.same c.unify_new.ensures.later c.in_ok-unify_new.ensures.variables)
    (use_of (built t) c.args.used)
    (sides-refused t c.unify_new.new.names c.unify_new.new.self p c.args.clause.now c.args.cut c.args.goal c.requires.goal c.args.used (c.in_ok-unify_new.ensures.refused c.if-not-branch.true))

pub push_body-requires-clause-terms : goal.push_body-requires-clause-terms
push_body-requires-clause-terms g c =
    let t = c.args.terms.now in
    let p : IsMet t c.unify_new.new.names c.unify_new.new.self = record {
      terms = c.requires.terms;
      formed = c.known.ensures;
      later = c.unify_new.ensures.later;
      longer = c.unify_new.ensures.texts;
      distinct = c.unify_new.ensures.distinct;
      named = c.unify_new.ensures.named;
    } in
    terms-entered t c.unify_new.new.names c.unify_new.new.self p c.args.clause.now c.args.cut c.args.goal c.requires.goal c.in_ok-unify_new.ensures.variables (c.in_ok-unify_new.ensures.made_one c.if-not-branch.false)

pub push_body-requires-clause-room : goal.push_body-requires-clause-room
push_body-requires-clause-room g c =
    let b = (numbered-below c.args.clause.now.head c.args.clause.now.body c.args.clause.now.vars c.requires.clause.numbered).1 in
    let e = c.in_ok-unify_new.ensures.variables in
    let f = c.variables-from.ensures in
    omega (arith, b, e, f)

pub returns-in_err-push_body-in-Enter-clause-err : goal.returns-in_err-push_body-in-Enter-clause-err
returns-in_err-push_body-in-Enter-clause-err g c =
    let t = c.args.terms.now in
    let p : IsMet t c.unify_new.new.names c.unify_new.new.self = record {
      terms = c.requires.terms;
      formed = c.known.ensures;
      later = c.unify_new.ensures.later;
      longer = c.unify_new.ensures.texts;
      distinct = c.unify_new.ensures.distinct;
      named = c.unify_new.ensures.named;
    } in
    at_err c.from_residual-in_err-push_body-in-Enter.result _
    (c.in_err-push_body-in-Enter.ensures.err ∙ stack-met t c.unify_new.new.names c.unify_new.new.self p)

pub returns-in_ok-push_body-in-Enter-clause-entered : goal.returns-in_ok-push_body-in-Enter-clause-entered
returns-in_ok-push_body-in-Enter-clause-entered g c =
    let t = c.args.terms.now in
    let p : IsMet t c.unify_new.new.names c.unify_new.new.self = record {
      terms = c.requires.terms;
      formed = c.known.ensures;
      later = c.unify_new.ensures.later;
      longer = c.unify_new.ensures.texts;
      distinct = c.unify_new.ensures.distinct;
      named = c.unify_new.ensures.named;
    } in
    rw c.in-Enter.is (entered-met t c.unify_new.new.names c.unify_new.new.self p c.args.clause.now c.args.cut c.args.goal c.requires.goal c.in_ok-unify_new.ensures.variables (c.in_ok-unify_new.ensures.made_one c.if-not-branch.false)
    c.variables-from.result c.variables-from.ensures (said c.push_body.new.terms) c.in_ok-push_body-in-Enter.ensures.said)

pub unify_body-requires-clause-terms : goal.unify_body-requires-clause-terms
unify_body-requires-clause-terms g c =
    let t = c.args.terms.now in
    let p : IsMet t c.unify_new.new.names c.unify_new.new.self = record {
      terms = c.requires.terms;
      formed = c.known.ensures;
      later = c.unify_new.ensures.later;
      longer = c.unify_new.ensures.texts;
      distinct = c.unify_new.ensures.distinct;
      named = c.unify_new.ensures.named;
    } in
    terms-entered t c.unify_new.new.names c.unify_new.new.self p c.args.clause.now c.args.cut c.args.goal c.requires.goal c.in_ok-unify_new.ensures.variables (c.in_ok-unify_new.ensures.made_one c.if-not-branch.false)

pub unify_body-requires-clause-cell : goal.unify_body-requires-clause-cell
unify_body-requires-clause-cell g c =
    let t = c.args.terms.now in
    is_built-later t c.unify_new.new.names c.unify_new.new.self c.requires.terms
    (record { formed = c.known.ensures; named = c.requires.terms.named; later = c.unify_new.ensures.later; longer = c.unify_new.ensures.texts })
    c.in-Match.body (subst (IsOfUse (IsBuilt t)) c.in-Match.is c.requires.used)

pub unify_body-requires-clause-room : goal.unify_body-requires-clause-room
unify_body-requires-clause-room g c =
    let b = (numbered-below c.args.clause.now.head c.args.clause.now.body c.args.clause.now.vars c.requires.clause.numbered).1 in
    let e = c.in_ok-unify_new.ensures.variables in
    let f = c.variables-from.ensures in
    omega (arith, b, e, f)

pub returns-in_err-unify_body-in-Match-clause-err : goal.returns-in_err-unify_body-in-Match-clause-err
returns-in_err-unify_body-in-Match-clause-err g c =
    let t = c.args.terms.now in
    let w = c.unify_body.new.terms in
    let p : IsMet t w.names w.store = record {
      terms = c.requires.terms;
      formed = c.known.ensures;
      later = later-further t.store c.unify_new.new.self w.store c.unify_new.ensures.later c.unify_body.ensures.later;
      longer = longer-further t.names c.unify_new.new.names w.names c.unify_new.ensures.texts c.unify_body.ensures.names;
      distinct = c.unify_body.ensures.distinct;
      named = c.unify_body.ensures.named;
    } in
    at_err c.from_residual-in_err-unify_body-in-Match.result _ (rw c.unify_body.ensures.same (stack-met t w.names w.store p))

pub undo_to-requires-then-not-branch-2 : goal.undo_to-requires-then-not-branch-2
undo_to-requires-then-not-branch-2 g c =
    let t = c.args.terms.now in
    let w = c.unify_body.new.terms in
    can-later c.mark-mark.result t.store w.store c.mark-mark.ensures.can
    (later-further t.store c.unify_new.new.self w.store c.unify_new.ensures.later c.unify_body.ensures.later)

pub returns-then-not-branch-2-clause-terms : goal.returns-then-not-branch-2-clause-terms
returns-then-not-branch-2-clause-terms g c =
    let t = c.args.terms.now in
    let w = c.unify_body.new.terms in
    let p : IsMet t w.names w.store = record {
      terms = c.requires.terms;
      formed = c.known.ensures;
      later = later-further t.store c.unify_new.new.self w.store c.unify_new.ensures.later c.unify_body.ensures.later;
      longer = longer-further t.names c.unify_new.new.names w.names c.unify_new.ensures.texts c.unify_body.ensures.names;
      distinct = c.unify_body.ensures.distinct;
      named = c.unify_body.ensures.named;
    } in
    rw c.unify_body.ensures.same (terms-refused t w.names w.store p c.args.clause.now c.args.cut c.args.goal c.requires.goal c.undo_to-then-not-branch-2.new.self
    (c.undo_to-then-not-branch-2.ensures ∙ undone-wider c.mark-mark.result t.store w.store (t.store.variables + c.args.clause.now.vars) c.mark-mark.ensures.can c.mark-mark.ensures.same p.later
    (c.unify_body.ensures.variables ∙ c.in_ok-unify_new.ensures.variables)))

pub returns-then-not-branch-2-clause-entered : goal.returns-then-not-branch-2-clause-entered
returns-then-not-branch-2-clause-entered g c =
    let t = c.args.terms.now in
    let w = c.unify_body.new.terms in
    let p : IsMet t w.names w.store = record {
      terms = c.requires.terms;
      formed = c.known.ensures;
      later = later-further t.store c.unify_new.new.self w.store c.unify_new.ensures.later c.unify_body.ensures.later;
      longer = longer-further t.names c.unify_new.new.names w.names c.unify_new.ensures.texts c.unify_body.ensures.names;
      distinct = c.unify_body.ensures.distinct;
      named = c.unify_body.ensures.named;
    } in
    let q : IsMet t c.unify_new.new.names c.unify_new.new.self = record {
      terms = c.requires.terms;
      formed = c.known.ensures;
      later = c.unify_new.ensures.later;
      longer = c.unify_new.ensures.texts;
      distinct = c.unify_new.ensures.distinct;
      named = c.unify_new.ensures.named;
    } in
    rw (c.in-Match.is, c.unify_body.ensures.same) (entered-refused t w.names w.store p c.args.clause.now c.args.cut c.args.goal c.requires.goal c.undo_to-then-not-branch-2.new.self
    (c.undo_to-then-not-branch-2.ensures ∙ undone-wider c.mark-mark.result t.store w.store (t.store.variables + c.args.clause.now.vars) c.mark-mark.ensures.can c.mark-mark.ensures.same p.later
    (c.unify_body.ensures.variables ∙ c.in_ok-unify_new.ensures.variables))
    (Match (purpose_of c.in-Match.field-0) (built t c.in-Match.body))
    (bodies-refused t c.unify_new.new.names c.unify_new.new.self q c.args.clause.now c.args.cut c.args.goal c.requires.goal c.in_ok-unify_new.ensures.variables (c.in_ok-unify_new.ensures.made_one c.if-not-branch.false)
    c.variables-from.result c.variables-from.ensures c.in-Match.body (subst (IsOfUse (IsBuilt t)) c.in-Match.is c.requires.used) (purpose_of c.in-Match.field-0)
    (c.in_ok-unify_body-in-Match.ensures.refused c.if-not-branch-2.true)))

pub returns-else-not-branch-2-clause-entered : goal.returns-else-not-branch-2-clause-entered
returns-else-not-branch-2-clause-entered g c =
    let t = c.args.terms.now in
    let p : IsMet t c.unify_new.new.names c.unify_new.new.self = record {
      terms = c.requires.terms;
      formed = c.known.ensures;
      later = c.unify_new.ensures.later;
      longer = c.unify_new.ensures.texts;
      distinct = c.unify_new.ensures.distinct;
      named = c.unify_new.ensures.named;
    } in
    rw c.in-Match.is (bodies-met t c.unify_new.new.names c.unify_new.new.self p c.args.clause.now c.args.cut c.args.goal c.requires.goal c.in_ok-unify_new.ensures.variables (c.in_ok-unify_new.ensures.made_one c.if-not-branch.false)
    c.variables-from.result c.variables-from.ensures c.in-Match.body (subst (IsOfUse (IsBuilt t)) c.in-Match.is c.requires.used) (purpose_of c.in-Match.field-0) (said c.unify_body.new.terms)
    (c.in_ok-unify_body-in-Match.ensures.met c.if-not-branch-2.false).1)
