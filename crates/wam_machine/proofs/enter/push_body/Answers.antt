use Rattle.std.proofs.Common.{sym, ap, ◌∙◌}
use Rattle.std.proofs.lemmas.Result.{on_ok_weaker}
use Rattle.wam_machine.specs.Terms.{Said, said}
use Rattle.wam_machine.proofs.Told.{at_err, err_weaker, stack-later, still-unbound, terms-later, said-still}
use Rattle.wam_machine.proofs.Entered.{body-is_goal, body-built, said-pushed}
use Rattle.wam_machine.proofs.enter.push_body.Goals as goal

pub returns-in_err-goal-clause-err : goal.returns-in_err-goal-clause-err
returns-in_err-goal-clause-err g c =
    let t = c.args.terms.now in
    at_err c.from_residual.result _ (stack-later t c.put.new.names c.put.new.self c.requires.terms
    (record { formed = c.known.ensures; named = c.requires.terms.named; later = c.put.ensures.later; longer = c.put.ensures.texts }))

pub push_next-requires-clause-terms : goal.push_next-requires-clause-terms
push_next-requires-clause-terms g c =
    let t = c.args.terms.now in
    terms-later t c.put.new.names c.put.new.self c.requires.terms
    (record { formed = c.known.ensures; named = c.requires.terms.named; later = c.put.ensures.later; longer = c.put.ensures.texts })
    (still-unbound t.names c.put.new.names t.store c.put.new.self (record { formed = c.known.ensures; named = c.requires.terms.named; later = c.put.ensures.later; longer = c.put.ensures.texts }) c.put.ensures.bindings)
    c.put.ensures.distinct c.put.ensures.named

pub push_next-requires-clause-next : goal.push_next-requires-clause-next
push_next-requires-clause-next g c =
    let t = c.args.terms.now in
    body-is_goal (record t { store = c.put.new.self; names = c.put.new.names }) c.in_ok-goal.goal c.args.from c.args.body.now
    c.in_ok-goal.ensures.cell c.in_ok-goal.ensures.term c.requires.body

pub returns-clause-said : goal.returns-clause-said
returns-clause-said g c =
    let t = c.args.terms.now in
    on_ok_weaker c.push_next.result
    (said-pushed (said t) _ (said c.push_next.new.terms) _ c.args.from c.args.cut c.args.body.now (sym c.is_true.ensures ∙ c.if-is_true.false)
    (said-still t c.put.new.names c.put.new.self c.requires.terms
    (record { formed = c.known.ensures; named = c.requires.terms.named; later = c.put.ensures.later; longer = c.put.ensures.texts })
    c.put.ensures.bindings c.put.ensures.variables)
    (body-built t c.put.new.names c.put.new.self c.requires.terms
    (record { formed = c.known.ensures; named = c.requires.terms.named; later = c.put.ensures.later; longer = c.put.ensures.texts }) c.put.ensures.bindings c.in_ok-goal.goal c.args.from c.args.body.now c.in_ok-goal.ensures.term))
    c.push_next.ensures.said

pub returns-clause-err : goal.returns-clause-err
returns-clause-err g c =
    let t = c.args.terms.now in
    err_weaker c.push_next.result _ _
    (λ e. ap (λ (x : Said _). x.stack) e ∙ stack-later t c.put.new.names c.put.new.self c.requires.terms
    (record { formed = c.known.ensures; named = c.requires.terms.named; later = c.put.ensures.later; longer = c.put.ensures.texts }))
    c.push_next.ensures.err
