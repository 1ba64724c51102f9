use Rattle.std.proofs.Common.{◌+◌, length, ap, sym, subst, arith}
use Rattle.term_store.specs.Shape.{Shape}
use Rattle.term_store.specs.Terms.{AreNamed}
use Rattle.term_store.proofs.Laws.{are_named-variables}
use Rattle.wam_machine.proofs.Told.{at_err, stack-later}
use Rattle.wam_machine.proofs.Entries.{IsPut, grows-put}
use Rattle.wam_machine.proofs.Thrown.{put-terms, put-said, put-cells, put-cell, put-ball}
use Rattle.wam_machine.proofs.balls.put_ball.Goals as goal

pub put-requires-clause-variables : goal.put-requires-clause-variables
put-requires-clause-variables g c =
    let b = c.in_ok-beyond.ensures in
    let e = ap (λ (s : Shape). s.variables) c.in_ok-from.ensures.ok in
    let f = c.in_ok-from.ensures.first in
    omega (arith, b, e, f)

pub put-requires-clause-named : goal.put-requires-clause-named
put-requires-clause-named g c =
    subst (λ (s : Shape). AreNamed (length c.args.terms.now.names) s) (sym c.in_ok-from.ensures.ok)
    (are_named-variables (length c.args.terms.now.names) (c.args.terms.now.store.variables + c.in_ok-beyond.beyond) c.args.terms.now.store c.requires.named)

pub returns-in_err-cell-clause-err : goal.returns-in_err-cell-clause-err
returns-in_err-cell-clause-err g c =
    let t = c.args.terms.now in
    let p : IsPut t c.put.new.names c.fresh.new.self c.put.new.self c.in_ok-beyond.beyond = record {
      terms = c.requires;
      formed = c.known.ensures;
      fresh = c.in_ok-from.ensures.ok;
      later = c.put.ensures.later;
      bindings = c.put.ensures.bindings;
      variables = c.put.ensures.variables;
      longer = c.put.ensures.texts;
      distinct = c.put.ensures.distinct;
    } in
    at_err c.from_residual-in_err-cell.result _ (stack-later t c.put.new.names c.put.new.self c.requires (grows-put t c.put.new.names c.fresh.new.self c.put.new.self c.in_ok-beyond.beyond p))

pub returns-clause-terms : goal.returns-clause-terms
returns-clause-terms g c =
    let t = c.args.terms.now in
    let p : IsPut t c.put.new.names c.fresh.new.self c.put.new.self c.in_ok-beyond.beyond = record {
      terms = c.requires;
      formed = c.known.ensures;
      fresh = c.in_ok-from.ensures.ok;
      later = c.put.ensures.later;
      bindings = c.put.ensures.bindings;
      variables = c.put.ensures.variables;
      longer = c.put.ensures.texts;
      distinct = c.put.ensures.distinct;
    } in
    put-terms t c.put.new.names c.fresh.new.self c.put.new.self c.in_ok-beyond.beyond p c.put.ensures.named

pub returns-clause-said : goal.returns-clause-said
returns-clause-said g c =
    let t = c.args.terms.now in
    let p : IsPut t c.put.new.names c.fresh.new.self c.put.new.self c.in_ok-beyond.beyond = record {
      terms = c.requires;
      formed = c.known.ensures;
      fresh = c.in_ok-from.ensures.ok;
      later = c.put.ensures.later;
      bindings = c.put.ensures.bindings;
      variables = c.put.ensures.variables;
      longer = c.put.ensures.texts;
      distinct = c.put.ensures.distinct;
    } in
    put-said t c.put.new.names c.fresh.new.self c.put.new.self c.in_ok-beyond.beyond p _ c.in_ok-beyond.ensures

pub returns-clause-cells : goal.returns-clause-cells
returns-clause-cells g c =
    let t = c.args.terms.now in
    let p : IsPut t c.put.new.names c.fresh.new.self c.put.new.self c.in_ok-beyond.beyond = record {
      terms = c.requires;
      formed = c.known.ensures;
      fresh = c.in_ok-from.ensures.ok;
      later = c.put.ensures.later;
      bindings = c.put.ensures.bindings;
      variables = c.put.ensures.variables;
      longer = c.put.ensures.texts;
      distinct = c.put.ensures.distinct;
    } in
    put-cells t c.put.new.names c.fresh.new.self c.put.new.self c.in_ok-beyond.beyond p

pub returns-clause-cell : goal.returns-clause-cell
returns-clause-cell g c =
    let t = c.args.terms.now in
    let p : IsPut t c.put.new.names c.fresh.new.self c.put.new.self c.in_ok-beyond.beyond = record {
      terms = c.requires;
      formed = c.known.ensures;
      fresh = c.in_ok-from.ensures.ok;
      later = c.put.ensures.later;
      bindings = c.put.ensures.bindings;
      variables = c.put.ensures.variables;
      longer = c.put.ensures.texts;
      distinct = c.put.ensures.distinct;
    } in
    put-cell t c.put.new.names c.fresh.new.self c.put.new.self c.in_ok-beyond.beyond p c.in_ok-cell.cell c.in_ok-cell.ensures.cell

pub returns-clause-ball : goal.returns-clause-ball
returns-clause-ball g c =
    let t = c.args.terms.now in
    let p : IsPut t c.put.new.names c.fresh.new.self c.put.new.self c.in_ok-beyond.beyond = record {
      terms = c.requires;
      formed = c.known.ensures;
      fresh = c.in_ok-from.ensures.ok;
      later = c.put.ensures.later;
      bindings = c.put.ensures.bindings;
      variables = c.put.ensures.variables;
      longer = c.put.ensures.texts;
      distinct = c.put.ensures.distinct;
    } in
    put-ball t c.put.new.names c.fresh.new.self c.put.new.self c.in_ok-beyond.beyond p c.in_ok-cell.cell c.in_ok-from.from c.args.ball.now c.in_ok-from.ensures.first c.in_ok-cell.ensures.term
