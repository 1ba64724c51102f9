use Rattle.std.proofs.Common.{length, ◌∙◌}
use Rattle.std.proofs.lemmas.Result.{IfOk-weaker}
use Rattle.term_store.proofs.Laws.{later-further}
use Rattle.wam_machine.specs.Terms.{IsBuilt}
use Rattle.wam_machine.proofs.Told.{is_built-later}
use Rattle.wam_machine.proofs.Entries.{IsBodied, cell-put, body-refused, terms-body, body-met}
use Rattle.wam_machine.proofs.enter.unify_body.Goals as goal

pub unify-requires-clause-a : goal.unify-requires-clause-a
unify-requires-clause-a g c = c.in_ok-whole.ensures.cell.0

pub unify-requires-clause-b : goal.unify-requires-clause-b
unfolding IsBuilt
unify-requires-clause-b g c =
    let t = c.args.terms.now in
    (is_built-later t c.put.new.names c.put.new.self c.requires.terms
    (record { formed = c.known.ensures; named = c.requires.terms.named; later = c.put.ensures.later; longer = c.put.ensures.texts }) c.args.cell c.requires.cell).0

pub returns-clause-later : goal.returns-clause-later
returns-clause-later g c = later-further c.args.terms.now.store c.put.new.self c.unify.new.self c.put.ensures.later c.unify.ensures.later

pub returns-clause-variables : goal.returns-clause-variables
returns-clause-variables g c = c.unify.ensures.variables ∙ c.put.ensures.variables

pub returns-clause-named : goal.returns-clause-named
returns-clause-named g c =
    let t = c.args.terms.now in
    let wide = c.put.new.names in
    let u = c.put.new.self in
    let w = c.unify.new.self in
    let p : IsBodied t wide u w = record {
      terms = c.requires.terms;
      formed = c.known.ensures;
      later = c.put.ensures.later;
      bindings = c.put.ensures.bindings;
      variables = c.put.ensures.variables;
      longer = c.put.ensures.texts;
      distinct = c.put.ensures.distinct;
      named = c.put.ensures.named;
      formed_then = c.known-2.ensures;
      after = c.unify.ensures.later;
      compounds = c.unify.ensures.compounds;
      same = c.unify.ensures.variables;
    } in
    c.unify.ensures.named (length wide) c.put.ensures.named c.in_ok-whole.ensures.cell (cell-put t wide u w p c.args.cell c.requires.cell)

pub returns-clause-met : goal.returns-clause-met
returns-clause-met g c =
    let t = c.args.terms.now in
    let wide = c.put.new.names in
    let u = c.put.new.self in
    let w = c.unify.new.self in
    let p : IsBodied t wide u w = record {
      terms = c.requires.terms;
      formed = c.known.ensures;
      later = c.put.ensures.later;
      bindings = c.put.ensures.bindings;
      variables = c.put.ensures.variables;
      longer = c.put.ensures.texts;
      distinct = c.put.ensures.distinct;
      named = c.put.ensures.named;
      formed_then = c.known-2.ensures;
      after = c.unify.ensures.later;
      compounds = c.unify.ensures.compounds;
      same = c.unify.ensures.variables;
    } in
    IfOk-weaker c.unify.result _ _
    (λ met h e.
    let one = h e wide in (
      terms-body t wide u w p c.args.cell c.requires.cell c.in_ok-whole.whole c.args.from c.args.body.now c.in_ok-whole.ensures.term one
          (c.unify.ensures.named (length wide) c.put.ensures.named c.in_ok-whole.ensures.cell (cell-put t wide u w p c.args.cell c.requires.cell)),
      body-met t wide u w p c.args.cell c.requires.cell c.in_ok-whole.whole c.args.from c.args.body.now c.in_ok-whole.ensures.term one,
    ))
    c.unify.ensures.unified

pub returns-clause-refused : goal.returns-clause-refused
returns-clause-refused g c =
    let t = c.args.terms.now in
    let wide = c.put.new.names in
    let u = c.put.new.self in
    let w = c.unify.new.self in
    let p : IsBodied t wide u w = record {
      terms = c.requires.terms;
      formed = c.known.ensures;
      later = c.put.ensures.later;
      bindings = c.put.ensures.bindings;
      variables = c.put.ensures.variables;
      longer = c.put.ensures.texts;
      distinct = c.put.ensures.distinct;
      named = c.put.ensures.named;
      formed_then = c.known-2.ensures;
      after = c.unify.ensures.later;
      compounds = c.unify.ensures.compounds;
      same = c.unify.ensures.variables;
    } in
    IfOk-weaker c.unify.result _ _
    (λ met h e.
    body-refused t wide u w p c.args.cell c.requires.cell c.in_ok-whole.whole c.args.from c.args.body.now c.in_ok-whole.ensures.term
    (h e wide c.put.ensures.distinct c.put.ensures.named c.in_ok-whole.ensures.cell (cell-put t wide u w p c.args.cell c.requires.cell)))
    c.unify.ensures.refused
