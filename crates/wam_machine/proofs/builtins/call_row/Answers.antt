use Rattle.std.proofs.Common.{subst}
use Rattle.term_builtins.specs.Answers.{IsDone, row_at}
use Rattle.term_builtins.specs.Meanings.{meaning}
use Rattle.term_builtins.specs.Table.{builtins, indicator}
use Rattle.term_builtins.specs.declared.run.Did.{Did}
use Rattle.term_store.specs.Terms.{term_of, trees_of}
use Rattle.wam_machine.specs.Terms.{IsBuilt}
use Rattle.wam_machine.proofs.CalledRows.{still-yes, still-no, still-ball, still-wrote, still-put, row-yes, row-no, row-ball, row-wrote, row-put}
use Rattle.wam_machine.proofs.Grown.{Grows}
use Rattle.wam_machine.proofs.Told.{at_err, stack-later, terms-later}
use Rattle.wam_machine.proofs.builtins.call_row.Goals as goal

pub run_builtin-requires-clause-valid : goal.run_builtin-requires-clause-valid
unfolding IsBuilt
run_builtin-requires-clause-valid g c = c.requires.args

pub returns-in-Yes-clause-terms : goal.returns-in-Yes-clause-terms
returns-in-Yes-clause-terms g c =
    let t = c.args.terms.now in
    let wide = c.run_builtin.new.names in
    let u = c.run_builtin.new.store in
    let f = c.run_builtin.ensures.further in
    let grows : Grows t.names wide t.store u = record { formed = c.known.ensures; named = c.requires.terms.named; later = f.later; longer = f.longer } in
    let at = indicator (row_at builtins c.args.row) in
    let m = meaning (row_at builtins c.args.row).what t.store.variables (trees_of (term_of wide t.store) c.args.args.now) in
    terms-later t wide u c.requires.terms grows
    (still-yes t wide u c.requires.terms grows at m (subst (λ (d : Did). IsDone wide t.store u at m d) c.in-Yes.is c.run_builtin.ensures.done))
    (f.distinct c.requires.terms.distinct) f.named

pub returns-in-Yes-clause-called : goal.returns-in-Yes-clause-called
returns-in-Yes-clause-called g c =
    let t = c.args.terms.now in
    let wide = c.run_builtin.new.names in
    let u = c.run_builtin.new.store in
    let f = c.run_builtin.ensures.further in
    let grows : Grows t.names wide t.store u = record { formed = c.known.ensures; named = c.requires.terms.named; later = f.later; longer = f.longer } in
    let at = indicator (row_at builtins c.args.row) in
    let m = meaning (row_at builtins c.args.row).what t.store.variables (trees_of (term_of wide t.store) c.args.args.now) in
    row-yes t wide u c.requires.terms grows c.args.ops.now c.args.row c.args.args.now c.requires.args (subst (λ (d : Did). IsDone wide t.store u at m d) c.in-Yes.is c.run_builtin.ensures.done)

pub returns-in-No-clause-terms : goal.returns-in-No-clause-terms
returns-in-No-clause-terms g c =
    let t = c.args.terms.now in
    let wide = c.run_builtin.new.names in
    let u = c.run_builtin.new.store in
    let f = c.run_builtin.ensures.further in
    let grows : Grows t.names wide t.store u = record { formed = c.known.ensures; named = c.requires.terms.named; later = f.later; longer = f.longer } in
    let at = indicator (row_at builtins c.args.row) in
    let m = meaning (row_at builtins c.args.row).what t.store.variables (trees_of (term_of wide t.store) c.args.args.now) in
    terms-later t wide u c.requires.terms grows
    (still-no t wide u c.requires.terms grows at m (subst (λ (d : Did). IsDone wide t.store u at m d) c.in-No.is c.run_builtin.ensures.done))
    (f.distinct c.requires.terms.distinct) f.named

pub returns-in-No-clause-called : goal.returns-in-No-clause-called
returns-in-No-clause-called g c =
    let t = c.args.terms.now in
    let wide = c.run_builtin.new.names in
    let u = c.run_builtin.new.store in
    let f = c.run_builtin.ensures.further in
    let grows : Grows t.names wide t.store u = record { formed = c.known.ensures; named = c.requires.terms.named; later = f.later; longer = f.longer } in
    let at = indicator (row_at builtins c.args.row) in
    let m = meaning (row_at builtins c.args.row).what t.store.variables (trees_of (term_of wide t.store) c.args.args.now) in
    row-no t wide u c.requires.terms grows c.args.ops.now c.args.row c.args.args.now c.requires.args (subst (λ (d : Did). IsDone wide t.store u at m d) c.in-No.is c.run_builtin.ensures.done)

pub returns-in-Ball-clause-terms : goal.returns-in-Ball-clause-terms
returns-in-Ball-clause-terms g c =
    let t = c.args.terms.now in
    let wide = c.run_builtin.new.names in
    let u = c.run_builtin.new.store in
    let f = c.run_builtin.ensures.further in
    let grows : Grows t.names wide t.store u = record { formed = c.known.ensures; named = c.requires.terms.named; later = f.later; longer = f.longer } in
    let at = indicator (row_at builtins c.args.row) in
    let m = meaning (row_at builtins c.args.row).what t.store.variables (trees_of (term_of wide t.store) c.args.args.now) in
    terms-later t wide u c.requires.terms grows
    (still-ball t wide u c.requires.terms grows at c.in-Ball.ball m (subst (λ (d : Did). IsDone wide t.store u at m d) c.in-Ball.is c.run_builtin.ensures.done))
    (f.distinct c.requires.terms.distinct) f.named

pub returns-in-Ball-clause-called : goal.returns-in-Ball-clause-called
returns-in-Ball-clause-called g c =
    let t = c.args.terms.now in
    let wide = c.run_builtin.new.names in
    let u = c.run_builtin.new.store in
    let f = c.run_builtin.ensures.further in
    let grows : Grows t.names wide t.store u = record { formed = c.known.ensures; named = c.requires.terms.named; later = f.later; longer = f.longer } in
    let at = indicator (row_at builtins c.args.row) in
    let m = meaning (row_at builtins c.args.row).what t.store.variables (trees_of (term_of wide t.store) c.args.args.now) in
    row-ball t wide u c.requires.terms grows c.args.ops.now c.args.row c.args.args.now c.requires.args c.in-Ball.ball (subst (λ (d : Did). IsDone wide t.store u at m d) c.in-Ball.is c.run_builtin.ensures.done)

pub returns-in_ok-text_of-in-Wrote-clause-terms : goal.returns-in_ok-text_of-in-Wrote-clause-terms
returns-in_ok-text_of-in-Wrote-clause-terms g c =
    let t = c.args.terms.now in
    let wide = c.run_builtin.new.names in
    let u = c.run_builtin.new.store in
    let f = c.run_builtin.ensures.further in
    let grows : Grows t.names wide t.store u = record { formed = c.known.ensures; named = c.requires.terms.named; later = f.later; longer = f.longer } in
    let at = indicator (row_at builtins c.args.row) in
    let m = meaning (row_at builtins c.args.row).what t.store.variables (trees_of (term_of wide t.store) c.args.args.now) in
    terms-later t wide u c.requires.terms grows
    (still-wrote t wide u c.requires.terms grows at c.in-Wrote.style c.in-Wrote.term m (subst (λ (d : Did). IsDone wide t.store u at m d) c.in-Wrote.is c.run_builtin.ensures.done))
    (f.distinct c.requires.terms.distinct) f.named

pub returns-in_ok-text_of-in-Wrote-clause-called : goal.returns-in_ok-text_of-in-Wrote-clause-called
returns-in_ok-text_of-in-Wrote-clause-called g c =
    let t = c.args.terms.now in
    let wide = c.run_builtin.new.names in
    let u = c.run_builtin.new.store in
    let f = c.run_builtin.ensures.further in
    let grows : Grows t.names wide t.store u = record { formed = c.known.ensures; named = c.requires.terms.named; later = f.later; longer = f.longer } in
    let at = indicator (row_at builtins c.args.row) in
    let m = meaning (row_at builtins c.args.row).what t.store.variables (trees_of (term_of wide t.store) c.args.args.now) in
    row-wrote t wide u c.requires.terms grows c.args.ops.now c.args.row c.args.args.now c.requires.args c.in-Wrote.style c.in-Wrote.term c.in_ok-text_of-in-Wrote.field-0 c.in_ok-text_of-in-Wrote.ensures (subst (λ (d : Did). IsDone wide t.store u at m d) c.in-Wrote.is c.run_builtin.ensures.done)

pub returns-in-Put-clause-terms : goal.returns-in-Put-clause-terms
returns-in-Put-clause-terms g c =
    let t = c.args.terms.now in
    let wide = c.run_builtin.new.names in
    let u = c.run_builtin.new.store in
    let f = c.run_builtin.ensures.further in
    let grows : Grows t.names wide t.store u = record { formed = c.known.ensures; named = c.requires.terms.named; later = f.later; longer = f.longer } in
    let at = indicator (row_at builtins c.args.row) in
    let m = meaning (row_at builtins c.args.row).what t.store.variables (trees_of (term_of wide t.store) c.args.args.now) in
    terms-later t wide u c.requires.terms grows
    (still-put t wide u c.requires.terms grows at c.in-Put.bytes m (subst (λ (d : Did). IsDone wide t.store u at m d) c.in-Put.is c.run_builtin.ensures.done))
    (f.distinct c.requires.terms.distinct) f.named

pub returns-in-Put-clause-called : goal.returns-in-Put-clause-called
returns-in-Put-clause-called g c =
    let t = c.args.terms.now in
    let wide = c.run_builtin.new.names in
    let u = c.run_builtin.new.store in
    let f = c.run_builtin.ensures.further in
    let grows : Grows t.names wide t.store u = record { formed = c.known.ensures; named = c.requires.terms.named; later = f.later; longer = f.longer } in
    let at = indicator (row_at builtins c.args.row) in
    let m = meaning (row_at builtins c.args.row).what t.store.variables (trees_of (term_of wide t.store) c.args.args.now) in
    row-put t wide u c.requires.terms grows c.args.ops.now c.args.row c.args.args.now c.requires.args c.in-Put.bytes (subst (λ (d : Did). IsDone wide t.store u at m d) c.in-Put.is c.run_builtin.ensures.done)

pub returns-in-Want-clause-err : goal.returns-in-Want-clause-err
returns-in-Want-clause-err g c =
    let t = c.args.terms.now in
    let f = c.run_builtin.ensures.further in
    (stack-later t c.run_builtin.new.names c.run_builtin.new.store c.requires.terms
    (record { formed = c.known.ensures; named = c.requires.terms.named; later = f.later; longer = f.longer }))

pub returns-in_err-text_of-in-Wrote-clause-err : goal.returns-in_err-text_of-in-Wrote-clause-err
returns-in_err-text_of-in-Wrote-clause-err g c =
    let t = c.args.terms.now in
    let f = c.run_builtin.ensures.further in
    at_err c.from_residual.result _ (stack-later t c.run_builtin.new.names c.run_builtin.new.store c.requires.terms
    (record { formed = c.known.ensures; named = c.requires.terms.named; later = f.later; longer = f.longer }))
