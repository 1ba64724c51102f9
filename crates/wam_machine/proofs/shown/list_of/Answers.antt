use Rattle.std.proofs.Common.{◌∙◌, ap, Some, List, ℕ}
use Rattle.term_store.proofs.Laws.{later-itself}
use Rattle.wam_machine.proofs.ShownCells.{interned_longer, number_stays, end_has, end_is}
use Rattle.wam_machine.proofs.shown.list_of.Goals as goal

pub returns-in_err-dot-clause-later : goal.returns-in_err-dot-clause-later
returns-in_err-dot-clause-later c = later-itself c.args.store.now

pub returns-in_err-end-clause-later : goal.returns-in_err-end-clause-later
returns-in_err-end-clause-later c = later-itself c.args.store.now

pub list_with-requires-clause-dot : goal.list_with-requires-clause-dot
list_with-requires-clause-dot c =
    number_stays c.intern.new.self c.intern-2.new.self c.in_ok-dot.dot _ (interned_longer c.intern.new.self c.intern-2.new.self c.as_slice-2.result.now c.in_ok-end.ensures.texts)
    (c.in_ok-dot.ensures.number ∙ ap (λ (t : List ℕ). Some t) c.as_slice.ensures)

pub list_with-requires-clause-end : goal.list_with-requires-clause-end
list_with-requires-clause-end c = end_has c.intern-2.new.self c.args.store.now c.in_ok-end.end c.as_slice-2.result.now c.in_ok-end.ensures.number

pub list_with-requires-clause-empty : goal.list_with-requires-clause-empty
list_with-requires-clause-empty c =
    end_is c.intern-2.new.self c.args.store.now c.in_ok-end.end _ (c.in_ok-end.ensures.number ∙ ap (λ (t : List ℕ). Some t) c.as_slice-2.ensures)
