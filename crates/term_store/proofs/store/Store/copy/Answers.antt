use Rattle.std.proofs.Common.{◌≡◌, ℕ, sym, ap₂, ◌∙◌, subst}
use Rattle.term_store.specs.declared.cell.Trailed.{Trailed}
use Rattle.term_store.specs.Terms.{IsShape}
use Rattle.term_store.specs.Later.{back}
use Rattle.term_store.proofs.Laws.{can-go-back-later}
use Rattle.term_store.proofs.Rebuilds.{restored}
use Rattle.term_store.proofs.store.Store.copy.Goals as goal
use Rattle.term_store.proofs.store.Store.copy.Goals.{After-restore-arg-1}

as_it_was : (c : After-restore-arg-1) → record (back c.mark-mark.result c.copy_cell.new.self) { variables = c.variables-variables.result } ≡ c.args.self.now
as_it_was c =
    ap₂ (λ (m : Trailed) (n : ℕ). record (back m c.copy_cell.new.self) { variables = n }) c.mark-mark.ensures.mark c.variables-variables.ensures
    ∙ restored c.args.self.now c.copy_cell.new.self c.known.ensures c.in-Err.ensures.later

pub restore-requires-clause-can : goal.restore-requires-clause-can
restore-requires-clause-can c = can-go-back-later c.mark-mark.result c.args.self.now c.copy_cell.new.self c.in-Err.ensures.later c.mark-mark.ensures.can

pub restore-requires-clause-formed : goal.restore-requires-clause-formed
restore-requires-clause-formed c = subst IsShape (sym (as_it_was (goal.at.restore-requires-clause-formed c).After-restore-arg-1)) c.known.ensures

pub returns-in-Err-clause-err : goal.returns-in-Err-clause-err
returns-in-Err-clause-err c = c.restore.ensures ∙ as_it_was (goal.at.returns-in-Err-clause-err c).After-restore-arg-1
