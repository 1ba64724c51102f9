use Rattle.std.proofs.Common.{◌∷◌, ◌++◌, [], List, All, sym, ap, ◌∙◌, subst}
use Rattle.term_store.specs.declared.cell.Cell.{Cell}
use Rattle.term_store.specs.declared.cell.Cell.TheVariants.{Compound}
use Rattle.term_store.specs.Shape.{Shape}
use Rattle.term_store.specs.Terms.{IsCell}
use Rattle.term_store.specs.Later.{IsLater}
use Rattle.term_store.specs.Copies.{IsRebuilt}
use Rattle.term_store.proofs.Laws.{later-itself}
use Rattle.term_store.proofs.Rebuilds.{row-valid, rebuilt-compound}
use Rattle.term_store.proofs.store.Store.rebuild_compound.Goals as goal

pub returns-in_err-row-clause-later : goal.returns-in_err-row-clause-later
returns-in_err-row-clause-later c = later-itself c.args.self.now

pub compound-requires-clause-valid : goal.compound-requires-clause-valid
compound-requires-clause-valid c =
    subst (λ (cs : List Cell). All (IsCell c.args.self.now) cs) (sym c.as_slice.ensures.value)
    (row-valid c.args.self.now c.args.stack.now.items c.in_ok-row.row.items c.take_row.new.stack.items c.requires.cells c.in_ok-row.ensures.row)

pub returns-in_err-cell-clause-later : goal.returns-in_err-cell-clause-later
returns-in_err-cell-clause-later c = subst (IsLater c.args.self.now) (sym c.in_err-cell.ensures.err) (later-itself c.args.self.now)

pub returns-clause-rebuilt : goal.returns-clause-rebuilt
returns-clause-rebuilt c = λ r.
    subst (λ (s : Shape). IsRebuilt r c.args.self.now s (Compound c.args.at) c.args.stack.now.items c.push.new.self.items)
    (sym (c.in_ok-cell.ensures.ok
    ∙ ap (λ (cs : List Cell). record c.args.self.now { compounds = c.args.self.now.compounds ++ (c.row-name.result.0, cs) ∷ [] }) c.as_slice.ensures.value))
    (rebuilt-compound c.args.self.now c.args.at c.row-name.result.0 c.row-name.result.1.now c.args.stack.now.items c.in_ok-row.row.items c.take_row.new.stack.items c.push.new.self.items
    c.known.ensures c.requires.valid c.row-name.ensures c.in_ok-row.ensures.row c.in_ok-row.ensures.count c.requires.cells
    (c.in_ok-push.ensures.items ∙ ap (λ (d : Cell). c.take_row.new.stack.items ++ d ∷ []) c.in_ok-cell.ensures.cell) r)
