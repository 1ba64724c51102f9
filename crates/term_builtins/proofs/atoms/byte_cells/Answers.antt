use Rattle.std.proofs.Common.{[], List, sym, subst, arith}
use Rattle.term_store.specs.declared.cell.Cell.{Cell}
use Rattle.term_store.proofs.Laws.{longer-further}
use Rattle.term_builtins.proofs.Bytewise.{AreMade, made-none, made-more, made-all}
use Rattle.term_builtins.proofs.atoms.byte_cells.Goals as goal

pub loop-byte-init : goal.loop-byte-init
loop-byte-init c =
    subst (λ (cs : List Cell). AreMade c.args.names.now c.args.names.now c.args.form [] cs) (sym c.new-cells.ensures.items) (made-none c.args.names.now c.args.form c.count.ensures.distinct)

pub returns-in_err-cell-clause-texts : goal.returns-in_err-cell-clause-texts
returns-in_err-cell-clause-texts c = longer-further c.args.names.now c.loop-byte.names c.byte_cell.new.names c.loop-byte.invariant.longer c.byte_cell.ensures.texts

pub returns-in_err-cell-clause-distinct : goal.returns-in_err-cell-clause-distinct
returns-in_err-cell-clause-distinct c = c.byte_cell.ensures.distinct c.loop-byte.invariant.distinct

pub returns-in_err-push-clause-texts : goal.returns-in_err-push-clause-texts
returns-in_err-push-clause-texts c = longer-further c.args.names.now c.loop-byte.names c.byte_cell.new.names c.loop-byte.invariant.longer c.byte_cell.ensures.texts

pub returns-in_err-push-clause-distinct : goal.returns-in_err-push-clause-distinct
returns-in_err-push-clause-distinct c = c.byte_cell.ensures.distinct c.loop-byte.invariant.distinct

pub loop-byte-preserved : goal.loop-byte-preserved
loop-byte-preserved c =
    made-more c.args.names.now c.loop-byte.names c.byte_cell.new.names c.args.form c.args.text.now c.loop-byte.byte-index c.loop-byte.cells.items c.push.new.self.items c.in_ok-cell.cell
    c.loop-byte.invariant c.byte_cell.ensures.texts c.byte_cell.ensures.distinct c.in_ok-cell.ensures.cell (omega arith) c.in_ok-push.ensures.items

pub returns-clause-texts : goal.returns-clause-texts
returns-clause-texts c = c.loop-byte.invariant.longer

pub returns-clause-distinct : goal.returns-clause-distinct
returns-clause-distinct c = c.loop-byte.invariant.distinct

pub returns-clause-cells : goal.returns-clause-cells
returns-clause-cells c = made-all c.args.names.now c.loop-byte.names c.args.form c.args.text.now c.loop-byte.byte-index c.loop-byte.cells.items (omega arith) c.loop-byte.invariant
