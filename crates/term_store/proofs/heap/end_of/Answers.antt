use Rattle.std.proofs.Common.{length, arith}
use Rattle.term_store.proofs.Laid.{end-last, some}
use Rattle.term_store.proofs.heap.end_of.Goals as goal

pub overflow_add-result : goal.overflow_add-result
overflow_add-result c =
    let low = some (length c.args.rows.now) c.if-is_empty.ensures in
    let e = end-last 0 _ c.args.rows.now (record { name = 0; first = 0; arity = 0 }) c.requires.laid low in
    let k = c.requires.fits in omega (arith, e, k)

pub returns : goal.returns
returns c = end-last 0 _ c.args.rows.now (record { name = 0; first = 0; arity = 0 }) c.requires.laid (some (length c.args.rows.now) c.if-is_empty.ensures)
