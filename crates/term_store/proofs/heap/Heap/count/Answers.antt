use Rattle.std.proofs.Common.{ap, length, arith}
use Rattle.term_store.proofs.Laid.{rows-length}
use Rattle.term_store.proofs.heap.Heap.count.Goals as goal

pub returns : goal.returns
returns c =
    let a = ap length c.self.view_is in let b = rows-length c.self.inside.args.items c.self.inside.rows.items in
    let e = c.len.ensures in let k = c.self.inside.rows.ok.0 in omega (arith, a, b, e, k)
