use Rattle.std.proofs.Common.{ap, length, arith}
use Rattle.term_store.specs.Inside.{slot}
use Rattle.term_store.proofs.Trails.{trailed-length}
use Rattle.term_store.proofs.bound.Bound.count.Goals as goal

pub returns : goal.returns
returns c =
    let a = ap length c.self.view_is in let b = trailed-length (slot c.self.inside.slots) c.self.inside.trail.items in
    let e = c.len.ensures in let k = c.self.inside.trail.ok.0 in omega (arith, a, b, e, k)
