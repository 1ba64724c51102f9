use Rattle.std.proofs.Common.{◌≡◌, ◌≤◌, ◌<◌, ◌-◌, ℕ, suc, length, drop, arith, ap, ◌∙◌}
use Rattle.term_store.proofs.Trails.{drop-more, length-less}
use Rattle.term_store.proofs.bound.Bound.cut.Goals as goal

pub unbind-requires : goal.unbind-requires
unbind-requires c = let t = c.loop-self-test.true in let e = c.count.ensures in omega (arith, t, e)

pub loop-self-smaller : goal.loop-self-smaller
loop-self-smaller c =
    let t = c.loop-self-test.true in let e = c.count.ensures in let some : 1 ≤ length c.loop-self.self = omega (arith, t, e) in
    let k = length-less c.loop-self.self some in let f = ap length c.unbind.ensures in
    let low : length c.unbind.new.self < length c.loop-self.self = omega (arith, k, f) in low

pub loop-self-preserved : goal.loop-self-preserved
loop-self-preserved c =
    let t = c.loop-self-test.true in let e = c.count.ensures in let some : 1 ≤ length c.loop-self.self = omega (arith, t, e) in
    let k = length-less c.loop-self.self some in let f = ap length c.unbind.ensures in let inv = c.loop-self.invariant in
    let one : suc (length c.args.self.now - length c.loop-self.self) ≡ length c.args.self.now - length c.unbind.new.self = omega (arith, k, f, inv.high) in
    record {
      low = omega (arith, k, f, t, e);
      high = omega (arith, k, f, inv.high);
      same = c.unbind.ensures ∙ ap (drop 1) inv.same ∙ drop-more (length c.args.self.now - length c.loop-self.self) c.args.self.now
          ∙ ap (λ (n : ℕ). drop n c.args.self.now) one;
    }

pub returns : goal.returns
returns c =
    let t = c.loop-self-test.false in let e = c.count.ensures in let low = c.loop-self.invariant.low in
    let same : length c.loop-self.self ≡ c.args.count = omega (arith, t, e, low) in
    c.loop-self.invariant.same ∙ ap (λ (n : ℕ). drop (length c.args.self.now - n) c.args.self.now) same
