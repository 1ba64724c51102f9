use Rattle.std.proofs.Common.{◌≡◌, ◌<◌, ◌^◌, length, sym, ap, ◌∙◌, arith}
use Rattle.call_patterns.specs.Places.{trees_at}
use Rattle.call_patterns.specs.Wanted.{wanted_of}
use Rattle.call_patterns.proofs.Walking.{walk_step, walk_end}
use Rattle.call_patterns.proofs.walk.past_term.Goals as goal

pub loop-k-preserved : goal.loop-k-preserved
loop-k-preserved c =
    let low : 0 < c.loop-k.left = omega arith in
    let is : c.from.result ≡ wanted_of c.node_at.result.now = cc in
    let small : c.from.result < 2 ^ 32 = omega arith in
    record {
      same = rw is (walk_step c.args.nodes.now c.loop-k.k c.loop-k.left _ c.node_at.ensures low) ∙ c.loop-k.invariant.same;
      few = omega arith;
    }

pub returns-clause-place : goal.returns-clause-place
returns-clause-place c =
    let end : c.loop-k.k ≡ length c.args.nodes.now = omega arith in
    ap (trees_at c.args.nodes.now) (sym end) ∙ sym (walk_end c.args.nodes.now c.loop-k.k c.loop-k.left c.loop-k-test.false) ∙ c.loop-k.invariant.same
