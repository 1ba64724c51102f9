use Rattle.std.proofs.Common.{◌<◌, ◌+◌, sym, ap, ◌∙◌, arith}
use Rattle.std.specs.Prelude.{◌&&◌}
use Rattle.call_patterns.proofs.Agreeing.{agree_from, one_key, none_left, numbered_at}
use Rattle.call_patterns.proofs.keys.could_match.Goals as goal

pub returns-then-not-agree : goal.returns-then-not-agree
returns-then-not-agree c = λ names d h g.
    let few : c.loop-position.position < 40 = c.loop-position-test.true in
    let hs = numbered_at names c.args.head.now.at h c.loop-position.position few in
    let gs = numbered_at names c.args.goal.now.at g c.loop-position.position few in
    let tested = sym (c.agree.ensures names d hs gs) ∙ c.if-not-agree.true in
    sym (c.loop-position.invariant.0 names d h g ∙ one_key names c.args.head.now.at c.args.goal.now.at h g c.loop-position.position few
    ∙ ap (λ b. b && agree_from names c.args.head.now.at c.args.goal.now.at (c.loop-position.position + 1)) tested)

pub loop-position-preserved : goal.loop-position-preserved
loop-position-preserved c = (
  λ names d h g.
      let few : c.loop-position.position < 40 = c.loop-position-test.true in
      let hs = numbered_at names c.args.head.now.at h c.loop-position.position few in
      let gs = numbered_at names c.args.goal.now.at g c.loop-position.position few in
      let tested = sym (c.agree.ensures names d hs gs) ∙ c.if-not-agree.false in
      c.loop-position.invariant.0 names d h g ∙ one_key names c.args.head.now.at c.args.goal.now.at h g c.loop-position.position few
      ∙ ap (λ b. b && agree_from names c.args.head.now.at c.args.goal.now.at (c.loop-position.position + 1)) tested,
  omega arith,
)

pub returns : goal.returns
returns c = λ names d h g. sym (c.loop-position.invariant.0 names d h g ∙ none_left names c.args.head.now.at c.args.goal.now.at h g c.loop-position.position (omega arith))
