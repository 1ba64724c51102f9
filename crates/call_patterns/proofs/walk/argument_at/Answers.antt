use Rattle.std.proofs.Common.{◌≡◌, ◌+◌, ◌≤◌, ◌<◌, ap, ◌∙◌, arith}
use Rattle.prolog_terms.specs.Flat.{past}
use Rattle.call_patterns.specs.Places.{trees_at}
use Rattle.call_patterns.specs.Wanted.{wanted_of}
use Rattle.call_patterns.proofs.Walking.{argument-end, argument-none, argument-some, one_more}
use Rattle.call_patterns.proofs.walk.argument_at.Goals as goal

pub returns-then-at-nodes-clause-place : goal.returns-then-at-nodes-clause-place
returns-then-at-nodes-clause-place c = argument-end c.args.nodes.now c.args.at c.args.i c.if-at-nodes.true

pub returns-then-i-wanted-clause-place : goal.returns-then-i-wanted-clause-place
returns-then-i-wanted-clause-place c =
    let many : wanted_of c.node_at.result.now ≤ c.args.i = omega arith in
    argument-none c.args.nodes.now c.args.at c.args.i _ c.node_at.ensures many

pub loop-turn-preserved : goal.loop-turn-preserved
loop-turn-preserved c = record {
  same = one_more c.loop-turn._turn _ _ _ c.loop-turn.invariant.same c.past_term-k.ensures.place;
  within = c.past_term-k.ensures.within;
}

pub returns-clause-place : goal.returns-clause-place
returns-clause-place c =
    let all : c.loop-turn._turn ≡ c.args.i = omega arith in
    let few : c.args.i < wanted_of c.node_at.result.now = omega arith in
    argument-some c.args.nodes.now c.args.at c.args.i c.loop-turn.k _ c.node_at.ensures few
    (c.loop-turn.invariant.same ∙ ap (λ n. past n (trees_at c.args.nodes.now (c.args.at + 1))) all)
