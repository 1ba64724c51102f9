use Rattle.std.proofs.Common.{◌≡◌, ◌+◌, ◌&&◌, sym, ap, ◌∙◌, ◌≤◌, arith}
use Rattle.std.proofs.lemmas.List.{length-map}
use Rattle.journal_base.specs.Goals.{goal_of}
use Rattle.call_patterns.specs.NodeKey.{rest_agrees}
use Rattle.call_patterns.proofs.NodeKeys.{whole, no_key_left}
use Rattle.journal_base.proofs.HeadKeys.{tested_at}
use Rattle.journal_base.proofs.head.head_agrees.Goals as goal
use Rattle.journal_base.proofs.head.head_agrees.Goals.{After-key_agrees}

step : (c : After-key_agrees) → rest_agrees c.args.clause.now.head (goal_of c.args.call.now).keys c.loop-position.position ≡ (c.key_agrees.result && rest_agrees c.args.clause.now.head (goal_of c.args.call.now).keys (c.loop-position.position + 1))
step c = tested_at c.args.clause.now.head _ _ _ c.loop-position.position _ _ _ c.nodes-nodes.ensures.nodes c.nodes-nodes.ensures.prefix (omega arith) c.key_at-key.ensures c.position_at-place.ensures.place c.key_agrees.ensures

pub loop-position-init : goal.loop-position-init
loop-position-init c = whole c.args.clause.now.head (goal_of c.args.call.now).keys

pub loop-position-preserved : goal.loop-position-preserved
loop-position-preserved c =
    c.loop-position.invariant ∙ step (goal.at.loop-position-preserved c).After-key_agrees ∙ ap (λ b. b && rest_agrees c.args.clause.now.head (goal_of c.args.call.now).keys (c.loop-position.position + 1)) c.if-not-key_agrees.false

pub returns-then-not-key_agrees : goal.returns-then-not-key_agrees
returns-then-not-key_agrees c =
    sym (c.loop-position.invariant ∙ step (goal.at.returns-then-not-key_agrees c).After-key_agrees ∙ ap (λ b. b && rest_agrees c.args.clause.now.head (goal_of c.args.call.now).keys (c.loop-position.position + 1)) c.if-not-key_agrees.true)

pub returns : goal.returns
returns c =
    let all : 40 ≤ c.loop-position.position = omega arith in
    sym (c.loop-position.invariant ∙ no_key_left c.args.clause.now.head (goal_of c.args.call.now).keys c.loop-position.position all (length-map c.args.call.now.keys.now.at _ ∙ c.requires.whole))
