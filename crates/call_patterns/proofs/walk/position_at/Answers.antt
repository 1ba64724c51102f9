use Rattle.call_patterns.proofs.Walking.{outer_place, inner_place}
use Rattle.call_patterns.proofs.walk.position_at.Goals as goal

pub returns-then-position-eq0-clause-place : goal.returns-then-position-eq0-clause-place
returns-then-position-eq0-clause-place c = outer_place c.args.nodes.now c.args.position c.argument_at-outer.result c.if-position-eq0.true c.argument_at-outer.ensures.place

pub returns-else-position-eq0-clause-place : goal.returns-else-position-eq0-clause-place
returns-else-position-eq0-clause-place c =
    inner_place c.args.nodes.now c.args.position c.argument_at-outer.result c.argument_at.result c.if-position-eq0.false c.argument_at-outer.ensures.place c.argument_at.ensures.place
