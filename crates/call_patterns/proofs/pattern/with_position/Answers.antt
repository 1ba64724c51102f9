use Rattle.call_patterns.proofs.Positioned.{two_positions, three_positions}
use Rattle.call_patterns.proofs.pattern.with_position.Goals as goal

pub returns-in-1-clause-pattern : goal.returns-in-1-clause-pattern
returns-in-1-clause-pattern c = two_positions c.args.pattern c.args.position c.requires.pattern c.requires.position

pub returns-in-2-clause-pattern : goal.returns-in-2-clause-pattern
returns-in-2-clause-pattern c = three_positions c.args.pattern c.args.position c.requires.pattern c.requires.position
