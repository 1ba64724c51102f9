use Rattle.call_patterns.specs.Codes.{check_value}
use Rattle.call_patterns.proofs.law.published_check.Goals as goal

pub returns : goal.returns
returns c = check_value
