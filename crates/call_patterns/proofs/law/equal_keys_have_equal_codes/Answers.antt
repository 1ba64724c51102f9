use Rattle.std.proofs.Common.{ap}
use Rattle.call_patterns.specs.Codes.{key_code}
use Rattle.call_patterns.proofs.SameKeys.{same_keys}
use Rattle.call_patterns.proofs.law.equal_keys_have_equal_codes.Goals as goal

pub returns : goal.returns
returns c = λ left right h. ap key_code (same_keys left right h)
