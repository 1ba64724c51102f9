use Rattle.std.proofs.Common.{refl}
use Rattle.call_patterns.proofs.Sized.{whole_nothing, whole_leaf, whole_one, whole_two}
use Rattle.call_patterns.proofs.law.sizes_by_counts.Goals as goal

pub returns : goal.returns
returns c = record { whole = λ rows pattern. refl; nothing = whole_nothing; no_position = whole_leaf; one_position = whole_one; two_positions = whole_two }
