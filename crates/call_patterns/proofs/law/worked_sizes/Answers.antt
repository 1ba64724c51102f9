use Rattle.std.proofs.Common.{refl}
use Rattle.call_patterns.specs.Size.{codes_at, size_from}
use Rattle.call_patterns.proofs.law.worked_sizes.Goals as goal

pub returns : goal.returns
unfolding size_from codes_at
returns c = record { distinct = refl; one_without = refl; shared = refl; below_one = refl; two_positions = refl; nothing = refl; no_position = refl }
