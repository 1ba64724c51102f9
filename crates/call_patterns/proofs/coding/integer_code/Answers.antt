use Rattle.std.proofs.Common.{ap, ◌∙◌}
use Rattle.std.proofs.lemmas.Int.{to_z-of_z}
use Rattle.std.specs.Int.{w64, to_le_bytes, cast_unsigned}
use Rattle.call_patterns.specs.Codes.{fnv}
use Rattle.call_patterns.proofs.coding.integer_code.Goals as goal

pub returns : goal.returns
unfolding fnv
returns c = c.mixed.ensures
    ∙ ap (fnv c.mixed-start.result) (c.to_le_bytes-bytes.ensures ∙ ap (λ z. to_le_bytes w64 (cast_unsigned w64 z)) (to_z-of_z w64 c.args.value c.ranges.value))
    ∙ ap (λ h. fnv h (to_le_bytes w64 (cast_unsigned w64 c.args.value))) c.mixed-start.ensures
