use Rattle.std.proofs.Common.{◌∙◌, ap, w64}
use Rattle.std.specs.Prelude.{ℤ}
use Rattle.std.specs.Int.{int_shr}
use Rattle.std.proofs.Math.Facts.{to_z-of_z}
use mir.Val.{to_z, of_z}
use Rattle.prolog_arith.proofs.Integers.{scaled-down, scaled-down-fits}
use Rattle.prolog_arith.proofs.operate.scaled_down.Goals as goal

pub returns : goal.returns
returns c =
    ap (λ (z : ℤ). to_z w64 (of_z w64 (int_shr z c.min.result))) (to_z-of_z c.ranges.value)
    ∙ to_z-of_z (scaled-down-fits c.args.value c.min.result c.ranges.value)
    ∙ scaled-down c.args.value c.args.power c.min.result c.ranges.value c.min.ensures
