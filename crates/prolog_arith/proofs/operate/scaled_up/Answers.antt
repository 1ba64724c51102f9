use Rattle.std.proofs.Common.{◌∙◌, ap, sym, subst, SFits}
use Rattle.std.specs.Prelude.{ℤ}
use Rattle.std.proofs.Math.Facts.{to_z-of_z}
use mir.Val.{to_z, of_z}
use mir.Syntax.{w128}
use Rattle.prolog_arith.specs.Arithmetic.{whole}
use Rattle.prolog_arith.proofs.Integers.{scaled-beyond, scaled-fits, scaled-is}
use Rattle.prolog_arith.proofs.operate.scaled_up.Goals as goal

pub returns-then-power-gt63 : goal.returns-then-power-gt63
returns-then-power-gt63 c = sym (scaled-beyond c.args.value c.args.power c.if-value-eq0.false c.if-power-gt63.true)

pub overflow_mul-from : goal.overflow_mul-from
overflow_mul-from c =
    subst (SFits w128) (sym (scaled-is c.args.value c.from.result c.args.power c.ranges.value c.from.ensures c.if-power-gt63.false))
    (scaled-fits c.args.value c.args.power c.ranges.value c.if-power-gt63.false)

pub returns : goal.returns
returns c =
    c.narrowed.ensures
    ∙ ap (λ (z : ℤ). whole (to_z w128 (of_z w128 z))) (scaled-is c.args.value c.from.result c.args.power c.ranges.value c.from.ensures c.if-power-gt63.false)
    ∙ ap whole (to_z-of_z (scaled-fits c.args.value c.args.power c.ranges.value c.if-power-gt63.false))
