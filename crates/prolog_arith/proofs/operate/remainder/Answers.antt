use Rattle.std.proofs.Common.{◌∙◌, ap₂, sym, rules, w64, SFits}
use Rattle.std.proofs.Math.Facts.{to_z-of_z}
use Rattle.std.specs.Int.RustNames.{int_rem}
use Rattle.prolog_arith.proofs.Integers.{remainder-is, divided}
use Rattle.prolog_arith.specs.Operations.{remainder}
use Rattle.prolog_arith.proofs.operate.remainder.Goals as goal

pub returns : goal.returns
returns c =
    let left = c.args.left in
    let right = c.args.right in
    let fits : SFits w64 c.wrapping_rem.result = search rules in
    divided right c.wrapping_rem.result (remainder left right) c.if-right-eq0.false fits
    (remainder-is left right ∙ sym (c.wrapping_rem.ensures ∙ ap₂ int_rem (to_z-of_z c.ranges.left) (to_z-of_z c.ranges.right)))
