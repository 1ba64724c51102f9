use Rattle.std.proofs.Common.{rules, w64, SFits}
use Rattle.prolog_arith.proofs.Integers.{lowered, kept-zero, kept}
use Rattle.prolog_arith.proofs.operate.modulo.Goals as goal
use Rattle.prolog_arith.proofs.operate.modulo.Goals.{else-right-lt0-via-then-right-lt0+else-rest-ne0, else-right-lt0-via-else-right-lt0}

pub returns-then-rest-ne0 : goal.returns-then-rest-ne0
returns-then-rest-ne0 c =
    let fits : SFits w64 c.wrapping_rem_euclid-rest.result = search rules in
    lowered c.args.left c.args.right c.wrapping_rem_euclid-rest.result c.ranges.left c.ranges.right fits c.if-right-eq0.false c.wrapping_rem_euclid-rest.ensures c.if-right-lt0.true c.if-rest-ne0.true

pub returns : goal.returns
returns c =
    let fits : SFits w64 c.wrapping_rem_euclid-rest.result = search rules in
    elim c.else-right-lt0.branch [
      | else-right-lt0-via-then-right-lt0+else-rest-ne0 w ↦ kept-zero c.args.left c.args.right c.wrapping_rem_euclid-rest.result c.ranges.left c.ranges.right fits c.if-right-eq0.false c.wrapping_rem_euclid-rest.ensures w.if-right-lt0.true w.if-rest-ne0.false
      | else-right-lt0-via-else-right-lt0 w ↦ kept c.args.left c.args.right c.wrapping_rem_euclid-rest.result c.ranges.left c.ranges.right fits c.if-right-eq0.false c.wrapping_rem_euclid-rest.ensures w.if-right-lt0.false
    ]
