use Rattle.std.proofs.Common.{◌≡◌, ◌<◌, ◌+◌, ◌*◌, sym, ◌∙◌, ap, drop, get_or}
use Rattle.std.proofs.lemmas.List.{drop_more}
use Rattle.prolog_lexer.specs.Digits.{value_from, digit}
use Rattle.prolog_lexer.proofs.Insides.{above}
use Rattle.prolog_lexer.proofs.digit.value_of.Goals as goal

pub returns-then-value-limit : goal.returns-then-value-limit
returns-then-value-limit c =
    let d = drop_more c.args.digits.now c.loop-d.d-index 0 c.loop-d-test.true in
    let v = c.args.base * c.loop-d.value + digit (get_or c.args.digits.now c.loop-d.d-index 0) in
    let e : value_from c.args.base v (drop (c.loop-d.d-index + 1) c.args.digits.now) ≡ value_from c.args.base 0 c.args.digits.now
    = ap (value_from c.args.base c.loop-d.value) (sym d) ∙ c.loop-d.invariant.value in
    let g : c.args.most < v = rw (c.from-limit.ensures, c.from.ensures, c.from-in-loop-d.ensures, c.digit.ensures.value) at c.if-value-limit.true in
    above c.args.base c.args.most v (drop (c.loop-d.d-index + 1) c.args.digits.now) (value_from c.args.base 0 c.args.digits.now) c.requires.low g e
