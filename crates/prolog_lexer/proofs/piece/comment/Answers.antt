use Rattle.std.proofs.Common.{◌≡◌, Some, None, sym, ◌∙◌, ap, drop, true, false}
use Rattle.std.proofs.lemmas.List.{take_rest}
use Rattle.prolog_lexer.specs.Pieces.{ends_comment}
use Rattle.prolog_lexer.proofs.Comments.{comment_is, starts, found, more, nowhere}
use Rattle.prolog_lexer.proofs.piece.comment.Goals as goal

pub loop-i-init : goal.loop-i-init
loop-i-init c = starts c.args.inside.now

pub returns-then-ends_comment : goal.returns-then-ends_comment
returns-then-ends_comment c =
    let inside = c.args.inside.now in
    let e : ends_comment (drop c.loop-i.i inside) ≡ true = ap ends_comment (sym (take_rest inside c.loop-i.i)) ∙ sym c.ends_comment.ensures ∙ c.if-ends_comment.true in
    comment_is inside (Some c.loop-i.i) (found inside c.loop-i.i c.loop-i-test.true c.loop-i.invariant e)

pub loop-i-preserved : goal.loop-i-preserved
loop-i-preserved c =
    let inside = c.args.inside.now in
    let e : ends_comment (drop c.loop-i.i inside) ≡ false = ap ends_comment (sym (take_rest inside c.loop-i.i)) ∙ sym c.ends_comment.ensures ∙ c.if-ends_comment.false in
    more inside c.loop-i.i c.loop-i-test.true c.loop-i.invariant e

pub returns : goal.returns
returns c = comment_is c.args.inside.now None (nowhere c.args.inside.now c.loop-i.i c.loop-i-test.false c.loop-i.invariant)
