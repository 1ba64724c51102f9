use Rattle.std.proofs.Common.{◌≤◌, sym, ◌∙◌, length, arith}
use Rattle.prolog_lexer.proofs.Fits.{text_within}
use Rattle.prolog_lexer.proofs.piece.quoted.Goals as goal

pub overflow_add-result : goal.overflow_add-result
overflow_add-result c = let e : c.in-Text.n ≤ length c.args.text.now = text_within 39 _ c.in-Text.meant c.in-Text.n (sym c.in_ok-meant.ensures ∙ c.in-Text.is) in omega arith
