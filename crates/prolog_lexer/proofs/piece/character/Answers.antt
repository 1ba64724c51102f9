use Rattle.std.proofs.Common.{◌≤◌, sym, ap, ◌∙◌, length, take, drop, ◌-◌, arith, length-drop}
use Rattle.std.proofs.lemmas.List.{take_rest}
use Rattle.prolog_lexer.proofs.Fits.{stands_within}
use Rattle.prolog_lexer.proofs.piece.character.Goals as goal

pub overflow_add-result : goal.overflow_add-result
overflow_add-result c =
    let e : c.in-Stands.k ≤ length (take (length c.args.text.now - 1) (drop 1 c.args.text.now)) = stands_within _ c.in-Stands.v c.in-Stands.k (sym c.escape.ensures ∙ c.in-Stands.is) in
    omega (arith, ap length (take_rest c.args.text.now 1), length-drop 1 c.args.text.now)
