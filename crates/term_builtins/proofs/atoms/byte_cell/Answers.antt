use Rattle.std.proofs.Common.{ℕ, ◌∙◌, ◌∷◌, [], List, sym, subst, rules, w64, SFits}
use Rattle.std.proofs.Math.Facts.{to_z-of_z}
use Rattle.term_store.specs.Later.{AreLonger}
use Rattle.term_store.proofs.Laws.{longer-itself}
use Rattle.term_builtins.proofs.Grown.{intern-longer}
use Rattle.term_builtins.proofs.Bytewise.{byte-code, byte-char}
use Rattle.term_builtins.proofs.atoms.byte_cell.Goals as goal

pub returns-in-Codes-clause-texts : goal.returns-in-Codes-clause-texts
returns-in-Codes-clause-texts c = longer-itself c.args.names.now

pub returns-in-Codes-clause-cell : goal.returns-in-Codes-clause-cell
returns-in-Codes-clause-cell c =
    let fits : SFits w64 c.from.result = search rules in
    byte-code c.args.names.now c.args.form c.args.byte _ c.in-Codes.is (to_z-of_z fits ∙ c.from.ensures)

pub returns-in_err-number-in-Chars-clause-texts : goal.returns-in_err-number-in-Chars-clause-texts
returns-in_err-number-in-Chars-clause-texts c =
    subst (λ (ts : List (List ℕ)). AreLonger c.args.names.now ts) (sym c.in_err-number-in-Chars.ensures.err) (longer-itself c.args.names.now)

pub returns-in_ok-number-in-Chars-clause-texts : goal.returns-in_ok-number-in-Chars-clause-texts
returns-in_ok-number-in-Chars-clause-texts c = intern-longer c.args.names.now c.intern.new.self (c.args.byte ∷ []) c.in_ok-number-in-Chars.ensures.texts

pub returns-in_ok-number-in-Chars-clause-cell : goal.returns-in_ok-number-in-Chars-clause-cell
returns-in_ok-number-in-Chars-clause-cell c =
    byte-char c.intern.new.self c.args.form c.args.byte c.in_ok-number-in-Chars.number c.in-Chars.is c.in_ok-number-in-Chars.ensures.number
