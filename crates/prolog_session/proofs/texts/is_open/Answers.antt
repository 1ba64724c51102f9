use Rattle.std.proofs.Common.{◌≡◌, ℕ, List, [], ◌∷◌, ◌++◌, refl, sym}
use Rattle.std.specs.Prelude.{not, ◌==◌}
use Rattle.prolog_session.specs.Output.{is_open}
use Rattle.prolog_session.proofs.texts.is_open.Goals as goal

-- it looks at the last byte alone
is_open-last : (text : List ℕ) (byte : ℕ) → is_open (text ++ byte ∷ []) ≡ not (byte == 10)
is_open-last [] byte = refl
is_open-last (b ∷ []) byte = refl
is_open-last (b ∷ next ∷ text) byte = is_open-last (next ∷ text) byte

pub returns-in-Some : goal.returns-in-Some
returns-in-Some c = rw c.in-Some.ensures.cases.0 (sym (is_open-last c.in-Some.field-0-1.now c.in-Some.byte.now))
