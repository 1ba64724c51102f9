-- The texts that are written in place of answers.
use Rattle.std.specs.Prelude.{ℕ, List, [], ◌∷◌, ◌++◌, codes}
use Rattle.std.specs.Fmt.{decimal}
use Rattle.prolog_session.specs.declared.refusal.Refusal.{Refusal}

abbrev pub newline : List ℕ
newline = 10 ∷ []

unfoldable pub bad_words_text : List ℕ
bad_words_text = codes "error: bad words." ++ newline

unfoldable pub source_text : List ℕ
source_text = codes "error: source." ++ newline

unfoldable pub too_long_text : List ℕ
too_long_text = codes "error: text too long." ++ newline

unfoldable pub refusal_text : Refusal → List ℕ
refusal_text refusal = codes "error: line " ++ decimal refusal.line ++ codes ": fault " ++ decimal refusal.fault ++ codes "." ++ newline
