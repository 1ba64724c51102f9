-- The variables of a read-term (docs/LANGUAGE.md, "Terms").
use Rattle.std.specs.Prelude.{ℕ, ◌+◌, List, [], ◌∷◌, ◌++◌, Bool, false, ◌==◌, if◌then◌else◌, Option, Some, None, codes}
use Rattle.std.specs.Map.{lookup}
use Rattle.prolog_terms.specs.Operators.{same_text}
use Rattle.prolog_terms.specs.declared.shown.Shown.{Shown}

-- the variables that have been met: those with a name, each with its number, in order, and how many there are in all
pub record Numbering : Type 0 where
  pub known : List (List ℕ × ℕ)
  pub count : ℕ

abbrev pub no_variables : Numbering
no_variables = record { known = []; count = 0 }

abbrev pub number_of : List ℕ → Numbering → Option ℕ
number_of v vs = lookup (same_text v) vs.known

-- The name _ stands for another variable each time.
abbrev pub is_anonymous : List ℕ → Bool
is_anonymous v = same_text v (codes "_")

abbrev pub or_next : Option ℕ → Numbering → ℕ
or_next None vs = vs.count
or_next (Some n) vs = n

-- the number of a variable: that of its name, or the next one
abbrev pub numbered : List ℕ → Numbering → ℕ
numbered v vs = if is_anonymous v then vs.count else or_next (number_of v vs) vs

abbrev pub unless_known : Option ℕ → List ℕ → Numbering → Numbering
unless_known None v vs = record { known = vs.known ++ (v, vs.count) ∷ []; count = vs.count + 1 }
unless_known (Some n) v vs = vs

-- the variables after one more is met
abbrev pub met : List ℕ → Numbering → Numbering
met v vs = if is_anonymous v then record { known = vs.known; count = vs.count + 1 } else unless_known (number_of v vs) v vs

-- a name that begins with _
abbrev pub is_hidden : List ℕ → Bool
is_hidden [] = false
is_hidden (b ∷ bs) = b == 95

-- the named variables, in order of first occurrence, but for those whose name begins with _
abbrev pub shown_of : List (List ℕ × ℕ) → List Shown
shown_of [] = []
shown_of (e ∷ es) = if is_hidden e.0 then shown_of es else record { name = e.0; var = e.1 } ∷ shown_of es
