-- The variables of a term: their numbering by first occurrence.
use Rattle.std.specs.Prelude.{◌≡◌, ℕ, ◌+◌, ◌==◌, nat_lt, Option, Some, None, option_and_then, if◌then◌else◌}
use Rattle.prolog_terms.specs.Tree.{Tree, Trees, variable, integer, atom, compound, none, more}

-- how many variables have been met after the term, where it meets each new one as the next number
abbrev mutual
  pub met_after : Tree → ℕ → Option ℕ
  met_after (variable n) k = if nat_lt n k then Some k else (if n == k then Some (k + 1) else None)
  met_after (integer z) k = Some k
  met_after (atom a) k = Some k
  met_after (compound f ts) k = all_met_after ts k

  pub all_met_after : Trees → ℕ → Option ℕ
  all_met_after none k = Some k
  all_met_after (more t ts) k = option_and_then (all_met_after ts) (met_after t k)

-- head and body have this many variables, numbered from 0 by first occurrence
abbrev pub AreNumbered : Tree → Tree → ℕ → Type 0
AreNumbered head body vars = option_and_then (met_after body) (met_after head 0) ≡ Some vars
