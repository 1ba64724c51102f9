-- The variables of a term, and the term with other numbers for them.
use Rattle.std.specs.Prelude.{ℕ, ◌+◌, ◌==◌, ◌||◌, List, [], ◌∷◌, ◌++◌, Bool, false, nat_eq, if◌then◌else◌}
use Rattle.std.specs.List.{list_any}
use Rattle.prolog_terms.specs.Tree.{Tree, Trees, variable, integer, atom, compound, none, more}

-- the term with another number for each variable
abbrev mutual
  pub renamed : (ℕ → ℕ) → Tree → Tree
  renamed f (variable n) = variable (f n)
  renamed f (integer z) = integer z
  renamed f (atom a) = atom a
  renamed f (compound g ts) = compound g (all_renamed f ts)

  pub all_renamed : (ℕ → ℕ) → Trees → Trees
  all_renamed f none = none
  all_renamed f (more t ts) = more (renamed f t) (all_renamed f ts)

-- whether a variable stands in the term
abbrev mutual
  pub occurs : ℕ → Tree → Bool
  occurs v (variable n) = v == n
  occurs v (integer z) = false
  occurs v (atom a) = false
  occurs v (compound g ts) = occurs_in_some v ts

  pub occurs_in_some : ℕ → Trees → Bool
  occurs_in_some v none = false
  occurs_in_some v (more t ts) = occurs v t || occurs_in_some v ts

-- a list of variables with one more at its end, where it is not among them
abbrev pub with_variable : List ℕ → ℕ → List ℕ
with_variable met n = if list_any (nat_eq n) met then met else met ++ n ∷ []

-- a list of variables, and behind them those of the term that are not among them, each once, by first occurrence
abbrev mutual
  pub variables_after : List ℕ → Tree → List ℕ
  variables_after met (variable n) = with_variable met n
  variables_after met (integer z) = met
  variables_after met (atom a) = met
  variables_after met (compound g ts) = all_variables_after met ts

  pub all_variables_after : List ℕ → Trees → List ℕ
  all_variables_after met none = met
  all_variables_after met (more t ts) = all_variables_after (variables_after met t) ts

-- the place of a variable in a list
abbrev pub place_of : ℕ → List ℕ → ℕ
place_of v [] = 0
place_of v (n ∷ ns) = if nat_eq v n then 0 else 1 + place_of v ns
