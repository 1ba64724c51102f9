-- Substitutions, and the variables of a term.
use Rattle.std.specs.Prelude.{ℕ, suc, ◌+◌, Bool, true, false, ◌==◌, ◌||◌, List, [], ◌∷◌, ◌++◌, if◌then◌else◌, length, max}
use Rattle.prolog_terms.specs.Tree.{Tree, Trees, variable, integer, atom, compound, none, more}

-- the term with each variable replaced by what it stands for
abbrev mutual
  pub substituted : (ℕ → Tree) → Tree → Tree
  substituted s (variable n) = s n
  substituted s (integer z) = integer z
  substituted s (atom a) = atom a
  substituted s (compound f ts) = compound f (all_substituted s ts)

  pub all_substituted : (ℕ → Tree) → Trees → Trees
  all_substituted s none = none
  all_substituted s (more t ts) = more (substituted s t) (all_substituted s ts)

-- whether a variable stands in a term
abbrev mutual
  pub occurs : ℕ → Tree → Bool
  occurs v (variable n) = v == n
  occurs v (integer z) = false
  occurs v (atom a) = false
  occurs v (compound f ts) = occurs_in_some v ts

  pub occurs_in_some : ℕ → Trees → Bool
  occurs_in_some v none = false
  occurs_in_some v (more t ts) = occurs v t || occurs_in_some v ts

abbrev pub contains : ℕ → List ℕ → Bool
contains v [] = false
contains v (n ∷ ns) = v == n || contains v ns

-- the variables of a list, and those of a term after them, each once, in order of first occurrence
abbrev mutual
  pub variables_after : List ℕ → Tree → List ℕ
  variables_after seen (variable n) = if contains n seen then seen else seen ++ n ∷ []
  variables_after seen (integer z) = seen
  variables_after seen (atom a) = seen
  variables_after seen (compound f ts) = all_variables_after seen ts

  pub all_variables_after : List ℕ → Trees → List ℕ
  all_variables_after seen none = seen
  all_variables_after seen (more t ts) = all_variables_after (variables_after seen t) ts

abbrev pub variables : Tree → List ℕ
variables t = variables_after [] t

-- the place of a number in a list
abbrev pub place_of : ℕ → List ℕ → ℕ
place_of v [] = 0
place_of v (n ∷ ns) = if v == n then 0 else suc (place_of v ns)

-- how many variables a term has
abbrev pub variable_count : Tree → ℕ
variable_count t = length (variables t)

-- a number above each variable of a term
abbrev mutual
  pub beyond : Tree → ℕ
  beyond (variable n) = suc n
  beyond (integer z) = 0
  beyond (atom a) = 0
  beyond (compound f ts) = beyond_all ts

  pub beyond_all : Trees → ℕ
  beyond_all none = 0
  beyond_all (more t ts) = max (beyond t) (beyond_all ts)

-- the term with its variables numbered from 0 by first occurrence
abbrev pub numbered : Tree → Tree
numbered t = substituted (λ v. variable (place_of v (variables t))) t

-- the term with each variable's number so much greater
abbrev pub renamed : ℕ → Tree → Tree
renamed from t = substituted (λ v. variable (from + v)) t
