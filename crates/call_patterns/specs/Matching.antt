-- The choice of clauses leaves out no clause whose head and the goal can be made one.
use Rattle.std.specs.Prelude.{◌≡◌, ℕ, true}
use Rattle.prolog_terms.specs.Tree.{Tree}
use Rattle.prolog_terms.specs.Substitutions.{substituted}
use Rattle.call_patterns.specs.Keys.{keys, could_match}

-- a head and a goal that some substitutions make one, each by its own: the head could match the goal
abbrev pub OneTermsMatch : Type 0
OneTermsMatch = (s r : ℕ → Tree) (head goal : Tree) → substituted s head ≡ substituted r goal → could_match head (keys goal) ≡ true
