-- The clauses that a call tries (docs/LANGUAGE.md, "Which clauses a call tries"): one filter over the clauses alive.
use Rattle.std.specs.Prelude.{ℕ, List, Bool, false, filter, Option, Some, None}
use Rattle.prolog_terms.specs.declared.entry.Clause.{Clause}
use Rattle.call_patterns.specs.Keys.{GoalKeys, could_match}
use Rattle.journals.specs.Journal.{Journal, alive, clause_named}

abbrev pub head_agrees : GoalKeys → Option Clause → Bool
head_agrees goal None = false
head_agrees goal (Some c) = could_match c.head goal

-- the names of the procedure's clauses whose heads could match the goal, in their order
abbrev pub candidates : Journal → ℕ → GoalKeys → List ℕ
candidates J p goal = filter (λ k. head_agrees goal (clause_named J k)) (alive J p)
