-- Which directive a term is (docs/LANGUAGE.md, "Programs").
use Rattle.std.specs.Prelude.{List, ℕ, Bool, IsTrue, ◌||◌, is_some, Option, Some, None, codes, if◌then◌else◌}
use Rattle.prolog_terms.specs.Tree.{Tree, compound, none, more}
use Rattle.prolog_terms.specs.Clauses.{is_named}
use Rattle.prolog_terms.specs.Substitutions.{occurs}
use Rattle.prolog_clauses.specs.Declarations.{declaring_of, HasPriority}
use Rattle.prolog_clauses.specs.Dynamics.{dynamics_of}
use Rattle.prolog_clauses.specs.declared.operators.Declaring.{Declaring}
use Rattle.prolog_clauses.specs.declared.directive.Directive.{Directive}
use Rattle.prolog_clauses.specs.declared.directive.Directive.TheVariants.{Operators, Dynamic, Nothing, Kept, Goal}

-- the argument of a term of this name that has one
abbrev pub argument : List ℕ → Tree → Option Tree
argument name (compound f (more a none)) = if is_named name f then Some a else None
argument name _ = None

abbrev pub is_term_of_one : List ℕ → Tree → Bool
is_term_of_one name t = is_some (argument name t)

-- the goal that is run for a goal G: once(G)
abbrev pub once : Tree → Tree
once g = compound (codes "once") (more g none)

-- `discontiguous(_)` and `multifile(_)`
abbrev pub says_nothing : Tree → Bool
says_nothing g = is_term_of_one (codes "discontiguous") g || is_term_of_one (codes "multifile") g

-- a goal that is kept, or one that is run at its place
abbrev pub kept_or_run : Option Tree → Tree → Directive
kept_or_run (Some g) whole = Kept (once g)
kept_or_run None whole = Goal (once whole)

-- procedures that are declared dynamic, or a goal
abbrev pub dynamic_or_goal : Option Tree → Tree → Directive
dynamic_or_goal (Some specs) g = Dynamic (dynamics_of specs)
dynamic_or_goal None g = kept_or_run (argument (codes "initialization") g) g

-- the directive `:- G` for a G that declares no operators
abbrev pub of_goal : Tree → Directive
of_goal g = if says_nothing g then Nothing else dynamic_or_goal (argument (codes "dynamic") g) g

-- the query `?- G` is run at its place, whatever G is
abbrev pub of_query : Option Tree → Option Directive
of_query None = None
of_query (Some g) = Some (Goal (once g))

abbrev pub of_directive : Option Tree → Tree → Option Directive
of_directive (Some g) t = Some (of_goal g)
of_directive None t = of_query (argument (codes "?-") t)

abbrev pub by_declaring : Option Declaring → Tree → Option Directive
by_declaring (Some d) t = Some (Operators d)
by_declaring None t = of_directive (argument (codes ":-") t) t

-- none where the term is neither `:- G` nor `?- G`
abbrev pub directive_of : Tree → Option Directive
directive_of t = by_declaring (declaring_of t) t

-- a goal in which each variable of the term stands
pub record IsGoalOf (t goal : Tree) : Type 0 where
  pub variables : (v : ℕ) → IsTrue (occurs v t) → IsTrue (occurs v goal)

-- what a load may count on: the priority of operators is one that an operator may have, or 0, and a goal is one of the term
abbrev pub IsReady : Tree → Directive → Type 0
IsReady t (Operators d) = HasPriority d
IsReady t (Dynamic d) = Unit {0}
IsReady t Nothing = Unit {0}
IsReady t (Kept g) = IsGoalOf t g
IsReady t (Goal g) = IsGoalOf t g
