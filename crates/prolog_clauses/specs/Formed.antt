-- From a term to a clause (docs/LANGUAGE.md, "Clauses").
use Rattle.std.specs.Prelude.{◌≡◌, ℕ, ◌||◌, List, [], codes, length, IsTrue, if◌then◌else◌, Option, Some, None, option_map}
use Rattle.prolog_terms.specs.Tree.{Tree, variable, integer, atom, compound, none, more}
use Rattle.prolog_terms.specs.Clauses.{is_named, body_of}
use Rattle.prolog_terms.specs.declared.entry.Clause.{Clause}
use Rattle.prolog_terms.specs.declared.fault.Fault.{Fault}
use Rattle.prolog_terms.specs.declared.fault.Fault.TheVariants.{Instantiation}
use Rattle.prolog_clauses.specs.Renaming.{renamed, occurs, variables_after, place_of}
use Rattle.prolog_clauses.specs.declared.clause.Formed.{Formed}
use Rattle.prolog_clauses.specs.declared.clause.Formed.TheVariants.{Clause as Made, Refused}
use Rattle.prolog_clauses.specs.Declarations.{type_error}

-- the head and the body of a term
pub record Parts : Type 0 where
  pub head : Tree
  pub body : Tree

abbrev pub rule : Tree → Tree → Parts
rule head body = record { head = head; body = body }

-- a fact has the body true
abbrev pub fact : Tree → Parts
fact head = rule head (atom (codes "true"))

-- a term of the name :- with two arguments is a rule, and every other term is a fact
abbrev pub parts_of : Tree → Parts
parts_of (variable n) = fact (variable n)
parts_of (integer z) = fact (integer z)
parts_of (atom a) = fact (atom a)
parts_of (compound f none) = fact (compound f none)
parts_of (compound f (more a none)) = fact (compound f (more a none))
parts_of (compound f (more a (more b none))) = if is_named (codes ":-") f then rule a b else fact (compound f (more a (more b none)))
parts_of (compound f (more a (more b (more c ts)))) = fact (compound f (more a (more b (more c ts))))

-- the variables of head and body, each once, by first occurrence
abbrev pub variables_of : Parts → List ℕ
variables_of p = variables_after (variables_after [] p.head) p.body

-- the number of a variable: how many others are met before it, through head and then body
abbrev pub number_in : Parts → ℕ → ℕ
number_in p v = place_of v (variables_of p)

-- head and body with these numbers, and how many there are
abbrev pub numbered : Parts → Clause
numbered p = record { head = renamed (number_in p) p.head; body = renamed (number_in p) p.body; vars = length (variables_of p) }

-- the error that a term can't be called
abbrev pub no_callable : Tree → Fault
no_callable t = type_error (codes "callable") t

-- the clause of the parts' head and of what their body is as a body; where that is none, the error has the whole body as it stands
abbrev pub with_body : Parts → Option Tree → Formed
with_body p None = Refused (no_callable p.body)
with_body p (Some body) = Made (numbered (rule p.head body))

-- The clause that these parts are, each variable that stands as a goal of the body called, or the error: what is amiss with
-- the head comes first.
abbrev pub by_head : Tree → Parts → Formed
by_head (variable n) p = Refused Instantiation
by_head (integer z) p = Refused (no_callable (integer z))
by_head (atom a) p = with_body p (body_of p.body)
by_head (compound f ts) p = with_body p (body_of p.body)

abbrev pub of_parts : Parts → Formed
of_parts p = by_head p.head p

abbrev pub clause_of : Tree → Formed
clause_of t = of_parts (parts_of t)

-- ---- what a clause is to the term that it comes from

abbrev pub OccursIn : ℕ → Parts → Type 0
OccursIn v p = IsTrue (occurs v p.head || occurs v p.body)

-- The head of the clause is that of the term, and its body that of the term with `call` of each variable that stands as a
-- goal, both with other numbers for their variables, no two of which get the same.
pub record IsRenaming (p : Parts) (c : Clause) : Type 0 where
  pub number : ℕ → ℕ
  pub head : c.head ≡ renamed number p.head
  pub body : Some c.body ≡ option_map (renamed number) (body_of p.body)
  pub one_to_one : (v w : ℕ) → OccursIn v p → OccursIn w p → number v ≡ number w → v ≡ w
