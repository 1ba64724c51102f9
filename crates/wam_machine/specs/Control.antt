-- What a goal is, and which terms are bodies (docs/LANGUAGE.md, "Goals and steps"; ISO/IEC 13211-1, 7.6.2 and 7.8).
use Rattle.std.specs.Prelude.{ℕ, Bool, false, ◌&&◌, List, [], ◌∷◌, if◌then◌else◌, nat_lt, Option, Some, None, codes}
use Rattle.prolog_terms.specs.Tree.{Tree, Trees, variable, integer, atom, compound, none, more, count}
use Rattle.prolog_terms.specs.Clauses.{is_named, call_term, body_of}
use Rattle.prolog_terms.specs.Faults.{two}
use Rattle.prolog_terms.specs.declared.entry.Indicator.{Indicator}
use Rattle.prolog_terms.specs.declared.entry.End.{End}
use Rattle.prolog_terms.specs.declared.entry.End.TheVariants.{Front, Back}
use Rattle.term_builtins.specs.Table.{builtins, place_in}

-- what a goal asks of the database, other than the call of a procedure
pub data Access : Type 0 where
  -- a clause is added at an end
  Assert : (end : End) (clause : Tree) → Access
  -- the clauses of a head and a body are read, one after another
  Inspect : (head body : Tree) → Access
  -- the same by a clause, each of which is erased
  Retract : (clause : Tree) → Access
  -- the clauses of a head are erased
  RetractAll : (head : Tree) → Access
  -- the clauses of a name and arity are erased
  Abolish : (named : Tree) → Access

pub data Control : Type 0 where
  True : Control
  Fail : Control
  -- the alternatives since the clause, or the local scope, began are taken away
  Cut : Control
  Repeat : Control
  -- a conjunction: one goal, and then the other
  Both : (left right : Tree) → Control
  -- one goal, with the other as an alternative
  Either : (left right : Tree) → Control
  -- the first answer of a condition, and then one goal; the other where it has none
  IfElse : (condition then_ else_ : Tree) → Control
  -- the same without the other
  If : (condition then_ : Tree) → Control
  -- what has no answer
  Not : (goal : Tree) → Control
  -- a goal with arguments added
  Call : (goal : Tree) (added : Trees) → Control
  Once : (goal : Tree) → Control
  -- a goal; where a ball is raised in it that the catcher unifies with, the recovery is called
  Catch : (goal catcher recovery : Tree) → Control
  -- a list of copies of a template, one for each answer of a goal
  Findall : (template goal list : Tree) → Control
  -- a ball is raised
  Throw : (ball : Tree) → Control
  -- the run is ended
  Halt : Control
  -- the run is ended, with a number
  HaltWith : (code : Tree) → Control
  -- the database is asked for something
  Database : (access : Access) → Control
  -- a builtin on terms, by its place in the table, with its arguments
  Builtin : (row : ℕ) (args : Trees) → Control
  -- any other goal, by its name and arity
  User : Indicator → Control

-- what is no control construct: a builtin where the table has its name and arity, and else the call of a procedure
abbrev pub builtin_or_user : Option ℕ → List ℕ → Trees → Control
builtin_or_user None f args = User (record { name = f; arity = count args })
builtin_or_user (Some row) f args = Builtin row args

unfoldable pub plain : List ℕ → Trees → Control
plain f args = builtin_or_user (place_in builtins f (count args)) f args

abbrev pub control_with_none : List ℕ → Control
control_with_none a =
    if is_named (codes "true") a then True
    else if is_named (codes "fail") a then Fail
    else if is_named (codes "!") a then Cut
    else if is_named (codes "repeat") a then Repeat
    else if is_named (codes "halt") a then Halt
    else plain a none

-- what one argument is asked of the database by
abbrev pub access_with_one : List ℕ → Tree → Control
access_with_one f a =
    if is_named (codes "asserta") f then Database (Assert Front a)
    else if is_named (codes "assertz") f then Database (Assert Back a)
    else if is_named (codes "retract") f then Database (Retract a)
    else if is_named (codes "retractall") f then Database (RetractAll a)
    else if is_named (codes "abolish") f then Database (Abolish a)
    else plain f (more a none)

abbrev pub control_with_one : List ℕ → Tree → Control
control_with_one f a =
    if is_named (codes "call") f then Call a none
    else if is_named (codes "once") f then Once a
    else if is_named (codes "\\+") f then Not a
    else if is_named (codes "throw") f then Throw a
    else if is_named (codes "halt") f then HaltWith a
    else access_with_one f a

-- a `;`: a condition with an else where the left side is a `->`
abbrev pub control_of_either : Tree → Tree → Control
control_of_either (variable n) e = Either (variable n) e
control_of_either (integer z) e = Either (integer z) e
control_of_either (atom a) e = Either (atom a) e
control_of_either (compound f none) e = Either (compound f none) e
control_of_either (compound f (more c none)) e = Either (compound f (more c none)) e
control_of_either (compound f (more c (more t none))) e = if is_named (codes "->") f then IfElse c t e else Either (two f c t) e
control_of_either (compound f (more c (more t (more u us)))) e = Either (compound f (more c (more t (more u us)))) e

abbrev pub control_with_two : List ℕ → Tree → Tree → Control
control_with_two f a b =
    if is_named (codes ",") f then Both a b
    else if is_named (codes ";") f then control_of_either a b
    else if is_named (codes "->") f then If a b
    else if is_named (codes "call") f then Call a (more b none)
    else if is_named (codes "clause") f then Database (Inspect a b)
    else plain f (more a (more b none))

abbrev pub control_with_three : List ℕ → Tree → Tree → Tree → Control
control_with_three f a b c =
    if is_named (codes "catch") f then Catch a b c
    else if is_named (codes "findall") f then Findall a b c
    else if is_named (codes "call") f then Call a (more b (more c none))
    else plain f (more a (more b (more c none)))

-- with four arguments or more: `call` takes up to seven beside its goal
abbrev pub control_with_more : List ℕ → Tree → Trees → Control
control_with_more f a ts = if is_named (codes "call") f && nat_lt (count ts) 8 then Call a ts else plain f (more a ts)

-- what a goal is; none for a variable and a number
abbrev pub control_of : Tree → Option Control
control_of (variable n) = None
control_of (integer z) = None
control_of (atom a) = Some (control_with_none a)
control_of (compound f none) = Some (plain f none)
control_of (compound f (more a none)) = Some (control_with_one f a)
control_of (compound f (more a (more b none))) = Some (control_with_two f a b)
control_of (compound f (more a (more b (more c none)))) = Some (control_with_three f a b c)
control_of (compound f (more a (more b (more c (more d ts))))) = Some (control_with_more f a (more b (more c (more d ts))))

-- ---- bodies

abbrev pub or_call : Tree → Option Tree → Tree
or_call goal None = call_term goal
or_call goal (Some body) = body

-- the body as which a goal is run at first: `call` of it where it can't be a body
abbrev pub first_body : Tree → Tree
first_body goal = or_call goal (body_of goal)

abbrev pub joined : Trees → Trees → Trees
joined none us = us
joined (more t ts) us = more t (joined ts us)

abbrev pub atom_with : List ℕ → Trees → Tree
atom_with a none = atom a
atom_with a (more t ts) = compound a (more t ts)

-- a goal with arguments added behind its own; a variable and an integer take none
abbrev pub with_added : Tree → Trees → Tree
with_added (variable n) added = variable n
with_added (integer z) added = integer z
with_added (atom a) added = atom_with a added
with_added (compound f ts) added = compound f (joined ts added)

-- ---- clauses

abbrev pub is_true_atom : Tree → Bool
is_true_atom (variable n) = false
is_true_atom (integer z) = false
is_true_atom (atom a) = is_named (codes "true") a
is_true_atom (compound f ts) = false

-- the goals of a clause's body: none for `true` alone
abbrev pub body_goals : Tree → List Tree
body_goals body = if is_true_atom body then [] else body ∷ []
