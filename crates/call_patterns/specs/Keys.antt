-- What the choice of clauses sees of a term: its keys at 40 positions (docs/LANGUAGE.md, "Which clauses a call tries").
use Rattle.std.specs.Prelude.{ℕ, zero, suc, ℤ, ◌/◌, ◌%◌, List, Bool, true, false, ◌&&◌, ◌==◌, Option, Some, None, option_and_then, nat_eq, map}
use Rattle.std.specs.Ordering.{int_eq}
use Rattle.std.specs.Cmp.Lexicographic.{pointwise}
use Rattle.prolog_terms.specs.Tree.{Tree, Trees, variable, integer, atom, compound, none, more, count}
use Rattle.journals.specs.Numbers.{numbers_from}

pub data Key : Type 0 where
  integer_key : ℤ → Key
  atom_key : List ℕ → Key
  functor_key : List ℕ → ℕ → Key

-- an integer, an atom's text, or a compound's name and arity; none for a variable
abbrev pub key : Tree → Option Key
key (variable n) = None
key (integer z) = Some (integer_key z)
key (atom a) = Some (atom_key a)
key (compound f ts) = Some (functor_key f (count ts))

abbrev pub arguments : Tree → Trees
arguments (compound f ts) = ts
arguments (variable n) = none
arguments (integer z) = none
arguments (atom a) = none

abbrev pub argument : Trees → ℕ → Option Tree
argument none i = None
argument (more t ts) zero = Some t
argument (more t ts) (suc i) = argument ts i

-- an argument itself, or one of its own arguments
abbrev pub inner : ℕ → Tree → Option Tree
inner zero a = Some a
inner (suc j) a = argument (arguments a) j

-- Five positions for each of the first eight arguments, numbered in order: the argument itself, then its first four arguments.
abbrev pub subterm_at : Tree → ℕ → Option Tree
subterm_at t p = option_and_then (inner (p % 5)) (argument (arguments t) (p / 5))

abbrev pub key_at : Tree → ℕ → Option Key
key_at t p = option_and_then key (subterm_at t p)

-- the keys at the 40 positions
unfoldable pub keys : Tree → List (Option Key)
keys t = map (key_at t) (numbers_from 0 40)

abbrev pub same_key : Key → Key → Bool
same_key (integer_key z) (integer_key w) = int_eq z w
same_key (atom_key a) (atom_key b) = pointwise nat_eq a b
same_key (functor_key f n) (functor_key g m) = pointwise nat_eq f g && n == m
same_key _ _ = false

-- one of the two has no key, or both are equal
abbrev pub keys_agree : Option Key → Option Key → Bool
keys_agree (Some a) (Some b) = same_key a b
keys_agree (Some a) None = true
keys_agree None b = true

-- keys at the positions, as a goal has them
abbrev pub GoalKeys : Type 0
GoalKeys = List (Option Key)

-- a head of the goal's procedure could match the goal: at each position one of the two has no key, or both keys are equal
unfoldable pub could_match : Tree → GoalKeys → Bool
could_match head goal = pointwise keys_agree (keys head) goal
