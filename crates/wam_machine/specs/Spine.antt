-- A term as a body, by a walk: its goals and connectives, the first first.
use Rattle.std.specs.Prelude.{◌≡◌, ℕ, Bool, true, false, List, [], ◌∷◌, ◌++◌, if◌then◌else◌, Option, Some, None}
use Rattle.std.specs.List.{list_all}
use Rattle.prolog_terms.specs.Tree.{Tree, variable, integer, atom, compound, none, more}
use Rattle.prolog_terms.specs.Clauses.{is_connective, is_body, call_term, body_of}
use Rattle.prolog_terms.specs.Faults.{one, two}

pub data Part : Type 0 where
  Leaf : (goal : Tree) → Part
  Joint : (name : List ℕ) → Part

abbrev pub spine : Tree → List Part
spine (variable n) = Leaf (variable n) ∷ []
spine (integer z) = Leaf (integer z) ∷ []
spine (atom a) = Leaf (atom a) ∷ []
spine (compound f (more a (more b none))) = if is_connective f then Joint f ∷ (spine a ++ spine b) else Leaf (two f a b) ∷ []
spine (compound f none) = Leaf (compound f none) ∷ []
spine (compound f (more a none)) = Leaf (one f a) ∷ []
spine (compound f (more a (more b (more c ts)))) = Leaf (compound f (more a (more b (more c ts)))) ∷ []

-- those of terms that are still to be walked over
abbrev pub spines : List Tree → List Part
spines [] = []
spines (t ∷ ts) = spine t ++ spines ts

abbrev pub is_plain_goal : Tree → Bool
is_plain_goal (variable n) = false
is_plain_goal (integer z) = false
is_plain_goal (atom a) = true
is_plain_goal (compound f ts) = true

abbrev pub is_plain : Part → Bool
is_plain (Leaf t) = is_plain_goal t
is_plain (Joint f) = true

abbrev pub goal_body : Tree → Option Tree
goal_body (variable n) = Some (call_term (variable n))
goal_body (integer z) = None
goal_body (atom a) = Some (atom a)
goal_body (compound f ts) = Some (compound f ts)

-- one more body on a stack
abbrev pub body_on : Option Tree → Option (List Tree) → Option (List Tree)
body_on None st = None
body_on (Some b) None = None
body_on (Some b) (Some st) = Some (b ∷ st)

abbrev pub joint_on : List ℕ → Option (List Tree) → Option (List Tree)
joint_on f None = None
joint_on f (Some []) = None
joint_on f (Some (a ∷ [])) = None
joint_on f (Some (a ∷ b ∷ st)) = Some (two f a b ∷ st)

abbrev pub part_on : Part → Option (List Tree) → Option (List Tree)
part_on (Leaf t) st = body_on (goal_body t) st
part_on (Joint f) st = joint_on f st

-- the parts are put on a stack of bodies, the last first; none where an integer stands as a goal
abbrev pub folded : List Part → List Tree → Option (List Tree)
folded [] st = Some st
folded (p ∷ ps) st = part_on p (folded ps st)

pub record BodiesByWalk : Type 0 where
  -- the walk, from a list of terms still to be walked over
  pub joint : (f : List ℕ) (a b : Tree) (ts : List Tree) → is_connective f ≡ true → spines (two f a b ∷ ts) ≡ Joint f ∷ spines (a ∷ b ∷ ts)
  -- a term is a body as it is, where each of its goals is one
  pub plain : (t : Tree) → is_body t ≡ list_all is_plain (spine t)
  -- the body
  pub body : (t : Tree) (ps : List Part) (st : List Tree) → folded (spine t ++ ps) st ≡ body_on (body_of t) (folded ps st)
