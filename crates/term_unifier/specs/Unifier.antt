-- The most general unifier of two terms: as a relation, and as a function that meets it.
use Rattle.std.specs.Prelude.{◌≡◌, ℕ, zero, suc, ◌+◌, ◌≤◌, ◌==◌, List, [], ◌∷◌, ◌++◌, if◌then◌else◌, bytes_eq, nat_lt, Option, Some, None, option_map, option_and_then}
use Rattle.std.specs.Ordering.{int_eq}
use Rattle.prolog_terms.specs.Tree.{Tree, Trees, variable, integer, atom, compound, none, more}
use Rattle.prolog_terms.specs.Substitutions.{substituted, occurs, variable_count}

-- the two terms become one
abbrev pub Unifies : (ℕ → Tree) → Tree → Tree → Type 0
Unifies s a b = substituted s a ≡ substituted s b

pub record IsMostGeneral (s : ℕ → Tree) (a b : Tree) : Type 0 where
  pub unifies : Unifies s a b
  -- every unifier goes through this one
  pub factors : (r : ℕ → Tree) → Unifies r a b → (v : ℕ) → substituted r (s v) ≡ r v
  -- of two variables the younger is bound to the older
  pub older : (v w : ℕ) → s v ≡ variable w → w ≤ v

-- the most general unifier, or none where no substitution unifies
abbrev pub IsUnifier : Tree → Tree → Option (ℕ → Tree) → Type 0
IsUnifier a b (Some s) = IsMostGeneral s a b
IsUnifier a b None = (r : ℕ → Tree) → ¬ Unifies r a b

-- t in the place of v, and every other variable itself
abbrev pub only : ℕ → Tree → ℕ → Tree
only v t n = if n == v then t else variable n

-- the term under bindings, each a variable and what it is bound to, in the order in which they were made
abbrev pub under : List (ℕ × Tree) → Tree → Tree
under [] t = t
under (b ∷ bs) t = under bs (substituted (only b.0 b.1) t)

abbrev pub all_under : List (ℕ × Tree) → Trees → Trees
all_under bs none = none
all_under bs (more t ts) = more (under bs t) (all_under bs ts)

-- a variable against a term
abbrev pub bound : ℕ → Tree → Option (List (ℕ × Tree))
bound v (variable w) = if v == w then Some [] else (if nat_lt v w then Some ((w, variable v) ∷ []) else Some ((v, variable w) ∷ []))
bound v (integer i) = Some ((v, integer i) ∷ [])
bound v (atom a) = Some ((v, atom a) ∷ [])
bound v (compound f ts) = if occurs v (compound f ts) then None else Some ((v, compound f ts) ∷ [])

abbrev mutual
  -- one term against another; what comes after a first binding is left to `later`
  pub solved : (Tree → Tree → Option (List (ℕ × Tree))) → Tree → Tree → Option (List (ℕ × Tree))
  solved later (variable v) b = bound v b
  solved later (integer i) (variable w) = bound w (integer i)
  solved later (integer i) (integer j) = if int_eq i j then Some [] else None
  solved later (integer i) (atom b) = None
  solved later (integer i) (compound g us) = None
  solved later (atom a) (variable w) = bound w (atom a)
  solved later (atom a) (integer j) = None
  solved later (atom a) (atom b) = if bytes_eq a b then Some [] else None
  solved later (atom a) (compound g us) = None
  solved later (compound f ts) (variable w) = bound w (compound f ts)
  solved later (compound f ts) (integer j) = None
  solved later (compound f ts) (atom b) = None
  solved later (compound f ts) (compound g us) = if bytes_eq f g then all_solved later [] ts us else None

  -- lists of terms, pair by pair, under the bindings so far
  pub all_solved : (Tree → Tree → Option (List (ℕ × Tree))) → List (ℕ × Tree) → Trees → Trees → Option (List (ℕ × Tree))
  all_solved later [] none none = Some []
  all_solved later (b ∷ bs) none none = Some (b ∷ bs)
  all_solved later bs none (more u us) = None
  all_solved later bs (more t ts) none = None
  all_solved later [] (more t ts) (more u us) = option_and_then (λ new. all_solved later new ts us) (solved later t u)
  all_solved later (b ∷ bs) (more t ts) (more u us) =
      option_and_then (λ new. all_solved later ((b ∷ bs) ++ new) ts us) (later (under (b ∷ bs) t) (under (b ∷ bs) u))

-- at most so many variables are bound
abbrev pub solved_within : ℕ → Tree → Tree → Option (List (ℕ × Tree))
solved_within zero = solved (λ a b. None)
solved_within (suc n) = solved (solved_within n)

-- each binding takes a variable away, so the number of variables is enough
abbrev pub mgu : Tree → Tree → Option (List (ℕ × Tree))
mgu a b = solved_within (variable_count a + variable_count b) a b

-- what bindings make of each variable
abbrev pub as_substitution : List (ℕ × Tree) → ℕ → Tree
as_substitution bs v = under bs (variable v)

-- the most general unifier of two terms, where they unify
unfoldable pub unifier : Tree → Tree → Option (ℕ → Tree)
unifier a b = option_map as_substitution (mgu a b)

-- the function meets the relation
abbrev pub MguIsTheUnifier : Type 0
MguIsTheUnifier = (a b : Tree) → IsUnifier a b (option_map as_substitution (mgu a b))

-- what meets the relation is one
abbrev pub UnifierIsOne : Type 0
UnifierIsOne = (a b : Tree) (s r : ℕ → Tree) → IsMostGeneral s a b → IsMostGeneral r a b → s ≡ r
