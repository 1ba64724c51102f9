-- Bindings as a store keeps them: the newest first, each to a term whose variables the older ones may bind.
use Rattle.std.specs.Prelude.{◌≡◌, ◌↔◌, ℕ, ◌==◌, ◌<◌, ◌≤◌, Bool, false, List, [], ◌∷◌, Option, Some, None, if◌then◌else◌}
use Rattle.prolog_terms.specs.Tree.{Tree, variable, integer, atom, compound}
use Rattle.prolog_terms.specs.Substitutions.{substituted, occurs}
use Rattle.term_unifier.specs.Unifier.{Unifies, IsMostGeneral, only}

-- what bindings make of each variable
abbrev pub resolved : List (ℕ × Tree) → ℕ → Tree
resolved [] v = variable v
resolved (b ∷ bs) v = substituted (only b.0 (substituted (resolved bs) b.1)) (resolved bs v)

-- what the variable is bound to
abbrev pub lookup : List (ℕ × Tree) → ℕ → Option Tree
lookup [] x = None
lookup (b ∷ bs) x = if x == b.0 then Some b.1 else lookup bs x

-- each binding is of a variable that the older bindings leave free, to a term in which it does not stand, and of two
-- variables of the younger
abbrev pub IsTriangular : List (ℕ × Tree) → Type 0
IsTriangular [] = Unit {0}
IsTriangular (b ∷ bs) =
    (lookup bs b.0 ≡ None)
    × (occurs b.0 (substituted (resolved bs) b.1) ≡ false)
    × ((w : ℕ) → b.1 ≡ variable w → w < b.0) × IsTriangular bs

-- the substitution makes each variable equal to what it is bound to
abbrev pub Solves : (ℕ → Tree) → List (ℕ × Tree) → Type 0
Solves s [] = Unit {0}
Solves s (b ∷ bs) = (s b.0 ≡ substituted s b.1) × Solves s bs

-- the bindings' solutions are the unifiers of the two terms
abbrev pub AreUnifiersOf : List (ℕ × Tree) → Tree → Tree → Type 0
AreUnifiersOf bs a b = (s : ℕ → Tree) → Solves s bs ↔ Unifies s a b

-- bindings whose solutions are the unifiers of two terms are their most general unifier
abbrev pub BindingsUnify : Type 0
BindingsUnify = (a b : Tree) (bs : List (ℕ × Tree)) → IsTriangular bs → AreUnifiersOf bs a b → IsMostGeneral (resolved bs) a b

-- ---- a substitution in place of the bindings

-- s makes each variable equal to what it stands for
abbrev pub Follows : (ℕ → Tree) → (ℕ → Tree) → Type 0
Follows now s = (v : ℕ) → substituted s (now v) ≡ s v

-- it changes nothing a second time, and of variables that stand for one another the oldest stands for all
pub record IsStanding (now : ℕ → Tree) : Type 0 where
  pub again : (v : ℕ) → substituted now (now v) ≡ now v
  pub oldest : (v w : ℕ) → now v ≡ variable w → w ≤ v

-- what a later substitution adds to an older one: it binds what the older one leaves free
abbrev pub is_variable : ℕ → Tree → Bool
is_variable v (variable w) = w == v
is_variable v (integer z) = false
is_variable v (atom a) = false
is_variable v (compound f ts) = false

abbrev pub step_of : (ℕ → Tree) → (ℕ → Tree) → ℕ → Tree
step_of old new v = if is_variable v (old v) then new v else variable v

-- a later substitution whose solutions are those of the older one that also unify two terms: the older one, and then the
-- most general unifier of what the two terms stood for
pub record IsUnifiedBy (old new : ℕ → Tree) (a b : Tree) : Type 0 where
  pub unifier : IsMostGeneral (step_of old new) (substituted old a) (substituted old b)
  pub after : (v : ℕ) → new v ≡ substituted (step_of old new) (old v)

abbrev pub StepUnifies : Type 0
StepUnifies = (old new : ℕ → Tree) (a b : Tree) → IsStanding old → IsStanding new
    → ((s : ℕ → Tree) → Follows new s ↔ (Follows old s × Unifies s a b))
    → IsUnifiedBy old new a b

-- bindings as such a substitution
abbrev pub BindingsStand : Type 0
BindingsStand = (bs : List (ℕ × Tree)) → IsTriangular bs → IsStanding (resolved bs) × ((s : ℕ → Tree) → Follows (resolved bs) s ↔ Solves s bs)
