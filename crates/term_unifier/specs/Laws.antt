-- Laws of the most general unifier, case by case of the two terms.
use Rattle.std.specs.Prelude.{◌≡◌, ◌≢◌, ◌↔◌, ℕ, ℤ, ◌<◌, true, false, List, Option, Some, None, option_map, option_and_then}
use Rattle.prolog_terms.specs.Tree.{Tree, Trees, variable, integer, atom, compound, none, more, count}
use Rattle.prolog_terms.specs.Faults.{two}
use Rattle.prolog_terms.specs.Substitutions.{substituted, occurs}
use Rattle.term_unifier.specs.Unifier.{Unifies, IsUnifier, only, unifier}

-- `unifier` answers the most general unifier, and none exactly where there is no unifier
abbrev pub UnifierIsMostGeneral : Type 0
UnifierIsMostGeneral = (a b : Tree) → IsUnifier a b (unifier a b)

-- ---- decomposition

-- the lists are equally long, and the substitution unifies their terms pair by pair
abbrev pub UnifiesEach : (ℕ → Tree) → Trees → Trees → Type 0
UnifiesEach s none none = Unit {0}
UnifiesEach s none (more u us) = ⊥
UnifiesEach s (more t ts) none = ⊥
UnifiesEach s (more t ts) (more u us) = Unifies s t u × UnifiesEach s ts us

-- compounds of one name have the unifiers of their arguments
abbrev pub Decomposition : Type 0
Decomposition = (f : List ℕ) (ts us : Trees) (s : ℕ → Tree) → Unifies s (compound f ts) (compound f us) ↔ UnifiesEach s ts us

-- two pairs are made one as the first pair is, and then what the second pair stands for by that
abbrev pub InTurn : Type 0
InTurn = (f : List ℕ) (a b c d : Tree)
    → unifier (two f a c) (two f b d) ≡ option_and_then (λ m. option_map (λ n v. substituted n (m v)) (unifier (substituted m c) (substituted m d))) (unifier a b)

-- pairs of terms that have the same unifiers have the same most general one
abbrev pub SameUnifiers : Type 0
SameUnifiers = (a b c d : Tree) → ((s : ℕ → Tree) → Unifies s a b ↔ Unifies s c d) → unifier a b ≡ unifier c d

-- ---- elimination

abbrev pub IsNoVariable : Tree → Type 0
IsNoVariable t = (v : ℕ) → t ≢ variable v

-- a variable and a term that it doesn't occur in, itself no variable: the variable alone is bound, to the term
abbrev pub Elimination : Type 0
Elimination = (v : ℕ) (t : Tree) → IsNoVariable t → occurs v t ≡ false → unifier (variable v) t ≡ Some (only v t)

-- of two variables the younger alone is bound, to the older
abbrev pub YoungerToOlder : Type 0
YoungerToOlder = (v w : ℕ) → v < w → unifier (variable v) (variable w) ≡ Some (only w (variable v))

-- a term and itself: nothing is bound
abbrev pub Identity : Type 0
Identity = (t : Tree) → unifier t t ≡ Some variable

-- ---- no unifier

-- a variable and a term that it occurs in, other than itself
abbrev pub OccursCheck : Type 0
OccursCheck = (v : ℕ) (t : Tree) → occurs v t ≡ true → t ≢ variable v → unifier (variable v) t ≡ None

-- what no substitution changes of a term that is no variable: an integer, an atom, or a compound's name and number of arguments
pub data Symbol : Type 0 where
  integer_symbol : ℤ → Symbol
  atom_symbol : List ℕ → Symbol
  functor_symbol : List ℕ → ℕ → Symbol

abbrev pub symbol : Tree → Option Symbol
symbol (variable v) = None
symbol (integer z) = Some (integer_symbol z)
symbol (atom a) = Some (atom_symbol a)
symbol (compound f ts) = Some (functor_symbol f (count ts))

-- different kinds, integers, atoms, names or numbers of arguments
abbrev pub Clash : Type 0
Clash = (a b : Tree) (x y : Symbol) → symbol a ≡ Some x → symbol b ≡ Some y → x ≢ y → unifier a b ≡ None

-- ---- of any two terms

-- which comes first doesn't matter
abbrev pub Symmetry : Type 0
Symmetry = (a b : Tree) → unifier a b ≡ unifier b a

-- a second time it changes nothing
abbrev pub Idempotence : Type 0
Idempotence = (a b : Tree) (s : ℕ → Tree) → unifier a b ≡ Some s → (v : ℕ) → substituted s (s v) ≡ s v
