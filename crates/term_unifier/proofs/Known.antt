-- What is known to be the most general unifier by the relation alone is what the function computes.
use Rattle.std.proofs.Common.{◌≡◌, ℕ, List, refl, sym, ap, subst}
use Rattle.std.specs.Prelude.{Option, Some, None, option_map, ◌↔◌}
use Rattle.prolog_terms.specs.Tree.{Tree}
use Rattle.term_unifier.specs.Unifier.{Unifies, IsMostGeneral, IsUnifier, as_substitution, mgu, unifier}
use Rattle.term_unifier.proofs.Solved.{mgu-IsMostGeneral}
use Rattle.term_unifier.proofs.Complete.{mgu-None}
use Rattle.term_unifier.proofs.Unique.{mgu-one_function}

pub mgu-IsUnifier : (a b : Tree) → IsUnifier a b (option_map as_substitution (mgu a b))
mgu-IsUnifier a b = go (mgu a b) refl
  where
    go : (o : Option (List (ℕ × Tree))) → mgu a b ≡ o → IsUnifier a b (option_map as_substitution o)
    go (Some bs) e = mgu-IsMostGeneral a b bs e
    go None e = mgu-None a b e

pub unifier-IsUnifier : (a b : Tree) → IsUnifier a b (unifier a b)
unfolding unifier
unifier-IsUnifier a b = mgu-IsUnifier a b

-- the relation has one answer
pub IsUnifier-one : (a b : Tree) (o p : Option (ℕ → Tree)) → IsUnifier a b o → IsUnifier a b p → o ≡ p
IsUnifier-one a b (Some s) (Some r) h k = ap Some (mgu-one_function a b s r h k)
IsUnifier-one a b (Some s) None h k = absurd (k s h.unifies)
IsUnifier-one a b None (Some r) h k = absurd (h r k.unifies)
IsUnifier-one a b None None h k = refl

pub known : (a b : Tree) (o : Option (ℕ → Tree)) → IsUnifier a b o → unifier a b ≡ o
known a b o h = IsUnifier-one a b (unifier a b) o (unifier-IsUnifier a b) h

pub known-some : (a b : Tree) (s : ℕ → Tree) → IsMostGeneral s a b → unifier a b ≡ Some s
known-some a b s h = known a b (Some s) h

pub known-none : (a b : Tree) → ((r : ℕ → Tree) → ¬ Unifies r a b) → unifier a b ≡ None
known-none a b h = known a b None h

-- and back
pub some-IsMostGeneral : (a b : Tree) (s : ℕ → Tree) → unifier a b ≡ Some s → IsMostGeneral s a b
some-IsMostGeneral a b s e = subst (IsUnifier a b) e (unifier-IsUnifier a b)

pub none-Unifies : (a b : Tree) → unifier a b ≡ None → (r : ℕ → Tree) → ¬ Unifies r a b
none-Unifies a b e = subst (IsUnifier a b) e (unifier-IsUnifier a b)

-- the same unifiers, the same most general one
same_unifiers : (a b c d : Tree) → ((s : ℕ → Tree) → Unifies s a b ↔ Unifies s c d) → (o : Option (ℕ → Tree)) → IsUnifier a b o → IsUnifier c d o
same_unifiers a b c d e (Some s) h = record { unifies = (e s).0 h.unifies; factors = λ r k. h.factors r ((e r).1 k); older = h.older }
same_unifiers a b c d e None h = λ r k. h r ((e r).1 k)

pub unifier-same : (a b c d : Tree) → ((s : ℕ → Tree) → Unifies s a b ↔ Unifies s c d) → unifier a b ≡ unifier c d
unifier-same a b c d e = sym (known c d (unifier a b) (same_unifiers a b c d e (unifier a b) (unifier-IsUnifier a b)))
