-- What a row of bindings stands for.
use Rattle.std.proofs.Common.{◌≡◌, ℕ, ◌<◌, ◌≤◌, List, [], ◌∷◌, ◌++◌, Bool, true, false, cond, nat_eq, refl, sym, ap, ◌∙◌, arith}
use Rattle.prolog_terms.specs.Tree.{Tree, variable, integer, atom, compound}
use Rattle.prolog_terms.specs.Substitutions.{substituted}
use Rattle.term_unifier.specs.Unifier.{only, IsMostGeneral}
use Rattle.term_store.specs.Terms.{resolved}
use Rattle.term_store.specs.Work.{IsUnbound, IsSolved, Solves}
use Rattle.term_store.proofs.Trees.{substituted-substituted, substituted-same, substituted-variable, bind_same, bind_other, substituted-only, only-absent}

pub resolved_unbound : (x : ℕ) (bs : List (ℕ × Tree)) → IsUnbound x bs → resolved bs x ≡ variable x
resolved_unbound x [] h = refl
resolved_unbound x (b ∷ bs) h =
    ap (substituted (only b.0 (substituted (resolved bs) b.1))) (resolved_unbound x bs h.1) ∙ bind_other b.0 _ x h.0

-- a solution does not see the bindings
pub resolved_solved : (s : ℕ → Tree) (bs : List (ℕ × Tree)) → Solves s bs → (v : ℕ) → substituted s (resolved bs v) ≡ s v
resolved_solved s [] h v = refl
resolved_solved s (b ∷ bs) h v =
    substituted-only s b.0 (substituted (resolved bs) b.1)
    (h.0 ∙ sym (substituted-substituted s (resolved bs) b.1 ∙ substituted-same _ s (λ w. resolved_solved s bs h.1 w) b.1))
    (resolved bs v) ∙ resolved_solved s bs h.1 v

pub substituted-resolved : (s : ℕ → Tree) (bs : List (ℕ × Tree)) → Solves s bs → (t : Tree) → substituted s (substituted (resolved bs) t) ≡ substituted s t
substituted-resolved s bs h t = substituted-substituted s (resolved bs) t ∙ substituted-same _ s (resolved_solved s bs h) t

-- what comes after a solution leaves it one
pub Solves-after : (s r : ℕ → Tree) (bs : List (ℕ × Tree)) → Solves r bs → Solves (λ v. substituted s (r v)) bs
Solves-after s r [] h = tt
Solves-after s r (b ∷ bs) h = (ap (substituted s) h.0 ∙ substituted-substituted s r b.1, Solves-after s r bs h.1)

pub substituted-resolved-more : (b : ℕ × Tree) (bs : List (ℕ × Tree)) (t : Tree) → substituted (resolved (b ∷ bs)) t ≡ substituted (only b.0 (substituted (resolved bs) b.1)) (substituted (resolved bs) t)
substituted-resolved-more b bs t = sym (substituted-substituted (only b.0 (substituted (resolved bs) b.1)) (resolved bs) t)

-- the bindings solve themselves
pub Solves-resolved : (bs : List (ℕ × Tree)) → IsSolved bs → Solves (resolved bs) bs
Solves-resolved [] h = tt
Solves-resolved (b ∷ bs) h = (
  ap (substituted (only b.0 (substituted (resolved bs) b.1))) (resolved_unbound b.0 bs h.0)
      ∙ bind_same b.0 _ ∙ sym (only-absent b.0 _ _ h.1) ∙ sym (substituted-resolved-more b bs b.1),
  Solves-after _ (resolved bs) bs (Solves-resolved bs h.3),
)

-- a term bound to x stands for no variable but an older one
older : (r : ℕ → Tree) (x : ℕ) (t : Tree) → ((w : ℕ) → t ≡ variable w → w < x) → ((v w : ℕ) → r v ≡ variable w → w ≤ v)
    → (w : ℕ) → substituted r t ≡ variable w → w < x
older r x (variable u) h k w e = let low : u < x = h u refl in let high : w ≤ u = k u w e in omega arith
older r x (integer z) h k w e = cc
older r x (atom c) h k w e = cc
older r x (compound f ts) h k w e = cc

-- where x is bound to no variable but an older one
oldest_bind : (x : ℕ) (u : Tree) (v w : ℕ) → ((w : ℕ) → u ≡ variable w → w < x) → (t : Tree) → ((y : ℕ) → t ≡ variable y → y ≤ v)
    → substituted (only x u) t ≡ variable w → w ≤ v
oldest_bind x u v w h (variable y) k e = go (nat_eq y x) refl (k y refl) e
  where
    go : (c : Bool) → nat_eq y x ≡ c → y ≤ v → cond c u (variable y) ≡ variable w → w ≤ v
    go true t low f = let same : y ≡ x = grind arith in let lt : w < x = h w f in omega arith
    go false t low f = let same : y ≡ w = cc in omega arith
oldest_bind x u v w h (integer z) k e = cc
oldest_bind x u v w h (atom c) k e = cc
oldest_bind x u v w h (compound g ts) k e = cc

pub resolved_oldest : (bs : List (ℕ × Tree)) → IsSolved bs → (v w : ℕ) → resolved bs v ≡ variable w → w ≤ v
resolved_oldest [] h v w e = let same : v ≡ w = cc e in omega arith
resolved_oldest (b ∷ bs) h v w e = oldest_bind b.0 (substituted (resolved bs) b.1) v w
    (older (resolved bs) b.0 b.1 h.2 (λ v w. resolved_oldest bs h.3 v w)) (resolved bs v) (λ u f. resolved_oldest bs h.3 v u f) e

-- bindings with the solutions of one equation are its unifier
pub IsMostGeneral-resolved : (a b : Tree) (bs : List (ℕ × Tree)) → IsSolved bs
    → ((s : ℕ → Tree) → Solves s bs → substituted s a ≡ substituted s b)
    → ((s : ℕ → Tree) → substituted s a ≡ substituted s b → Solves s bs)
    → IsMostGeneral (resolved bs) a b
IsMostGeneral-resolved a b bs h sound complete = record {
  unifies = sound (resolved bs) (Solves-resolved bs h);
  factors = λ s e v. resolved_solved s bs (complete s e) v;
  older = resolved_oldest bs h;
}

-- the newer bindings alone, over what the older ones have resolved
abbrev pub added : List (ℕ × Tree) → List (ℕ × Tree) → ℕ → Tree
added [] old v = variable v
added (b ∷ new) old v = substituted (only b.0 (substituted (resolved (new ++ old)) b.1)) (added new old v)

pub resolved-append : (new old : List (ℕ × Tree)) (v : ℕ) → resolved (new ++ old) v ≡ substituted (added new old) (resolved old v)
resolved-append [] old v = sym (substituted-variable (resolved old v))
resolved-append (b ∷ new) old v =
    ap (substituted (only b.0 (substituted (resolved (new ++ old)) b.1))) (resolved-append new old v)
    ∙ substituted-substituted _ (added new old) (resolved old v)

pub substituted-resolved-append : (new old : List (ℕ × Tree)) (t : Tree) → substituted (resolved (new ++ old)) t ≡ substituted (added new old) (substituted (resolved old) t)
substituted-resolved-append new old t = substituted-same _ _ (resolved-append new old) t ∙ sym (substituted-substituted (added new old) (resolved old) t)

pub IsUnbound-older : (x : ℕ) (new old : List (ℕ × Tree)) → IsUnbound x (new ++ old) → IsUnbound x old
IsUnbound-older x [] old h = h
IsUnbound-older x (b ∷ new) old h = IsUnbound-older x new old h.1

pub IsSolved-older : (new old : List (ℕ × Tree)) → IsSolved (new ++ old) → IsSolved old
IsSolved-older [] old h = h
IsSolved-older (b ∷ new) old h = IsSolved-older new old h.3

pub Solves-older : (s : ℕ → Tree) (new old : List (ℕ × Tree)) → Solves s (new ++ old) → Solves s old
Solves-older s [] old h = h
Solves-older s (b ∷ new) old h = Solves-older s new old h.1

-- a unifier of the resolved terms does not see what was added
pub added_solved : (s : ℕ → Tree) (new old : List (ℕ × Tree)) → IsSolved (new ++ old)
    → Solves (λ v. substituted s (resolved old v)) (new ++ old) → (v : ℕ) → substituted s (added new old v) ≡ s v
added_solved s [] old h k v = refl
added_solved s (b ∷ new) old h k v =
    substituted-only s b.0 (substituted (resolved (new ++ old)) b.1)
    (ap (substituted s) (sym (resolved_unbound b.0 old (IsUnbound-older b.0 new old h.0))) ∙ k.0 ∙ sym (substituted-substituted s (resolved old) b.1)
    ∙ sym (ap (substituted s) (substituted-resolved-append new old b.1) ∙ substituted-substituted s (added new old) (substituted (resolved old) b.1)
    ∙ substituted-same _ s (λ w. added_solved s new old h.3 k.1 w) (substituted (resolved old) b.1)))
    (added new old v) ∙ added_solved s new old h.3 k.1 v

pub added_oldest : (new old : List (ℕ × Tree)) → IsSolved (new ++ old) → (v w : ℕ) → added new old v ≡ variable w → w ≤ v
added_oldest [] old h v w e = let same : v ≡ w = cc e in omega arith
added_oldest (b ∷ new) old h v w e = oldest_bind b.0 (substituted (resolved (new ++ old)) b.1) v w
    (older (resolved (new ++ old)) b.0 b.1 h.2 (resolved_oldest (new ++ old) h.3)) (added new old v) (λ u f. added_oldest new old h.3 v u f) e

-- what is added to bindings by one more equation is the unifier of the two resolved terms
pub IsMostGeneral-added : (a b : Tree) (new old : List (ℕ × Tree)) → IsSolved (new ++ old)
    → ((s : ℕ → Tree) → Solves s (new ++ old) → substituted s a ≡ substituted s b)
    → ((s : ℕ → Tree) → Solves s old → substituted s a ≡ substituted s b → Solves s (new ++ old))
    → IsMostGeneral (added new old) (substituted (resolved old) a) (substituted (resolved old) b)
IsMostGeneral-added a b new old h sound complete = record {
  unifies = sym (substituted-resolved-append new old a) ∙ sound (resolved (new ++ old)) (Solves-resolved (new ++ old) h) ∙ substituted-resolved-append new old b;
  factors = λ s e v. added_solved s new old h
      (complete (λ w. substituted s (resolved old w)) (Solves-after s (resolved old) old (Solves-resolved old (IsSolved-older new old h)))
      (sym (substituted-substituted s (resolved old) a) ∙ e ∙ substituted-substituted s (resolved old) b)) v;
  older = added_oldest new old h;
}
