-- What a row of bindings stands for, the newest first.
use Rattle.std.proofs.Common.{◌≡◌, ◌≢◌, ℕ, ◌<◌, ◌≤◌, List, [], ◌∷◌, ◌++◌, Bool, true, false, Option, Some, None, refl, sym, ap, ◌∙◌, arith}
use Rattle.std.specs.Prelude.{◌==◌, ◌↔◌, if◌then◌else◌}
use Rattle.std.proofs.lemmas.Bool.{eqb-true, eq-eqb}
use Rattle.prolog_terms.specs.Tree.{Tree, variable, integer, atom, compound}
use Rattle.prolog_terms.specs.Substitutions.{substituted}
use Rattle.term_unifier.specs.Unifier.{IsMostGeneral, only}
use Rattle.term_unifier.specs.Resolved.{resolved, lookup, IsTriangular, Solves, AreUnifiersOf, Follows, IsStanding}
use Rattle.term_unifier.proofs.Trees.{substituted-after, substituted-same, substituted-only, only_same, only_other, only-absent, variable-injective}

-- ---- lookups

module _ (b : ℕ × Tree) (bs : List (ℕ × Tree)) (x : ℕ) where
  -- x is bound here, or further on
  lookup_here : (x == b.0) ≡ true → lookup (b ∷ bs) x ≡ Some b.1
  lookup_here d = rw d refl

  lookup_further : (x == b.0) ≡ false → lookup (b ∷ bs) x ≡ lookup bs x
  lookup_further d = rw d refl

  lookup_other : lookup (b ∷ bs) x ≡ None → x ≢ b.0
  lookup_other e same = cc (sym (lookup_here (eq-eqb x b.0 same)) ∙ e)

  lookup_rest : lookup (b ∷ bs) x ≡ None → lookup bs x ≡ None
  lookup_rest e = go (x == b.0) refl
    where
      go : (c : Bool) → (x == b.0) ≡ c → lookup bs x ≡ None
      go true d = cc (sym (lookup_here d) ∙ e)
      go false d = sym (lookup_further d) ∙ e

pub lookup-Solves : (s : ℕ → Tree) (bs : List (ℕ × Tree)) (x : ℕ) (t : Tree) → Solves s bs → lookup bs x ≡ Some t → s x ≡ substituted s t
lookup-Solves s [] x t h e = cc e
lookup-Solves s (b ∷ bs) x t h e = go (x == b.0) refl (lookup-Solves s bs x t h.1)
  where
    here : b.1 ≡ t → x ≡ b.0 → s x ≡ substituted s t
    here tree same = ap s same ∙ (h.0 ∙ ap (substituted s) tree)

    go : (c : Bool) → (x == b.0) ≡ c → (lookup bs x ≡ Some t → s x ≡ substituted s t) → s x ≡ substituted s t
    go true d k = here (let f : ◌≡◌ {A = Option Tree} (Some b.1) (Some t) = sym (lookup_here b bs x d) ∙ e in cc f) (eqb-true x b.0 d)
    go false d k = k (sym (lookup_further b bs x d) ∙ e)

pub lookup-older : (bs : List (ℕ × Tree)) (x : ℕ) (t : Tree) → IsTriangular bs → lookup bs x ≡ Some t → (w : ℕ) → t ≡ variable w → w < x
lookup-older [] x t h e w is = cc e
lookup-older (b ∷ bs) x t h e w is = go (x == b.0) refl (λ f. lookup-older bs x t h.3 f w is)
  where
    here : x ≡ b.0 → w < b.0 → w < x
    here same low = omega arith

    go : (c : Bool) → (x == b.0) ≡ c → (lookup bs x ≡ Some t → w < x) → w < x
    go true d k = let f : ◌≡◌ {A = Option Tree} (Some b.1) (Some t) = sym (lookup_here b bs x d) ∙ e in let tree : b.1 ≡ t = cc f in here (eqb-true x b.0 d) (h.2 w (tree ∙ is))
    go false d k = k (sym (lookup_further b bs x d) ∙ e)

-- ---- what variables stand for

pub resolved-free : (x : ℕ) (bs : List (ℕ × Tree)) → lookup bs x ≡ None → resolved bs x ≡ variable x
resolved-free x [] h = refl
resolved-free x (b ∷ bs) h =
    ap (substituted (only b.0 (substituted (resolved bs) b.1))) (resolved-free x bs (lookup_rest b bs x h)) ∙ only_other b.0 _ x (lookup_other b bs x h)

-- a solution doesn't see the bindings
pub Solves-Follows : (s : ℕ → Tree) (bs : List (ℕ × Tree)) → Solves s bs → (v : ℕ) → substituted s (resolved bs v) ≡ s v
Solves-Follows s [] h v = refl
Solves-Follows s (b ∷ bs) h v =
    substituted-only s b.0 (substituted (resolved bs) b.1)
    (h.0 ∙ sym (substituted-after s (resolved bs) b.1 ∙ substituted-same _ s (Solves-Follows s bs h.1) b.1))
    (resolved bs v)
    ∙ Solves-Follows s bs h.1 v

pub substituted-resolved : (s : ℕ → Tree) (bs : List (ℕ × Tree)) → Solves s bs → (t : Tree) → substituted s (substituted (resolved bs) t) ≡ substituted s t
substituted-resolved s bs h t = substituted-after s (resolved bs) t ∙ substituted-same _ s (Solves-Follows s bs h) t

-- what comes after a solution leaves it one
pub Solves-after : (s r : ℕ → Tree) (bs : List (ℕ × Tree)) → Solves r bs → Solves (λ v. substituted s (r v)) bs
Solves-after s r [] h = tt
Solves-after s r (b ∷ bs) h = (ap (substituted s) h.0 ∙ substituted-after s r b.1, Solves-after s r bs h.1)

pub substituted-resolved_more : (b : ℕ × Tree) (bs : List (ℕ × Tree)) (t : Tree) → substituted (resolved (b ∷ bs)) t ≡ substituted (only b.0 (substituted (resolved bs) b.1)) (substituted (resolved bs) t)
substituted-resolved_more b bs t = sym (substituted-after (only b.0 (substituted (resolved bs) b.1)) (resolved bs) t)

-- the bindings solve themselves
pub Solves-resolved : (bs : List (ℕ × Tree)) → IsTriangular bs → Solves (resolved bs) bs
Solves-resolved [] h = tt
Solves-resolved (b ∷ bs) h = (
  ap (substituted (only b.0 (substituted (resolved bs) b.1))) (resolved-free b.0 bs h.0)
      ∙ (only_same b.0 _ ∙ (sym (only-absent b.0 _ _ h.1) ∙ sym (substituted-resolved_more b bs b.1))),
  Solves-after _ (resolved bs) bs (Solves-resolved bs h.3),
)

-- a bound variable stands for what the term does that it is bound to
pub resolved-lookup : (bs : List (ℕ × Tree)) (x : ℕ) (t : Tree) → IsTriangular bs → lookup bs x ≡ Some t → resolved bs x ≡ substituted (resolved bs) t
resolved-lookup bs x t h e = lookup-Solves (resolved bs) bs x t (Solves-resolved bs h) e

-- what follows the bindings solves them
pub Follows-Solves : (s : ℕ → Tree) (bs : List (ℕ × Tree)) → IsTriangular bs → Follows (resolved bs) s → Solves s bs
Follows-Solves s bs h k = go bs (Solves-after s (resolved bs) bs (Solves-resolved bs h))
  where
    go : (cs : List (ℕ × Tree)) → Solves (λ v. substituted s (resolved bs v)) cs → Solves s cs
    go [] q = tt
    go (c ∷ cs) q = (sym (k c.0) ∙ (q.0 ∙ substituted-same _ s k c.1), go cs q.1)

-- ---- the oldest stands for all

-- a term bound to x stands for no variable but an older one
older_term : (r : ℕ → Tree) (x : ℕ) (t : Tree) → ((w : ℕ) → t ≡ variable w → w < x) → ((v w : ℕ) → r v ≡ variable w → w ≤ v)
    → (w : ℕ) → substituted r t ≡ variable w → w < x
older_term r x (variable u) h k w e = below (h u refl) (k u w e)
  where
    below : u < x → w ≤ u → w < x
    below a b = omega arith
older_term r x (integer z) h k w e = cc e
older_term r x (atom a) h k w e = cc e
older_term r x (compound f ts) h k w e = cc e

-- where x is bound to no variable but an older one
pub oldest-only : (x : ℕ) (u : Tree) (v w : ℕ) → ((w : ℕ) → u ≡ variable w → w < x) → (t : Tree) → ((y : ℕ) → t ≡ variable y → y ≤ v)
    → substituted (only x u) t ≡ variable w → w ≤ v
oldest-only x u v w h (variable y) k e = go (y == x) refl (k y refl) e
  where
    through : y ≡ x → w < x → y ≤ v → w ≤ v
    through same lt low = omega arith

    itself : y ≡ w → y ≤ v → w ≤ v
    itself same low = omega arith

    go : (c : Bool) → (y == x) ≡ c → y ≤ v → ◌≡◌ {A = Tree} (if c then u else variable y) (variable w) → w ≤ v
    go true d low f = through (eqb-true y x d) (h w f) low
    go false d low f = itself (variable-injective f) low
oldest-only x u v w h (integer z) k e = cc e
oldest-only x u v w h (atom a) k e = cc e
oldest-only x u v w h (compound g ts) k e = cc e

pub resolved-oldest : (bs : List (ℕ × Tree)) → IsTriangular bs → (v w : ℕ) → resolved bs v ≡ variable w → w ≤ v
resolved-oldest [] h v w e = itself (variable-injective e)
  where
    itself : v ≡ w → w ≤ v
    itself same = omega arith
resolved-oldest (b ∷ bs) h v w e =
    oldest-only b.0 (substituted (resolved bs) b.1) v w
    (older_term (resolved bs) b.0 b.1 h.2 (resolved-oldest bs h.3)) (resolved bs v) (λ u f. resolved-oldest bs h.3 v u f) e

-- ---- the bindings as a unifier, and as a substitution

pub IsMostGeneral-resolved : (a b : Tree) (bs : List (ℕ × Tree)) → IsTriangular bs → AreUnifiersOf bs a b → IsMostGeneral (resolved bs) a b
IsMostGeneral-resolved a b bs h k = record {
  unifies = (k (resolved bs)).0 (Solves-resolved bs h);
  factors = λ r e v. Solves-Follows r bs ((k r).1 e) v;
  older = resolved-oldest bs h;
}

pub IsStanding-resolved : (bs : List (ℕ × Tree)) → IsTriangular bs → IsStanding (resolved bs)
IsStanding-resolved bs h = record { again = Solves-Follows (resolved bs) bs (Solves-resolved bs h); oldest = resolved-oldest bs h }

pub stand : (bs : List (ℕ × Tree)) → IsTriangular bs → IsStanding (resolved bs) × ((s : ℕ → Tree) → Follows (resolved bs) s ↔ Solves s bs)
stand bs h = (IsStanding-resolved bs h, λ s. (λ k. Follows-Solves s bs h k, λ k. Solves-Follows s bs k))

-- ---- older bindings

pub lookup-older_part : (x : ℕ) (new old : List (ℕ × Tree)) → lookup (new ++ old) x ≡ None → lookup old x ≡ None
lookup-older_part x [] old h = h
lookup-older_part x (b ∷ new) old h = lookup-older_part x new old (lookup_rest b (new ++ old) x h)

pub IsTriangular-older_part : (new old : List (ℕ × Tree)) → IsTriangular (new ++ old) → IsTriangular old
IsTriangular-older_part [] old h = h
IsTriangular-older_part (b ∷ new) old h = IsTriangular-older_part new old h.3

pub Solves-older_part : (s : ℕ → Tree) (new old : List (ℕ × Tree)) → Solves s (new ++ old) → Solves s old
Solves-older_part s [] old h = h
Solves-older_part s (b ∷ new) old h = Solves-older_part s new old h.1
