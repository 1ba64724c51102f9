-- A store of which only the substitution is known: `now` gives what each variable stands for.
use Rattle.std.proofs.Common.{◌≡◌, ℕ, ◌<◌, ◌≤◌, Bool, true, false, refl, sym, ap, ◌∙◌, arith}
use Rattle.std.specs.Prelude.{◌↔◌, if◌then◌else◌}
use Rattle.std.proofs.lemmas.Bool.{eqb-true, eq-eqb}
use Rattle.prolog_terms.specs.Tree.{Tree, variable, integer, atom, compound}
use Rattle.prolog_terms.specs.Substitutions.{substituted, occurs}
use Rattle.term_unifier.specs.Unifier.{Unifies, IsMostGeneral, only}
use Rattle.term_unifier.specs.Resolved.{Follows, IsStanding, is_variable, step_of, IsUnifiedBy}
use Rattle.term_unifier.proofs.Trees.{substituted-after, substituted-same, substituted-variable, substituted-only, only_same, only-absent, kept-same, variable-injective}
use Rattle.term_unifier.proofs.Triangular.{oldest-only}

at_most : {v w : ℕ} → v ≡ w → w ≤ v
at_most e = omega arith

pub substituted-Follows : (now s : ℕ → Tree) → Follows now s → (t : Tree) → substituted s (substituted now t) ≡ substituted s t
substituted-Follows now s h t = substituted-after s now t ∙ substituted-same _ s h t

pub Follows-after : (now s r : ℕ → Tree) → Follows now r → Follows now (λ v. substituted s (r v))
Follows-after now s r h v = sym (substituted-after s r (now v)) ∙ ap (substituted s) (h v)

-- no bindings
pub IsStanding-variable : IsStanding variable
IsStanding-variable = record { again = λ v. refl; oldest = λ v w e. at_most (variable-injective e) }

-- one more binding, of x to u
abbrev pub bound_further : (ℕ → Tree) → ℕ → Tree → ℕ → Tree
bound_further now x u v = substituted (only x u) (now v)

module _ (now : ℕ → Tree) (x : ℕ) (u : Tree) (h : IsStanding now) (free : now x ≡ variable x) (stands : substituted now u ≡ u) where
  -- the solutions are those that make x and u equal
  pub Follows-bound : (s : ℕ → Tree) → Follows now s → s x ≡ substituted s u → Follows (bound_further now x u) s
  Follows-bound s k e v = substituted-only s x u e (now v) ∙ k v

  pub Follows-before : (s : ℕ → Tree) → Follows (bound_further now x u) s → Follows now s
  Follows-before s k v =
      -- s goes through the new substitution, and that one follows the old one
      sym (substituted-Follows (bound_further now x u) s k (now v))
      ∙ (ap (substituted s) (sym (substituted-after (only x u) now (now v)) ∙ ap (substituted (only x u)) (h.again v)) ∙ k v)

  pub Follows-equal : (s : ℕ → Tree) → Follows (bound_further now x u) s → s x ≡ substituted s u
  Follows-equal s k = sym (k x) ∙ ap (substituted s) (ap (substituted (only x u)) free ∙ only_same x u)

  pub IsStanding-bound : occurs x u ≡ false → ((w : ℕ) → u ≡ variable w → w < x) → IsStanding (bound_further now x u)
  IsStanding-bound absent older = record {
    again = Follows-bound (bound_further now x u)
        (λ v. sym (substituted-after (only x u) now (now v)) ∙ ap (substituted (only x u)) (h.again v))
        (ap (substituted (only x u)) free ∙ (only_same x u
        ∙ sym (sym (substituted-after (only x u) now u) ∙ (ap (substituted (only x u)) stands ∙ only-absent x u u absent))));
    oldest = λ v w e. oldest-only x u v w older (now v) (h.oldest v) e;
  }

-- where a later store leaves a variable free, it was free before
pub free-before : (old new : ℕ → Tree) → IsStanding old → IsStanding new → Follows old new → (y : ℕ) → new y ≡ variable y → old y ≡ variable y
free-before old new h k f y e = go (old y) (f y ∙ e) (h.oldest y) refl
  where
    same : {m n : ℕ} → m ≤ n → n ≤ m → m ≡ n
    same a b = omega arith

    go : (t : Tree) → substituted new t ≡ variable y → ((w : ℕ) → t ≡ variable w → w ≤ y) → old y ≡ t → old y ≡ variable y
    go (variable z) is low q = q ∙ ap variable (same (low z refl) (k.oldest z y is))
    go (integer z) is low q = cc is
    go (atom a) is low q = cc is
    go (compound g ts) is low q = cc is

pub is_variable-true : (v : ℕ) (t : Tree) → is_variable v t ≡ true → t ≡ variable v
is_variable-true v (variable w) e = ap variable (eqb-true w v e)
is_variable-true v (integer z) e = cc e
is_variable-true v (atom a) e = cc e
is_variable-true v (compound f ts) e = cc e

step_of-free : (old new : ℕ → Tree) (v : ℕ) → old v ≡ variable v → step_of old new v ≡ new v
step_of-free old new v e = rw (ap (is_variable v) e ∙ eq-eqb v v refl) refl

module _ (old new : ℕ → Tree) (a b : Tree) (h : IsStanding old) (k : IsStanding new)
    (same : (s : ℕ → Tree) → Follows new s ↔ (Follows old s × Unifies s a b)) where
  new-old : Follows old new
  new-old = ((same new).0 k.again).0

  step_of-new : (t : Tree) → substituted (step_of old new) (substituted old t) ≡ substituted new t
  step_of-new t =
      kept-same old (step_of old new) new (step_of-free old new) (substituted old t) (substituted-Follows old old h.again t)
      ∙ substituted-Follows old new new-old t

  -- the new substitution stands where the old one goes after it
  old-new : (v : ℕ) → substituted old (new v) ≡ new v
  old-new v =
      kept-same new old variable (λ y e. free-before old new h k new-old y e) (new v) (k.again v) ∙ substituted-variable (new v)

  step_general : (s : ℕ → Tree) → substituted s (substituted old a) ≡ substituted s (substituted old b) → (v : ℕ) (c : Bool) → is_variable v (old v) ≡ c
      → substituted s (if c then new v else variable v) ≡ s v
  step_general s e v true q =
      ap (substituted s) (sym (old-new v)) ∙ (substituted-after s old (new v)
      ∙ ((same (λ w. substituted s (old w))).1 (Follows-after old s old h.again, sym (substituted-after s old a) ∙ (e ∙ substituted-after s old b)) v
      ∙ ap (substituted s) (is_variable-true v (old v) q)))
  step_general s e v false q = refl

  step_oldest : (v w : ℕ) (c : Bool) → ◌≡◌ {A = Tree} (if c then new v else variable v) (variable w) → w ≤ v
  step_oldest v w true e = k.oldest v w e
  step_oldest v w false e = at_most (variable-injective e)

  -- a store with the solutions of one more equation is the most general unifier of what the two terms stood for after the old store
  pub IsMostGeneral-step : IsMostGeneral (step_of old new) (substituted old a) (substituted old b)
  IsMostGeneral-step = record {
    unifies = step_of-new a ∙ (((same new).0 k.again).1 ∙ sym (step_of-new b));
    factors = λ s e v. step_general s e v (is_variable v (old v)) refl;
    older = λ v w e. step_oldest v w (is_variable v (old v)) e;
  }

  pub IsUnifiedBy-step : IsUnifiedBy old new a b
  IsUnifiedBy-step = record { unifier = IsMostGeneral-step; after = λ v. sym (new-old_at v) }
    where
      new-old_at : (v : ℕ) → substituted (step_of old new) (old v) ≡ new v
      new-old_at v = step_of-new (variable v)
