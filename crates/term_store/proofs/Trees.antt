-- Laws of substitutions.
use Rattle.std.proofs.Common.{◌≡◌, ◌≢◌, ℕ, ◌≤◌, List, Bool, true, false, cond, nat_eq, inl, inr, refl, sym, ap, ap₂, ◌∙◌, arith, subst}
use Rattle.std.specs.Prelude.{◌||◌, ◌⊎◌, IsTrue}
use Rattle.std.proofs.lemmas.Bool.{eqb-true, eq-eqb}
use Rattle.prolog_terms.specs.Tree.{Tree, Trees, variable, integer, atom, compound, none, more}
use Rattle.prolog_terms.specs.Substitutions.{substituted, all_substituted, occurs, occurs_in_some}
use Rattle.term_unifier.specs.Unifier.{only}
use Rattle.term_store.specs.Work.{Occurs, OccursIn, size, size_all}

-- one substitution after another
mutual
  pub substituted-substituted : (s r : ℕ → Tree) (t : Tree) → substituted s (substituted r t) ≡ substituted (λ v. substituted s (r v)) t
  substituted-substituted s r (variable v) = refl
  substituted-substituted s r (integer z) = refl
  substituted-substituted s r (atom c) = refl
  substituted-substituted s r (compound f ts) = ap (compound f) (all_substituted-all_substituted s r ts)

  pub all_substituted-all_substituted : (s r : ℕ → Tree) (ts : Trees) → all_substituted s (all_substituted r ts) ≡ all_substituted (λ v. substituted s (r v)) ts
  all_substituted-all_substituted s r none = refl
  all_substituted-all_substituted s r (more t ts) = ap₂ more (substituted-substituted s r t) (all_substituted-all_substituted s r ts)

-- substitutions that agree everywhere
mutual
  pub substituted-same : (s r : ℕ → Tree) → ((v : ℕ) → s v ≡ r v) → (t : Tree) → substituted s t ≡ substituted r t
  substituted-same s r e (variable v) = e v
  substituted-same s r e (integer z) = refl
  substituted-same s r e (atom c) = refl
  substituted-same s r e (compound f ts) = ap (compound f) (all_substituted-same s r e ts)

  pub all_substituted-same : (s r : ℕ → Tree) → ((v : ℕ) → s v ≡ r v) → (ts : Trees) → all_substituted s ts ≡ all_substituted r ts
  all_substituted-same s r e none = refl
  all_substituted-same s r e (more t ts) = ap₂ more (substituted-same s r e t) (all_substituted-same s r e ts)

mutual
  pub substituted-variable : (t : Tree) → substituted variable t ≡ t
  substituted-variable (variable v) = refl
  substituted-variable (integer z) = refl
  substituted-variable (atom c) = refl
  substituted-variable (compound f ts) = ap (compound f) (all_substituted-variable ts)

  pub all_substituted-variable : (ts : Trees) → all_substituted variable ts ≡ ts
  all_substituted-variable none = refl
  all_substituted-variable (more t ts) = ap₂ more (substituted-variable t) (all_substituted-variable ts)

-- the variable itself, and any other
pub bind_same : (x : ℕ) (t : Tree) → only x t x ≡ t
bind_same x t = grind arith

pub bind_other : (x : ℕ) (t : Tree) (v : ℕ) → v ≢ x → only x t v ≡ variable v
bind_other x t v ne = grind arith

-- a solution of x = t does not see the binding of x to t
pub other-only : (s : ℕ → Tree) (x : ℕ) (t : Tree) → s x ≡ substituted s t → (v : ℕ) → substituted s (only x t v) ≡ s v
other-only s x t e v = go (nat_eq v x) refl
  where
    go : (b : Bool) → nat_eq v x ≡ b → substituted s (cond b t (variable v)) ≡ s v
    go true h = let same : v ≡ x = grind arith in sym e ∙ ap s (sym same)
    go false h = refl

pub substituted-only : (s : ℕ → Tree) (x : ℕ) (t : Tree) → s x ≡ substituted s t → (u : Tree) → substituted s (substituted (only x t) u) ≡ substituted s u
substituted-only s x t e u = substituted-substituted s (only x t) u ∙ substituted-same (λ v. substituted s (only x t v)) s (other-only s x t e) u

-- where x does not stand, its binding changes nothing
mutual
  pub only-absent : (x : ℕ) (u : Tree) (t : Tree) → (Occurs x t → ⊥) → substituted (only x u) t ≡ t
  only-absent x u (variable v) h = bind_other x u v (λ e. h (sym e))
  only-absent x u (integer z) h = refl
  only-absent x u (atom c) h = refl
  only-absent x u (compound f ts) h = ap (compound f) (bind_all-absent x u ts h)

  pub bind_all-absent : (x : ℕ) (u : Tree) (ts : Trees) → (OccursIn x ts → ⊥) → all_substituted (only x u) ts ≡ ts
  bind_all-absent x u none h = refl
  bind_all-absent x u (more t ts) h =
      ap₂ more (only-absent x u t (λ o. h (inl o))) (bind_all-absent x u ts (λ o. h (inr o)))

-- a tree is at least as large as what stands in it
mutual
  pub size-occurs : (s : ℕ → Tree) (x : ℕ) (t : Tree) → Occurs x t → size (s x) ≤ size (substituted s t)
  size-occurs s x (variable v) o = subst (λ (w : ℕ). size (s x) ≤ size (s w)) o (omega arith)
  size-occurs s x (integer z) o = absurd o
  size-occurs s x (atom c) o = absurd o
  size-occurs s x (compound f ts) o = let h = size_all-occurs s x ts o in omega (arith, h)

  pub size_all-occurs : (s : ℕ → Tree) (x : ℕ) (ts : Trees) → OccursIn x ts → size (s x) ≤ size_all (all_substituted s ts)
  size_all-occurs s x none o = absurd o
  size_all-occurs s x (more t ts) o =
      elim o [
        | inl p ↦ let h = size-occurs s x t p in omega (arith, h)
        | inr p ↦ let h = size_all-occurs s x ts p in omega (arith, h)
      ]

-- the occurs check: no finite tree solves x = f(.. x ..)
pub no_cycle : (s : ℕ → Tree) (x : ℕ) (f : List ℕ) (ts : Trees) → OccursIn x ts → s x ≡ substituted s (compound f ts) → ⊥
no_cycle s x f ts o e = let h = size_all-occurs s x ts o in let k = ap size e in omega (arith, h, k)

-- decomposition and clash
pub same_name : (f g : List ℕ) (ts us : Trees) → compound f ts ≡ compound g us → f ≡ g
same_name f g ts us e = cc e

pub same_trees : (f g : List ℕ) (ts us : Trees) → compound f ts ≡ compound g us → ts ≡ us
same_trees f g ts us e = cc e

pub same_first : (t u : Tree) (ts us : Trees) → more t ts ≡ more u us → t ≡ u
same_first t u ts us e = cc e

pub same_rest : (t u : Tree) (ts us : Trees) → more t ts ≡ more u us → ts ≡ us
same_rest t u ts us e = cc e

pub none_not_some : (u : Tree) (us : Trees) → none ≡ more u us → ⊥
none_not_some u us e = cc e

-- a variable of the tree is at most as large
mutual
  pub size_pos : (t : Tree) → 1 ≤ size t
  size_pos (variable v) = omega arith
  size_pos (integer z) = omega arith
  size_pos (atom c) = omega arith
  size_pos (compound f ts) = omega arith

-- ---- the test is the relation

mutual
  pub Occurs-test : (x : ℕ) (t : Tree) → IsTrue (occurs x t) → Occurs x t
  Occurs-test x (variable v) h = eqb-true x v h
  Occurs-test x (integer z) h = cc h
  Occurs-test x (atom a) h = cc h
  Occurs-test x (compound f ts) h = OccursIn-test x ts h

  pub OccursIn-test : (x : ℕ) (ts : Trees) → IsTrue (occurs_in_some x ts) → OccursIn x ts
  OccursIn-test x none h = cc h
  OccursIn-test x (more t ts) h = go (occurs x t) refl h (Occurs-test x t) (OccursIn-test x ts)
    where
      go : (b : Bool) → occurs x t ≡ b → IsTrue (b || occurs_in_some x ts) → (IsTrue (occurs x t) → Occurs x t) → (IsTrue (occurs_in_some x ts) → OccursIn x ts) → Occurs x t ⊎ OccursIn x ts
      go true e k f g = inl (f e)
      go false e k f g = inr (g k)

mutual
  pub test-Occurs : (x : ℕ) (t : Tree) → Occurs x t → IsTrue (occurs x t)
  test-Occurs x (variable v) o = eq-eqb x v o
  test-Occurs x (integer z) o = absurd o
  test-Occurs x (atom a) o = absurd o
  test-Occurs x (compound f ts) o = test-OccursIn x ts o

  pub test-OccursIn : (x : ℕ) (ts : Trees) → OccursIn x ts → IsTrue (occurs_in_some x ts)
  test-OccursIn x none o = absurd o
  test-OccursIn x (more t ts) o = elim o [
    | inl p ↦ ap (λ (b : Bool). b || occurs_in_some x ts) (test-Occurs x t p)
    | inr p ↦ go (occurs x t) (test-OccursIn x ts p)
  ]
    where
      go : (b : Bool) → IsTrue (occurs_in_some x ts) → IsTrue (b || occurs_in_some x ts)
      go true h = refl
      go false h = h
