-- Laws of substitutions.
use Rattle.std.proofs.Common.{◌≡◌, ℕ, ◌≤◌, ◌+◌, List, [], IsTrue, Bool, true, false, ◌||◌, refl, sym, ◌∙◌, ap, ap₂, arith, inl, inr}
use Rattle.std.specs.Prelude.{◌==◌, ◌⊎◌, ◌≢◌}
use Rattle.std.proofs.lemmas.Bool.Decides.{eqb_tells}
use Rattle.std.proofs.lemmas.Bool.{eq-eqb, eqb-true}
use Rattle.prolog_terms.specs.Tree.{Tree, Trees, variable, integer, atom, compound, none, more}
use Rattle.prolog_terms.specs.Substitutions.{substituted, all_substituted, occurs, occurs_in_some}
use Rattle.term_unifier.specs.Unifier.{only}

-- ---- tests

pub or-left : (a b : Bool) → (a || b) ≡ false → a ≡ false
or-left true b e = cc e
or-left false b e = refl

pub or-right : (a b : Bool) → (a || b) ≡ false → b ≡ false
or-right true b e = cc e
or-right false b e = e

pub or-cases : (a b : Bool) → (a || b) ≡ true → (a ≡ true) ⊎ (b ≡ true)
or-cases true b e = inl refl
or-cases false b e = inr e

pub or-first : (a b : Bool) → a ≡ true → (a || b) ≡ true
or-first true b e = refl
or-first false b e = cc e

pub or-second : (a b : Bool) → b ≡ true → (a || b) ≡ true
or-second true b e = refl
or-second false b e = e

true_or_false : (x : Bool) → x ≢ true → x ≡ false
true_or_false true h = absurd (h refl)
true_or_false false h = refl

pub swapped : (n v : ℕ) → (v == n) ≡ false → (n == v) ≡ false
swapped n v e = true_or_false (n == v) (λ d. differ (sym e ∙ eq-eqb v n (sym (eqb-true n v d))))
  where
    differ : ◌≡◌ {A = Bool} false true → ⊥
    differ h = cc h

-- ---- what equal terms are made of

number_of : ℕ → Tree → ℕ
number_of d (variable v) = v
number_of d (integer i) = d
number_of d (atom a) = d
number_of d (compound f ts) = d

pub variable-injective : {v w : ℕ} → variable v ≡ variable w → v ≡ w
unfolding number_of
variable-injective {v} e = ap (number_of v) e

first_of_trees : Tree → Trees → Tree
first_of_trees d none = d
first_of_trees d (more t ts) = t

rest_of_trees : Trees → Trees
rest_of_trees none = none
rest_of_trees (more t ts) = ts

pub more-first : {t u : Tree} {ts us : Trees} → more t ts ≡ more u us → t ≡ u
unfolding first_of_trees
more-first {t} e = ap (first_of_trees t) e

pub more-rest : {t u : Tree} {ts us : Trees} → more t ts ≡ more u us → ts ≡ us
unfolding rest_of_trees
more-rest e = ap rest_of_trees e

name_of : Tree → List ℕ
name_of (variable v) = []
name_of (integer i) = []
name_of (atom a) = []
name_of (compound f ts) = f

arguments_of : Tree → Trees
arguments_of (variable v) = none
arguments_of (integer i) = none
arguments_of (atom a) = none
arguments_of (compound f ts) = ts

pub compound-name : {f g : List ℕ} {ts us : Trees} → compound f ts ≡ compound g us → f ≡ g
unfolding name_of
compound-name e = ap name_of e

pub compound-arguments : {f g : List ℕ} {ts us : Trees} → compound f ts ≡ compound g us → ts ≡ us
unfolding arguments_of
compound-arguments e = ap arguments_of e

-- ---- one substitution after another

mutual
  pub substituted-after : (s r : ℕ → Tree) (t : Tree) → substituted s (substituted r t) ≡ substituted (λ v. substituted s (r v)) t
  substituted-after s r (variable v) = refl
  substituted-after s r (integer i) = refl
  substituted-after s r (atom a) = refl
  substituted-after s r (compound f ts) = ap (compound f) (all_substituted-after s r ts)

  pub all_substituted-after : (s r : ℕ → Tree) (ts : Trees) → all_substituted s (all_substituted r ts) ≡ all_substituted (λ v. substituted s (r v)) ts
  all_substituted-after s r none = refl
  all_substituted-after s r (more t ts) = ap₂ more (substituted-after s r t) (all_substituted-after s r ts)

-- ---- substitutions that agree, on each variable or on each that occurs

mutual
  pub substituted-same_inside : (s r : ℕ → Tree) (t : Tree) → ((v : ℕ) → occurs v t ≡ true → s v ≡ r v) → substituted s t ≡ substituted r t
  substituted-same_inside s r (variable v) e = e v (eq-eqb v v refl)
  substituted-same_inside s r (integer i) e = refl
  substituted-same_inside s r (atom a) e = refl
  substituted-same_inside s r (compound f ts) e = ap (compound f) (all_substituted-same_inside s r ts e)

  pub all_substituted-same_inside : (s r : ℕ → Tree) (ts : Trees) → ((v : ℕ) → occurs_in_some v ts ≡ true → s v ≡ r v) → all_substituted s ts ≡ all_substituted r ts
  all_substituted-same_inside s r none e = refl
  all_substituted-same_inside s r (more t ts) e =
      ap₂ more (substituted-same_inside s r t (λ v o. e v (or-first (occurs v t) (occurs_in_some v ts) o)))
      (all_substituted-same_inside s r ts (λ v o. e v (or-second (occurs v t) (occurs_in_some v ts) o)))

pub substituted-same : (s r : ℕ → Tree) → ((v : ℕ) → s v ≡ r v) → (t : Tree) → substituted s t ≡ substituted r t
substituted-same s r e t = substituted-same_inside s r t (λ v o. e v)

pub all_substituted-same : (s r : ℕ → Tree) → ((v : ℕ) → s v ≡ r v) → (ts : Trees) → all_substituted s ts ≡ all_substituted r ts
all_substituted-same s r e ts = all_substituted-same_inside s r ts (λ v o. e v)

-- ---- a term that a substitution keeps

-- each of its variables is kept
mutual
  pub kept-inside : (s : ℕ → Tree) (w : ℕ) (t : Tree) → substituted s t ≡ t → occurs w t ≡ true → s w ≡ variable w
  kept-inside s w (variable v) e o = let same : w ≡ v = eqb-true w v o in ap s same ∙ (e ∙ ap variable (sym same))
  kept-inside s w (integer i) e o = cc o
  kept-inside s w (atom a) e o = cc o
  kept-inside s w (compound f ts) e o = all_kept-inside s w ts (compound-arguments e) o

  pub all_kept-inside : (s : ℕ → Tree) (w : ℕ) (ts : Trees) → all_substituted s ts ≡ ts → occurs_in_some w ts ≡ true → s w ≡ variable w
  all_kept-inside s w none e o = cc o
  all_kept-inside s w (more t ts) e o = go (or-cases (occurs w t) (occurs_in_some w ts) o) (kept-inside s w t (more-first e)) (all_kept-inside s w ts (more-rest e))
    where
      go : occurs w t ≡ true ⊎ occurs_in_some w ts ≡ true → (occurs w t ≡ true → s w ≡ variable w) → (occurs_in_some w ts ≡ true → s w ≡ variable w) → s w ≡ variable w
      go (inl x) f g = f x
      go (inr x) f g = g x

-- of such a term substitutions make the same where they agree on what is kept
pub kept-same : (now s r : ℕ → Tree) → ((v : ℕ) → now v ≡ variable v → s v ≡ r v) → (t : Tree) → substituted now t ≡ t → substituted s t ≡ substituted r t
kept-same now s r h t e = substituted-same_inside s r t (λ v o. h v (kept-inside now v t e o))

-- what is turned into a variable was one
pub was_variable : (s : ℕ → Tree) (w : ℕ) (t : Tree) → substituted s t ≡ variable w → (v : ℕ) × (t ≡ variable v)
was_variable s w (variable v) e = (v, refl)
was_variable s w (integer i) e = cc e
was_variable s w (atom a) e = cc e
was_variable s w (compound f ts) e = cc e

-- ---- none at all

mutual
  pub substituted-variable : (t : Tree) → substituted variable t ≡ t
  substituted-variable (variable v) = refl
  substituted-variable (integer i) = refl
  substituted-variable (atom a) = refl
  substituted-variable (compound f ts) = ap (compound f) (all_substituted-variable ts)

  pub all_substituted-variable : (ts : Trees) → all_substituted variable ts ≡ ts
  all_substituted-variable none = refl
  all_substituted-variable (more t ts) = ap₂ more (substituted-variable t) (all_substituted-variable ts)

-- ---- one binding

pub at_same : (n v : ℕ) (t : Tree) → (n == v) ≡ true → only v t n ≡ t
at_same n v t d = rw d refl

pub at_other : (n v : ℕ) (t : Tree) → (n == v) ≡ false → only v t n ≡ variable n
at_other n v t d = rw d refl

pub only_same : (v : ℕ) (t : Tree) → only v t v ≡ t
only_same v t = at_same v v t (eq-eqb v v refl)

pub only_other : (v : ℕ) (t : Tree) (n : ℕ) → n ≢ v → only v t n ≡ variable n
only_other v t n h = at_other n v t (true_or_false (n == v) (λ d. h (eqb-true n v d)))

-- what makes v and t equal doesn't see that v is bound to t
pub only-unseen : (r : ℕ → Tree) (v : ℕ) (t : Tree) → r v ≡ substituted r t → (n : ℕ) → substituted r (only v t n) ≡ r n
only-unseen r v t e n = go (eqb_tells n v)
  where
    go : ((n == v) ≡ true) × (n ≡ v) ⊎ ((n == v) ≡ false) × (n ≢ v) → substituted r (only v t n) ≡ r n
    go (inl (d, same)) = rw d (sym e ∙ ap r (sym same))
    go (inr (d, other)) = rw d refl

pub substituted-only : (r : ℕ → Tree) (v : ℕ) (t : Tree) → r v ≡ substituted r t → (u : Tree) → substituted r (substituted (only v t) u) ≡ substituted r u
substituted-only r v t e u = substituted-after r (only v t) u ∙ substituted-same _ r (only-unseen r v t e) u

-- where v doesn't occur its binding changes nothing
mutual
  pub only-absent : (v : ℕ) (u t : Tree) → occurs v t ≡ false → substituted (only v u) t ≡ t
  only-absent v u (variable n) e = at_other n v u (swapped n v e)
  only-absent v u (integer i) e = refl
  only-absent v u (atom a) e = refl
  only-absent v u (compound f ts) e = ap (compound f) (all_only-absent v u ts e)

  pub all_only-absent : (v : ℕ) (u : Tree) (ts : Trees) → occurs_in_some v ts ≡ false → all_substituted (only v u) ts ≡ ts
  all_only-absent v u none e = refl
  all_only-absent v u (more t ts) e = ap₂ more (only-absent v u t (or-left _ _ e)) (all_only-absent v u ts (or-right (occurs v t) _ e))

pub not-occurs : (v : ℕ) (t : Tree) → (IsTrue (occurs v t) → ⊥) → occurs v t ≡ false
not-occurs v t h = true_or_false (occurs v t) h

-- ---- a term is no smaller than what occurs in it

-- how many variables, integers, atoms and compounds
abbrev mutual
  pub size : Tree → ℕ
  size (variable v) = 1
  size (integer i) = 1
  size (atom a) = 1
  size (compound f ts) = 1 + size_all ts

  pub size_all : Trees → ℕ
  size_all none = 0
  size_all (more t ts) = size t + size_all ts

pub size_pos : (t : Tree) → 1 ≤ size t
size_pos (variable v) = omega arith
size_pos (integer i) = omega arith
size_pos (atom a) = omega arith
size_pos (compound f ts) = omega arith

mutual
  pub size-occurs : (r : ℕ → Tree) (v : ℕ) (t : Tree) → occurs v t ≡ true → size (r v) ≤ size (substituted r t)
  size-occurs r v (variable n) e = rw (eqb-true v n e) (omega arith)
  size-occurs r v (integer i) e = cc e
  size-occurs r v (atom a) e = cc e
  size-occurs r v (compound f ts) e = let h : size (r v) ≤ size_all (all_substituted r ts) = size_all-occurs r v ts e in omega (arith, h)

  pub size_all-occurs : (r : ℕ → Tree) (v : ℕ) (ts : Trees) → occurs_in_some v ts ≡ true → size (r v) ≤ size_all (all_substituted r ts)
  size_all-occurs r v none e = cc e
  size_all-occurs r v (more t ts) e = go (or-cases (occurs v t) (occurs_in_some v ts) e) (size-occurs r v t) (size_all-occurs r v ts)
    where
      go : occurs v t ≡ true ⊎ occurs_in_some v ts ≡ true → (occurs v t ≡ true → size (r v) ≤ size (substituted r t)) → (occurs_in_some v ts ≡ true → size (r v) ≤ size_all (all_substituted r ts)) →
          size (r v) ≤ size (substituted r t) + size_all (all_substituted r ts)
      go (inl x) f g = let h : size (r v) ≤ size (substituted r t) = f x in omega (arith, h)
      go (inr x) f g = let h : size (r v) ≤ size_all (all_substituted r ts) = g x in omega (arith, h)

-- no substitution makes a variable a compound that it occurs in
pub occurs_never : (r : ℕ → Tree) (v : ℕ) (f : List ℕ) (ts : Trees) → occurs v (compound f ts) ≡ true → r v ≢ substituted r (compound f ts)
occurs_never r v f ts e h =
    let k : size (r v) ≤ size_all (all_substituted r ts) = size_all-occurs r v ts e in
    let m : size (r v) ≡ 1 + size_all (all_substituted r ts) = ap size h in omega (arith, k, m)
