-- The name and arity that a term names, by what is seen of its cells.
use Rattle.std.proofs.Common.{◌≡◌, ℕ, ℤ, pos, negsuc, ◌<◌, ◌≤◌, List, [], ◌∷◌, length, get_or, refl, sym, ap, ◌∙◌, subst, arith, Bool, true, false, codes, w64, w32, Fits, SFits, T, nat_abs, of_z, to_z}
use Rattle.std.specs.Int.Signed.{non_neg}
use Rattle.std.specs.Prelude.{if◌then◌else◌, nat_lt, int_lt}
use Rattle.std.proofs.Math.Facts.{to_z-of_z}
use Rattle.std.proofs.lemmas.Bool.Decides.{nat_tests}
use Rattle.prolog_terms.specs.Tree.{Tree, integer, compound}
use Rattle.prolog_terms.specs.Clauses.{is_named}
use Rattle.prolog_terms.specs.Faults.{two}
use Rattle.prolog_terms.specs.Substitutions.{numbered}
use Rattle.prolog_terms.specs.declared.fault.Fault.TheVariants.{Domain, Representation}
use Rattle.term_store.specs.declared.cell.Cell.{Cell}
use Rattle.term_store.specs.declared.cell.View.{View}
use Rattle.term_store.specs.declared.cell.View.TheVariants as view
use Rattle.term_store.specs.Terms.{trees_of}
use Rattle.term_store.specs.Views.{tree_of}
use Rattle.wam_machine.specs.Naming.{naming_of, no_indicator, by_name, without_name, with_name, with_arity, not_of_type}
use Rattle.wam_machine.specs.declared.naming.Naming.TheVariants.{Names, NamesNone}
use Rattle.wam_machine.proofs.SpineParts.{two-trees}

-- ---- a term of a name and an arity

module _ (tree : Cell → Tree) (g : Tree) (f : List ℕ) (cs : List Cell) where
  pub naming-pair : (d : Cell) → 2 ≤ length cs → length cs < 3 → g ≡ compound f (trees_of tree cs) → is_named (codes "/") f ≡ true
      → naming_of g ≡ by_name (tree (get_or cs 0 d)) (tree (get_or cs 1 d))
  naming-pair d h k e named =
      ap naming_of (two-trees tree g f cs d h k e)
      ∙ ap (λ (b : Bool). if b then by_name (tree (get_or cs 0 d)) (tree (get_or cs 1 d)) else no_indicator (two f (tree (get_or cs 0 d)) (tree (get_or cs 1 d)))) named

  pub naming-other : (d : Cell) → 2 ≤ length cs → length cs < 3 → g ≡ compound f (trees_of tree cs) → is_named (codes "/") f ≡ false → naming_of g ≡ no_indicator g
  naming-other d h k e named =
      let same = two-trees tree g f cs d h k e in
      ap naming_of same
      ∙ ap (λ (b : Bool). if b then by_name (tree (get_or cs 0 d)) (tree (get_or cs 1 d)) else no_indicator (two f (tree (get_or cs 0 d)) (tree (get_or cs 1 d)))) named
      ∙ sym (ap no_indicator same)

row-none : (tree : Cell → Tree) (f : List ℕ) (cs : List Cell) → (2 ≤ length cs → length cs < 3 → ⊥) → naming_of (compound f (trees_of tree cs)) ≡ no_indicator (compound f (trees_of tree cs))
row-none tree f [] other = refl
row-none tree f (a ∷ []) other = refl
row-none tree f (a ∷ b ∷ []) other = absurd (other (omega arith) (omega arith))
row-none tree f (a ∷ b ∷ c ∷ cs) other = refl

pub naming-none : (tree : Cell → Tree) (g : Tree) (f : List ℕ) (cs : List Cell) → g ≡ compound f (trees_of tree cs) → (2 ≤ length cs → length cs < 3 → ⊥) → naming_of g ≡ no_indicator g
naming-none tree g f cs e other = subst (λ (x : Tree). naming_of x ≡ no_indicator x) (sym e) (row-none tree f cs other)

pub naming-leaf : (name : ℕ → List ℕ) (tree : Cell → Tree) (v : View) (g : Tree) → g ≡ tree_of name tree v → ((n : ℕ) → v ≡ view.Variable n → ⊥) → ((f : ℕ) (args : _) → v ≡ view.Compound f args → ⊥)
    → naming_of g ≡ no_indicator g
naming-leaf name tree v g e free other = subst (λ (x : Tree). naming_of x ≡ no_indicator x) (sym e) (go v free other)
  where
    go : (w : View) → ((n : ℕ) → w ≡ view.Variable n → ⊥) → ((f : ℕ) (args : _) → w ≡ view.Compound f args → ⊥) → naming_of (tree_of name tree w) ≡ no_indicator (tree_of name tree w)
    go (view.Variable n) p q = absurd (p n refl)
    go (view.Integer z) p q = refl
    go (view.Atom n) p q = refl
    go (view.Compound f args) p q = absurd (q f args refl)

-- ---- the name

pub without-leaf : (name : ℕ → List ℕ) (tree : Cell → Tree) (v : View) (g a : Tree) → g ≡ tree_of name tree v → ((n : ℕ) → v ≡ view.Variable n → ⊥) → ((n : ℕ) → v ≡ view.Atom n → ⊥)
    → by_name g a ≡ without_name g a
without-leaf name tree v g a e free other = subst (λ (x : Tree). by_name x a ≡ without_name x a) (sym e) (go v free other)
  where
    go : (w : View) → ((n : ℕ) → w ≡ view.Variable n → ⊥) → ((n : ℕ) → w ≡ view.Atom n → ⊥) → by_name (tree_of name tree w) a ≡ without_name (tree_of name tree w) a
    go (view.Variable n) p q = absurd (p n refl)
    go (view.Integer z) p q = refl
    go (view.Atom n) p q = absurd (q n refl)
    go (view.Compound f args) p q = refl

-- what is no name, beside an arity that is bound
pub bound-leaf : (name : ℕ → List ℕ) (tree : Cell → Tree) (v : View) (n g : Tree) → g ≡ tree_of name tree v → ((k : ℕ) → v ≡ view.Variable k → ⊥) → without_name n g ≡ not_of_type (codes "atom") n
bound-leaf name tree v n g e free = subst (λ (x : Tree). without_name n x ≡ not_of_type (codes "atom") n) (sym e) (go v free)
  where
    go : (w : View) → ((k : ℕ) → w ≡ view.Variable k → ⊥) → without_name n (tree_of name tree w) ≡ not_of_type (codes "atom") n
    go (view.Variable k) p = absurd (p k refl)
    go (view.Integer z) p = refl
    go (view.Atom k) p = refl
    go (view.Compound f args) p = refl

-- ---- the arity

pub arity-leaf : (name : ℕ → List ℕ) (tree : Cell → Tree) (v : View) (f : List ℕ) (g : Tree) → g ≡ tree_of name tree v → ((k : ℕ) → v ≡ view.Variable k → ⊥) → ((z : ℤ) → v ≡ view.Integer z → ⊥)
    → with_name f g ≡ not_of_type (codes "integer") g
arity-leaf name tree v f g e free other = subst (λ (x : Tree). with_name f x ≡ not_of_type (codes "integer") x) (sym e) (go v free other)
  where
    go : (w : View) → ((k : ℕ) → w ≡ view.Variable k → ⊥) → ((z : ℤ) → w ≡ view.Integer z → ⊥) → with_name f (tree_of name tree w) ≡ not_of_type (codes "integer") (tree_of name tree w)
    go (view.Variable k) p q = absurd (p k refl)
    go (view.Integer z) p q = absurd (q z refl)
    go (view.Atom k) p q = refl
    go (view.Compound h args) p q = refl

module _ (f : List ℕ) (z : ℤ) (fits : SFits w64 z) where
  pub arity-negative : (t : Tree) → t ≡ integer z → int_lt (to_z w64 (of_z w64 z)) (pos 0) ≡ true → with_arity f z ≡ NamesNone (Domain (codes "not_less_than_zero") (numbered t))
  arity-negative t e low =
      go z (subst (λ (y : ℤ). int_lt y (pos 0) ≡ true) (to_z-of_z fits) low) ∙ ap (λ (x : Tree). NamesNone (Domain (codes "not_less_than_zero") (numbered x))) (sym e)
    where
      go : (y : ℤ) → int_lt y (pos 0) ≡ true → with_arity f y ≡ NamesNone (Domain (codes "not_less_than_zero") (numbered (integer y)))
      go (pos k) h = absurd (let below : nat_lt k 0 ≡ true = h in grind (arith, nat_tests))
      go (negsuc k) h = refl

  pub arity-many : int_lt (pos 255) (to_z w64 (of_z w64 z)) ≡ true → with_arity f z ≡ NamesNone (Representation (codes "max_arity"))
  arity-many high = go z (subst (λ (y : ℤ). int_lt (pos 255) y ≡ true) (to_z-of_z fits) high)
    where
      go : (y : ℤ) → int_lt (pos 255) y ≡ true → with_arity f y ≡ NamesNone (Representation (codes "max_arity"))
      go (pos k) h = let e : nat_lt 255 k ≡ true = h in rw e refl
      go (negsuc k) h = absurd cc

  pub arity-few : int_lt (to_z w64 (of_z w64 z)) (pos 0) ≡ false → int_lt (pos 255) (to_z w64 (of_z w64 z)) ≡ false → with_arity f z ≡ Names (record { name = f; arity = nat_abs (to_z w64 (of_z w64 z)) })
  arity-few low high =
      go z (subst (λ (y : ℤ). int_lt y (pos 0) ≡ false) (to_z-of_z fits) low) (subst (λ (y : ℤ). int_lt (pos 255) y ≡ false) (to_z-of_z fits) high)
      ∙ ap (λ (y : ℤ). Names (record { name = f; arity = nat_abs y })) (sym (to_z-of_z fits))
    where
      go : (y : ℤ) → int_lt y (pos 0) ≡ false → int_lt (pos 255) y ≡ false → with_arity f y ≡ Names (record { name = f; arity = nat_abs y })
      go (pos k) h i = let e : nat_lt 255 k ≡ false = i in rw e refl
      go (negsuc k) h i = absurd cc

  -- it is a number of the machine
  pub arity-cast : int_lt (to_z w64 (of_z w64 z)) (pos 0) ≡ false → int_lt (pos 255) (to_z w64 (of_z w64 z)) ≡ false → T (non_neg (to_z w64 (of_z w64 z))) × Fits w32 (nat_abs (to_z w64 (of_z w64 z)))
  arity-cast low high =
      subst (λ (y : ℤ). T (non_neg y) × Fits w32 (nat_abs y)) (sym (to_z-of_z fits))
      (go z (subst (λ (y : ℤ). int_lt y (pos 0) ≡ false) (to_z-of_z fits) low) (subst (λ (y : ℤ). int_lt (pos 255) y ≡ false) (to_z-of_z fits) high))
    where
      go : (y : ℤ) → int_lt y (pos 0) ≡ false → int_lt (pos 255) y ≡ false → T (non_neg y) × Fits w32 (nat_abs y)
      go (pos k) h i = let e : nat_lt 255 k ≡ false = i in let few : k ≤ 255 = grind (arith, nat_tests) in (tt, omega (arith, few))
      go (negsuc k) h i = absurd cc
