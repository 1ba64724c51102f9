-- What functor, arg and copy_term mean, by what is seen of their arguments.
use Rattle.std.proofs.Common.{◌≡◌, ℕ, zero, suc, ◌≤◌, ◌-◌, ℤ, pos, negsuc, List, [], ◌∷◌, length, All, Bool, true, false, Option, Some, None, slice_get, refl, sym, ap, ◌∙◌, arith, subst, codes, w64, Fits, SFits, T, nat_abs, of_z, to_z}
use Rattle.std.specs.Int.Signed.{non_neg}
use Rattle.std.specs.Prelude.{nat_lt, int_lt, FitsSigned, option_map, ◌||◌, if◌then◌else◌}
use Rattle.std.proofs.Math.Facts.{to_z-of_z}
use Rattle.std.proofs.lemmas.Bool.Decides.{nat_tests}
use Rattle.prolog_terms.specs.Tree.{Tree, Trees, variable, integer, atom, compound, none, more}
use Rattle.prolog_terms.specs.declared.fault.Fault.TheVariants.{Domain}
use Rattle.term_store.specs.declared.cell.Cell.{Cell}
use Rattle.term_store.specs.declared.cell.View.{View}
use Rattle.term_store.specs.declared.cell.View.TheVariants.{Variable, Integer, Atom, Compound}
use Rattle.term_store.specs.Shape.{Shape}
use Rattle.term_store.specs.Terms.{trees_of, HasTerm}
use Rattle.term_store.specs.Views.{tree_of}
use Rattle.term_builtins.specs.Meanings.{Holds, Raises, Equates, unbound, type_error, too_many, both_equal, is_variable, is_compound, functor_of, made_bound, made_named, made_sized, made, variables_from, argument_of, argument_numbered, argument_in, argument_at, at_place, equal_some}
use Rattle.term_builtins.proofs.Views.{count-trees}

-- ---- a number of the machine

-- whether it is less than 0, and up to 255
pub small-few : (z : ℤ) → int_lt (to_z w64 (of_z w64 z)) (pos 0) ≡ false → int_lt (pos 255) (to_z w64 (of_z w64 z)) ≡ false → SFits w64 z → of_z w64 z ≤ 255
small-few z low high f = go z (subst (λ (y : ℤ). int_lt y (pos 0) ≡ false) (to_z-of_z f) low) (subst (λ (y : ℤ). int_lt (pos 255) y ≡ false) (to_z-of_z f) high)
  where
    go : (y : ℤ) → int_lt y (pos 0) ≡ false → int_lt (pos 255) y ≡ false → of_z w64 y ≤ 255
    go (pos k) low high = let e : nat_lt 255 k ≡ false = high in grind (arith, nat_tests)
    go (negsuc k) low high = absurd cc

pub small-is : (z : ℤ) → SFits w64 z → int_lt (to_z w64 (of_z w64 z)) (pos 0) ≡ false → nat_abs (to_z w64 (of_z w64 z)) ≡ of_z w64 z
small-is z f low = ap nat_abs (to_z-of_z f) ∙ go z (subst (λ (y : ℤ). int_lt y (pos 0) ≡ false) (to_z-of_z f) low)
  where
    go : (y : ℤ) → int_lt y (pos 0) ≡ false → nat_abs y ≡ of_z w64 y
    go (pos k) low = refl
    go (negsuc k) low = absurd cc

pub small-cast : (z : ℤ) → FitsSigned w64 z → int_lt (to_z w64 (of_z w64 z)) (pos 0) ≡ false → T (non_neg (to_z w64 (of_z w64 z))) × Fits w64 (nat_abs (to_z w64 (of_z w64 z)))
small-cast z f low =
    subst (λ (y : ℤ). T (non_neg y) × Fits w64 (nat_abs y)) (sym (to_z-of_z f)) (go z f (subst (λ (y : ℤ). int_lt y (pos 0) ≡ false) (to_z-of_z f) low))
  where
    go : (y : ℤ) → FitsSigned w64 y → int_lt y (pos 0) ≡ false → T (non_neg y) × Fits w64 (nat_abs y)
    go (pos k) f low = (tt, omega (arith, f.sfits))
    go (negsuc k) f low = absurd cc

-- ---- functor

module _ (fresh : ℕ) (n a : Tree) where
  pub functor-variable : (t : Tree) (v : ℕ) → t ≡ variable v → functor_of fresh t n a ≡ made_bound fresh t n a
  functor-variable t v e = subst (λ (u : Tree). functor_of fresh u n a ≡ made_bound fresh u n a) (sym e) refl

  pub functor-compound : (t : Tree) (f : List ℕ) (tree : Cell → Tree) (cs : List Cell) → t ≡ compound f (trees_of tree cs) → functor_of fresh t n a ≡ both_equal n (atom f) a (integer (pos (length cs)))
  functor-compound t f tree cs e =
      ap (λ (u : Tree). functor_of fresh u n a) e ∙ ap (λ (k : ℕ). both_equal n (atom f) a (integer (pos k))) (count-trees tree cs)

  pub functor-other : (name : ℕ → List ℕ) (tree : Cell → Tree) (v : View) (t : Tree) → t ≡ tree_of name tree v → ((k : ℕ) → v ≡ Variable k → ⊥) → ((f : ℕ) (args : _) → v ≡ Compound f args → ⊥)
      → functor_of fresh t n a ≡ both_equal n t a (integer (pos 0))
  functor-other name tree v t e h k = subst (λ (u : Tree). functor_of fresh u n a ≡ both_equal n u a (integer (pos 0))) (sym e) (go v h k)
    where
      go : (w : View) → ((k : ℕ) → w ≡ Variable k → ⊥) → ((f : ℕ) (args : _) → w ≡ Compound f args → ⊥)
          → functor_of fresh (tree_of name tree w) n a ≡ both_equal n (tree_of name tree w) a (integer (pos 0))
      go (Variable x) h k = absurd (h x refl)
      go (Integer z) h k = refl
      go (Atom x) h k = refl
      go (Compound f args) h k = absurd (k f args refl)

-- ---- a term of a name and an arity

module _ (fresh : ℕ) (t n a : Tree) where
  pub made-open : (b : Bool) → b ≡ (is_variable n || is_variable a) → b ≡ true → made_bound fresh t n a ≡ unbound
  made-open b is e = ap (λ (x : Bool). if x then unbound else made_named fresh t n a) (sym is ∙ e)

  pub made-closed : (b : Bool) → b ≡ (is_variable n || is_variable a) → b ≡ false → made_bound fresh t n a ≡ made_named fresh t n a
  made-closed b is e = ap (λ (x : Bool). if x then unbound else made_named fresh t n a) (sym is ∙ e)

  pub named-compound : (z : ℤ) (b : Bool) → a ≡ integer z → b ≡ is_compound n → b ≡ true → made_named fresh t n a ≡ type_error (codes "atomic") n
  named-compound z b e is k = ap (made_named fresh t n) e ∙ ap (λ (x : Bool). if x then type_error (codes "atomic") n else made_sized fresh t n z) (sym is ∙ k)

  pub named-simple : (z : ℤ) (b : Bool) → a ≡ integer z → b ≡ is_compound n → b ≡ false → made_named fresh t n a ≡ made_sized fresh t n z
  named-simple z b e is k = ap (made_named fresh t n) e ∙ ap (λ (x : Bool). if x then type_error (codes "atomic") n else made_sized fresh t n z) (sym is ∙ k)

  pub named-other : (name : ℕ → List ℕ) (tree : Cell → Tree) (v : View) → a ≡ tree_of name tree v → ((z : ℤ) → v ≡ Integer z → ⊥) → made_named fresh t n a ≡ type_error (codes "integer") a
  named-other name tree v e h = subst (λ (u : Tree). made_named fresh t n u ≡ type_error (codes "integer") u) (sym e) (go v h)
    where
      go : (w : View) → ((z : ℤ) → w ≡ Integer z → ⊥) → made_named fresh t n (tree_of name tree w) ≡ type_error (codes "integer") (tree_of name tree w)
      go (Variable x) h = refl
      go (Integer z) h = absurd (h z refl)
      go (Atom x) h = refl
      go (Compound f args) h = refl

module _ (fresh : ℕ) (t n : Tree) where
  lower : (z : ℤ) → int_lt z (pos 0) ≡ true → made_sized fresh t n z ≡ Raises (Domain (codes "not_less_than_zero") (integer z))
  lower (pos k) neg = absurd (let no : nat_lt k 0 ≡ true = neg in grind (arith, nat_tests))
  lower (negsuc k) neg = refl

  upper : (z : ℤ) → int_lt (pos 255) z ≡ true → made_sized fresh t n z ≡ too_many
  upper (pos k) high = ap (λ (x : Bool). if x then too_many else made fresh t n k) high
  upper (negsuc k) high = absurd cc

  between : (z : ℤ) → int_lt z (pos 0) ≡ false → int_lt (pos 255) z ≡ false → made_sized fresh t n z ≡ made fresh t n (of_z w64 z)
  between (pos k) low high = ap (λ (x : Bool). if x then too_many else made fresh t n k) high
  between (negsuc k) low high = absurd cc

  pub sized-lower : (z : ℤ) → SFits w64 z → int_lt (to_z w64 (of_z w64 z)) (pos 0) ≡ true → made_sized fresh t n z ≡ Raises (Domain (codes "not_less_than_zero") (integer z))
  sized-lower z f neg = lower z (subst (λ (y : ℤ). int_lt y (pos 0) ≡ true) (to_z-of_z f) neg)

  pub sized-upper : (z : ℤ) → SFits w64 z → int_lt (pos 255) (to_z w64 (of_z w64 z)) ≡ true → made_sized fresh t n z ≡ too_many
  sized-upper z f high = upper z (subst (λ (y : ℤ). int_lt (pos 255) y ≡ true) (to_z-of_z f) high)

  pub sized-between : (z : ℤ) → SFits w64 z → int_lt (to_z w64 (of_z w64 z)) (pos 0) ≡ false → int_lt (pos 255) (to_z w64 (of_z w64 z)) ≡ false
      → made_sized fresh t n z ≡ made fresh t n (of_z w64 z)
  sized-between z f low high =
      between z (subst (λ (y : ℤ). int_lt y (pos 0) ≡ false) (to_z-of_z f) low) (subst (λ (y : ℤ). int_lt (pos 255) y ≡ false) (to_z-of_z f) high)

  pub made-atom : (a : List ℕ) (k : ℕ) → 1 ≤ k → n ≡ atom a → made fresh t n k ≡ Equates k t (compound a (variables_from fresh k))
  made-atom a zero h e = absurd (omega arith)
  made-atom a (suc k) h e = ap (λ (u : Tree). made fresh t u (suc k)) e

  pub made-other : (name : ℕ → List ℕ) (tree : Cell → Tree) (v : View) (k : ℕ) → 1 ≤ k → n ≡ tree_of name tree v → ((x : ℕ) → v ≡ Atom x → ⊥) → made fresh t n k ≡ type_error (codes "atom") n
  made-other name tree v zero h e o = absurd (omega arith)
  made-other name tree v (suc k) h e o = subst (λ (u : Tree). made fresh t u (suc k) ≡ type_error (codes "atom") u) (sym e) (go v o)
    where
      go : (w : View) → ((x : ℕ) → w ≡ Atom x → ⊥) → made fresh t (tree_of name tree w) (suc k) ≡ type_error (codes "atom") (tree_of name tree w)
      go (Variable x) o = refl
      go (Integer z) o = refl
      go (Atom x) o = absurd (o x refl)
      go (Compound f args) o = refl

-- ---- arg

module _ (n w t : Tree) where
  pub argument-open : (b : Bool) → b ≡ (is_variable n || is_variable w) → b ≡ true → argument_of n w t ≡ unbound
  argument-open b is e = ap (λ (x : Bool). if x then unbound else argument_numbered n w t) (sym is ∙ e)

  pub argument-closed : (b : Bool) → b ≡ (is_variable n || is_variable w) → b ≡ false → argument_of n w t ≡ argument_numbered n w t
  argument-closed b is e = ap (λ (x : Bool). if x then unbound else argument_numbered n w t) (sym is ∙ e)

  pub numbered-integer : (z : ℤ) → n ≡ integer z → argument_numbered n w t ≡ argument_in z w t
  numbered-integer z e = ap (λ (u : Tree). argument_numbered u w t) e

  pub numbered-other : (name : ℕ → List ℕ) (tree : Cell → Tree) (v : View) → n ≡ tree_of name tree v → ((z : ℤ) → v ≡ Integer z → ⊥) → argument_numbered n w t ≡ type_error (codes "integer") n
  numbered-other name tree v e h = subst (λ (u : Tree). argument_numbered u w t ≡ type_error (codes "integer") u) (sym e) (go v h)
    where
      go : (x : View) → ((z : ℤ) → x ≡ Integer z → ⊥) → argument_numbered (tree_of name tree x) w t ≡ type_error (codes "integer") (tree_of name tree x)
      go (Variable x) h = refl
      go (Integer z) h = absurd (h z refl)
      go (Atom x) h = refl
      go (Compound f args) h = refl

module _ (w t : Tree) where
  pub in-compound : (z : ℤ) (f : List ℕ) (tree : Cell → Tree) (cs : List Cell) → w ≡ compound f (trees_of tree cs) → argument_in z w t ≡ argument_at z (trees_of tree cs) t
  in-compound z f tree cs e = ap (λ (u : Tree). argument_in z u t) e

  pub in-other : (z : ℤ) (name : ℕ → List ℕ) (tree : Cell → Tree) (v : View) → w ≡ tree_of name tree v → ((f : ℕ) (args : _) → v ≡ Compound f args → ⊥) → argument_in z w t ≡ type_error (codes "compound") w
  in-other z name tree v e h = subst (λ (u : Tree). argument_in z u t ≡ type_error (codes "compound") u) (sym e) (go v h)
    where
      go : (x : View) → ((f : ℕ) (args : _) → x ≡ Compound f args → ⊥) → argument_in z (tree_of name tree x) t ≡ type_error (codes "compound") (tree_of name tree x)
      go (Variable x) h = refl
      go (Integer y) h = refl
      go (Atom x) h = refl
      go (Compound f args) h = absurd (h f args refl)

-- the term at a place
pub place-at : (tree : Cell → Tree) (cs : List Cell) (k : ℕ) → at_place (suc k) (trees_of tree cs) ≡ option_map tree (slice_get cs k)
place-at tree [] k = refl
place-at tree (c ∷ cs) zero = refl
place-at tree (c ∷ cs) (suc k) = place-at tree cs k

pub slice_has : (names : ℕ) (s : Shape) (cs : List Cell) (k : ℕ) (c : Cell) → All (HasTerm names s) cs → Some c ≡ slice_get cs k → HasTerm names s c
slice_has names s [] k c h e = absurd cc
slice_has names s (d ∷ cs) zero c h e = let same : d ≡ c = cc in subst (HasTerm names s) same (h 0 d (omega arith))
slice_has names s (d ∷ cs) (suc k) c h e = slice_has names s cs k c (λ j x lt. h (suc j) x (omega arith)) e

place-zero : (ts : Trees) → at_place zero ts ≡ None
place-zero none = refl
place-zero (more t ts) = refl

module _ (ts : Trees) (t : Tree) where
  pub at-lower : (z : ℤ) → SFits w64 z → int_lt (to_z w64 (of_z w64 z)) (pos 0) ≡ true → argument_at z ts t ≡ Raises (Domain (codes "not_less_than_zero") (integer z))
  at-lower z f neg = go z (subst (λ (y : ℤ). int_lt y (pos 0) ≡ true) (to_z-of_z f) neg)
    where
      go : (y : ℤ) → int_lt y (pos 0) ≡ true → argument_at y ts t ≡ Raises (Domain (codes "not_less_than_zero") (integer y))
      go (pos k) neg = absurd (let no : nat_lt k 0 ≡ true = neg in grind (arith, nat_tests))
      go (negsuc k) neg = refl

  pub at-zero : (z : ℤ) → SFits w64 z → of_z w64 z ≡ 0 → argument_at z ts t ≡ Holds false
  at-zero z f e =
      let is : z ≡ pos 0 = sym (to_z-of_z f) ∙ ap (to_z w64) e in
      ap (λ (y : ℤ). argument_at y ts t) is ∙ ap (λ (o : Option Tree). equal_some o t) (place-zero ts)

pub at-found : (tree : Cell → Tree) (cs : List Cell) (t : Tree) (z : ℤ) (o : Option Cell) → SFits w64 z → int_lt (to_z w64 (of_z w64 z)) (pos 0) ≡ false → (of_z w64 z ≡ 0 → ⊥) → o ≡ slice_get cs (nat_abs (to_z w64 (of_z w64 z)) - 1)
    → argument_at z (trees_of tree cs) t ≡ equal_some (option_map tree o) t
at-found tree cs t z o f low some is =
    go z (subst (λ (y : ℤ). int_lt y (pos 0) ≡ false) (to_z-of_z f) low) some (is ∙ ap (λ (n : ℕ). slice_get cs (n - 1)) (small-is z f low))
  where
    go : (y : ℤ) → int_lt y (pos 0) ≡ false → (of_z w64 y ≡ 0 → ⊥) → o ≡ slice_get cs (of_z w64 y - 1) → argument_at y (trees_of tree cs) t ≡ equal_some (option_map tree o) t
    go (pos zero) low some is = absurd (some refl)
    go (pos (suc k)) low some is =
        let e : suc k - 1 ≡ k = omega arith in
        ap (λ (p : Option Tree). equal_some p t) (place-at tree cs k ∙ ap (option_map tree) (sym (is ∙ ap (slice_get cs) e)))
    go (negsuc k) low some is = absurd cc
