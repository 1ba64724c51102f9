-- How much work is left.
use Rattle.std.proofs.Common.{sym, cond, true, false, ◌∙◌, ap₂, ◌≢◌, is_none, nat_eq, ◌≡◌, ℕ, zero, suc, ◌+◌, ◌*◌, ◌<◌, ◌≤◌, List, [], ◌∷◌, ◌++◌, Bool, refl, ap, arith, None, Some, Option, mul-le-mul}
use Rattle.prolog_terms.specs.Tree.{Tree, Trees, variable, integer, atom, compound, none, more}
use Rattle.prolog_terms.specs.Substitutions.{substituted, all_substituted}
use Rattle.term_unifier.specs.Unifier.{only}
use Rattle.term_store.specs.declared.cell.Cell.{Cell}
use Rattle.term_store.specs.declared.solve.Pair.{Pair}
use Rattle.term_store.specs.Terms.{lookup}
use Rattle.term_store.specs.Work.{size, size_all, work_size, free_below, potential}

size-bind_variable : (x : ℕ) (u : Tree) (v : ℕ) (b : Bool) → 1 ≤ size u → size (cond b u (variable v)) ≤ 1 * size u
size-bind_variable x u v true h = omega arith
size-bind_variable x u v false h = omega arith

-- a binding makes a tree larger by at most a factor
mutual
  pub size-only : (x : ℕ) (u t : Tree) → 1 ≤ size u → size (substituted (only x u) t) ≤ size t * size u
  size-only x u (variable v) h = size-bind_variable x u v (nat_eq v x) h
  size-only x u (integer z) h = omega arith
  size-only x u (atom c) h = omega arith
  size-only x u (compound f ts) h = let k = size_all-only x u ts h in omega (arith, k)

  pub size_all-only : (x : ℕ) (u : Tree) (ts : Trees) → 1 ≤ size u → size_all (all_substituted (only x u) ts) ≤ size_all ts * size u
  size_all-only x u none h = omega arith
  size_all-only x u (more t ts) h = let k = size-only x u t h in let j = size_all-only x u ts h in omega (arith, k, j)

pub work_size-bind : (f g : Cell → Tree) (x : ℕ) (u : Tree) (ps : List Pair) → 1 ≤ size u → ((c : Cell) → g c ≡ substituted (only x u) (f c))
    → work_size g ps ≤ work_size f ps * size u
work_size-bind f g x u [] h e = omega arith
work_size-bind f g x u (p ∷ ps) h e =
    let a = ap size (e p.left) in let b = ap size (e p.right) in
    let i = size-only x u (f p.left) h in let j = size-only x u (f p.right) h in
    let k = work_size-bind f g x u ps h e in omega (arith, a, b, i, j, k)

pub work_size-append : (f : Cell → Tree) (xs ys : List Pair) → work_size f (xs ++ ys) ≡ work_size f xs + work_size f ys
work_size-append f [] ys = omega arith
work_size-append f (p ∷ xs) ys = let h = work_size-append f xs ys in omega (arith, h)

pub potential-le : (n s r : ℕ) → s ≤ r → potential n s ≤ potential n r
unfolding potential
potential-le zero s r h = h
potential-le (suc n) s r h = let k = potential-le n (s * s) (r * r) (mul-le-mul h h) in omega (arith, k)

pub potential-lt : (n s r : ℕ) → s < r → potential n s < potential n r
unfolding potential
potential-lt zero s r h = h
potential-lt (suc n) s r h = let low : s ≤ r = omega arith in let k = potential-le n (s * s) (r * r) (mul-le-mul low low) in omega (arith, k)

pub potential-bind : (n s r : ℕ) → r ≤ s * s → potential n r < potential (suc n) s
unfolding potential
potential-bind n s r h = let k = potential-le n r (s * s) h in omega (arith, k)

free_below-same : (bs cs : List (ℕ × Cell)) (n : ℕ) → ((y : ℕ) → y < n → lookup bs y ≡ lookup cs y) → free_below bs n ≡ free_below cs n
free_below-same bs cs zero e = refl
free_below-same bs cs (suc n) e =
    ap₂ (λ (o : Option Cell) (k : ℕ). cond (is_none o) (suc k) k) (e n (omega arith)) (free_below-same bs cs n (λ y low. e y (omega arith)))

first : (x : ℕ) (c : Cell) (bs : List (ℕ × Cell)) (y : ℕ) → y ≡ x → lookup ((x, c) ∷ bs) y ≡ Some c
first x c bs y e = grind arith

other : (x : ℕ) (c : Cell) (bs : List (ℕ × Cell)) (y : ℕ) → y ≢ x → lookup ((x, c) ∷ bs) y ≡ lookup bs y
other x c bs y e = grind arith

pub free_below-bind : (bs : List (ℕ × Cell)) (x : ℕ) (c : Cell) (n : ℕ) → x < n → lookup bs x ≡ None → suc (free_below ((x, c) ∷ bs) n) ≡ free_below bs n
free_below-bind bs x c zero low free = absurd (omega arith)
free_below-bind bs x c (suc n) low free = go (nat_eq n x) refl (λ lt. free_below-bind bs x c n lt free)
  where
    go : (t : Bool) → nat_eq n x ≡ t → (x < n → suc (free_below ((x, c) ∷ bs) n) ≡ free_below bs n) → suc (free_below ((x, c) ∷ bs) (suc n)) ≡ free_below bs (suc n)
    go true q ih =
        let same : n ≡ x = grind arith in
        ap (λ (o : Option Cell). suc (cond (is_none o) (suc (free_below ((x, c) ∷ bs) n)) (free_below ((x, c) ∷ bs) n))) (first x c bs n same)
        ∙ ap suc (free_below-same ((x, c) ∷ bs) bs n (λ y lt. other x c bs y (λ is. omega (arith, is, lt, same))))
        ∙ sym (ap (λ (o : Option Cell). cond (is_none o) (suc (free_below bs n)) (free_below bs n)) (ap (lookup bs) same ∙ free))
    go false q ih =
        let apart : n ≢ x = grind arith in
        ap (λ (o : Option Cell). suc (cond (is_none o) (suc (free_below ((x, c) ∷ bs) n)) (free_below ((x, c) ∷ bs) n))) (other x c bs n apart)
        ∙ step (is_none (lookup bs n)) (ih (omega arith))
      where
        step : (t : Bool) → suc (free_below ((x, c) ∷ bs) n) ≡ free_below bs n → suc (cond t (suc (free_below ((x, c) ∷ bs) n)) (free_below ((x, c) ∷ bs) n)) ≡ cond t (suc (free_below bs n)) (free_below bs n)
        step true h = ap suc h
        step false h = h
