-- How much work is left where two terms are unified pair by pair.
use Rattle.std.proofs.Common.{◌≡◌, ℕ, zero, suc, ◌+◌, ◌*◌, ◌<◌, ◌≤◌, List, [], ◌∷◌, ◌++◌, Bool, true, false, arith, mul-le-mul}
use Rattle.std.specs.Prelude.{◌==◌, if◌then◌else◌}
use Rattle.prolog_terms.specs.Tree.{Tree, Trees, variable, integer, atom, compound, none, more}
use Rattle.prolog_terms.specs.Substitutions.{substituted, all_substituted}
use Rattle.term_unifier.specs.Unifier.{only}
use Rattle.term_unifier.proofs.Trees.{size, size_all, size_pos}

size_chosen : (u : Tree) (v : ℕ) (b : Bool) → 1 ≤ size u → size (if b then u else variable v) ≤ 1 * size u
size_chosen u v true h = omega arith
size_chosen u v false h = omega arith

-- a binding makes a term larger by at most a factor
mutual
  pub size-only : (x : ℕ) (u t : Tree) → 1 ≤ size u → size (substituted (only x u) t) ≤ size t * size u
  size-only x u (variable v) h = size_chosen u v (v == x) h
  size-only x u (integer z) h = omega arith
  size-only x u (atom a) h = omega arith
  size-only x u (compound f ts) h = let k = size_all-only x u ts h in omega (arith, k)

  pub size_all-only : (x : ℕ) (u : Tree) (ts : Trees) → 1 ≤ size u → size_all (all_substituted (only x u) ts) ≤ size_all ts * size u
  size_all-only x u none h = omega arith
  size_all-only x u (more t ts) h = let k = size-only x u t h in let j = size_all-only x u ts h in omega (arith, k, j)

-- ---- pairs of terms

abbrev pub pair_sizes : List (Tree × Tree) → ℕ
pair_sizes [] = 0
pair_sizes (p ∷ ps) = size p.0 + size p.1 + pair_sizes ps

-- what the pairs stand for
abbrev pub pairs_under : (ℕ → Tree) → List (Tree × Tree) → List (Tree × Tree)
pairs_under s [] = []
pairs_under s (p ∷ ps) = (substituted s p.0, substituted s p.1) ∷ pairs_under s ps

pub pair_sizes-append : (xs ys : List (Tree × Tree)) → pair_sizes (xs ++ ys) ≡ pair_sizes xs + pair_sizes ys
pair_sizes-append [] ys = omega arith
pair_sizes-append (p ∷ xs) ys = let h = pair_sizes-append xs ys in omega (arith, h)

pub pair_sizes-only : (x : ℕ) (u : Tree) (ps : List (Tree × Tree)) → pair_sizes (pairs_under (only x u) ps) ≤ pair_sizes ps * size u
pair_sizes-only x u [] = omega arith
pair_sizes-only x u (p ∷ ps) =
    let i = size-only x u p.0 (size_pos u) in
    let j = size-only x u p.1 (size_pos u) in
    let k = pair_sizes-only x u ps in omega (arith, i, j, k)

-- ---- what falls where the size falls, and where a variable is bound, which at most squares the size

unfoldable pub potential : ℕ → ℕ → ℕ
potential zero s = s
potential (suc n) s = suc s + potential n (s * s)

pub potential-le : (n s r : ℕ) → s ≤ r → potential n s ≤ potential n r
unfolding potential
potential-le zero s r h = h
potential-le (suc n) s r h = let k = potential-le n (s * s) (r * r) (mul-le-mul h h) in omega (arith, k)

pub potential-lt : (n s r : ℕ) → s < r → potential n s < potential n r
unfolding potential
potential-lt zero s r h = h
potential-lt (suc n) s r h = let low : s ≤ r = omega arith in let k = potential-le n (s * s) (r * r) (mul-le-mul low low) in omega (arith, k)

pub potential-bind : (n s r : ℕ) → r ≤ s * s → potential n r < potential (suc n) s
unfolding potential
potential-bind n s r h = let k = potential-le n r (s * s) h in omega (arith, k)
