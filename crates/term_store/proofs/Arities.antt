-- The compounds of a store's terms have 1 to 255 arguments.
use Rattle.std.proofs.Common.{◌≡◌, ℕ, zero, suc, ◌+◌, ◌<◌, ◌≤◌, List, [], ◌∷◌, length, All, Bool, true, false, refl, ap, arith}
use Rattle.std.specs.Prelude.{◌==◌, if◌then◌else◌}
use Rattle.prolog_terms.specs.Tree.{Tree, Trees, variable, integer, atom, compound, none, more, count, HasArities, AllHaveArities}
use Rattle.prolog_terms.specs.Substitutions.{substituted, all_substituted}
use Rattle.term_unifier.specs.Unifier.{only}
use Rattle.term_store.specs.declared.cell.Cell.{Cell}
use Rattle.term_store.specs.declared.cell.Cell.TheVariants.{Variable, Integer, Atom, Compound}
use Rattle.term_store.specs.Shape.{Shape}
use Rattle.term_store.specs.Terms.{trees_of, row_at, raw_at, raw_by, bindings_by, resolved, IsWithin, IsCell, IsRow, IsShape}
use Rattle.term_store.proofs.Rows.{within-more}

pub count-trees : (f : Cell → Tree) (cs : List Cell) → count (trees_of f cs) ≡ length cs
count-trees f [] = refl
count-trees f (c ∷ cs) = let h = count-trees f cs in omega (arith, h)

trees-arities : (f : Cell → Tree) (P : Cell → Type 0) (cs : List Cell) → All P cs → ((c : Cell) → P c → HasArities (f c)) → AllHaveArities (trees_of f cs)
trees-arities f P [] h e = tt
trees-arities f P (c ∷ cs) h e = (e c (h 0 c (omega arith)), trees-arities f P cs (λ k d lt. h (suc k) d (omega arith)) e)

raw-arities : (name : ℕ → List ℕ) (rows : List (ℕ × List Cell)) (m : ℕ) → ((i : ℕ) → i < length rows → IsRow m i (row_at rows i))
    → (k : ℕ) (c : Cell) → k ≤ length rows → IsWithin k m c → HasArities (raw_at (suc k) name rows c)
unfolding raw_at
raw-arities name rows m h k (Variable v) low w = tt
raw-arities name rows m h k (Integer z) low w = tt
raw-arities name rows m h k (Atom a) low w = tt
raw-arities name rows m h zero (Compound i) low w = absurd (omega arith)
raw-arities name rows m h (suc k) (Compound i) low w =
    let less : i < length rows = omega arith in
    let row = h i less in
    let e = count-trees (raw_at (suc k) name rows) (row_at rows i).1 in
    let some = row.some in let few = row.few in (
      omega (arith, e, some),
      omega (arith, e, few),
      trees-arities (raw_at (suc k) name rows) (IsWithin i m) (row_at rows i).1 row.before
          (λ c v. raw-arities name rows m h k c (omega arith) (within-more i k m m c (omega arith) (omega arith) v)),
    )

count-substituted : (s : ℕ → Tree) (ts : Trees) → count (all_substituted s ts) ≡ count ts
count-substituted s none = refl
count-substituted s (more t ts) = ap (λ (n : ℕ). n + 1) (count-substituted s ts)

mutual
  pub substituted-arities : (s : ℕ → Tree) → ((v : ℕ) → HasArities (s v)) → (t : Tree) → HasArities t → HasArities (substituted s t)
  substituted-arities s h (variable v) a = h v
  substituted-arities s h (integer z) a = tt
  substituted-arities s h (atom x) a = tt
  substituted-arities s h (compound f ts) a =
      let e = count-substituted s ts in let some = a.0 in let few = a.1 in
      (omega (arith, e, some), omega (arith, e, few), all_substituted-arities s h ts a.2)

  all_substituted-arities : (s : ℕ → Tree) → ((v : ℕ) → HasArities (s v)) → (ts : Trees) → AllHaveArities ts → AllHaveArities (all_substituted s ts)
  all_substituted-arities s h none a = tt
  all_substituted-arities s h (more t ts) a = (substituted-arities s h t a.0, all_substituted-arities s h ts a.1)

only-arities : (x : ℕ) (t : Tree) → HasArities t → (v : ℕ) → HasArities (only x t v)
only-arities x t h v = go (v == x)
  where
    go : (b : Bool) → HasArities (if b then t else variable v)
    go true = h
    go false = tt

resolved-arities : (name : ℕ → List ℕ) (rows : List (ℕ × List Cell)) (bs : List (ℕ × Cell)) → All (λ b. HasArities (raw_by name rows b.1)) bs
    → (v : ℕ) → HasArities (resolved (bindings_by name rows bs) v)
resolved-arities name rows [] h v = tt
resolved-arities name rows (b ∷ bs) h v =
    let rest : (w : ℕ) → HasArities (resolved (bindings_by name rows bs) w) = λ w. resolved-arities name rows bs (λ k d lt. h (suc k) d (omega arith)) w in
    substituted-arities (only b.0 (substituted (resolved (bindings_by name rows bs)) (raw_by name rows b.1)))
    (only-arities b.0 _ (substituted-arities (resolved (bindings_by name rows bs)) rest (raw_by name rows b.1) (h 0 b (omega arith)))) (resolved (bindings_by name rows bs) v) (rest v)

pub terms-arities : (s : Shape) (name : ℕ → List ℕ) (c : Cell) → IsShape s → IsCell s c
    → HasArities (raw_by name s.compounds c) × HasArities (substituted (resolved (bindings_by name s.compounds s.bindings)) (raw_by name s.compounds c))
terms-arities s name c h w =
    let built : (d : Cell) → IsCell s d → HasArities (raw_by name s.compounds d) = λ d v. raw-arities name s.compounds s.variables h.compounds (length s.compounds) d (omega arith) v in (
      built c w,
      substituted-arities (resolved (bindings_by name s.compounds s.bindings))
          (resolved-arities name s.compounds s.bindings (λ k d lt. built _ (h.bindings k d lt).1)) (raw_by name s.compounds c) (built c w),
    )
