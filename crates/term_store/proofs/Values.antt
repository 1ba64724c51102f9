-- What a cell stands for, and what a look into the bindings gives.
use Rattle.std.proofs.Common.{◌≡◌, ℕ, ℤ, suc, ◌<◌, List, [], ◌∷◌, length, Bool, true, false, cond, nat_eq, All, Some, None, refl, sym, ap, ap₂, ◌∙◌, arith, subst}
use Rattle.prolog_terms.specs.Tree.{Tree, variable, integer, atom, compound}
use Rattle.prolog_terms.specs.Substitutions.{substituted}
use Rattle.term_store.specs.declared.cell.Cell.{Cell}
use Rattle.term_store.specs.declared.cell.Cell.TheVariants.{Variable, Integer, Atom, Compound}
use Rattle.term_store.specs.Shape.{Shape}
use Rattle.term_store.specs.Terms.{value, trees_of, row_at, raw_at, raw_by, bindings_by, resolved, lookup, IsOlder, IsTriangular, IsShape}
use Rattle.term_store.specs.Work.{IsUnbound, IsSolved, Solves, rank}
use Rattle.term_store.proofs.Trees.{test-Occurs}
use Rattle.term_store.proofs.Bindings.{resolved_unbound, Solves-resolved}
use Rattle.term_store.proofs.Rows.{raw-variable, raw-compound, substituted-trees_of}

-- ---- what a cell stands for

-- a list of bindings to cells leaves a variable free
pub free-unbound : (name : ℕ → List ℕ) (rows : List (ℕ × List Cell)) (bs : List (ℕ × Cell)) (x : ℕ) → lookup bs x ≡ None → IsUnbound x (bindings_by name rows bs)
free-unbound name rows [] x e = tt
free-unbound name rows (b ∷ bs) x e = go (nat_eq x b.0) refl (free-unbound name rows bs x) e
  where
    go : (c : Bool) → nat_eq x b.0 ≡ c → (lookup bs x ≡ None → IsUnbound x (bindings_by name rows bs)) → cond c (Some b.1) (lookup bs x) ≡ None → IsUnbound x (bindings_by name rows (b ∷ bs))
    go true q k f = cc
    go false q k f = ((λ same. grind arith), k f)

raw-older : (name : ℕ → List ℕ) (rows : List (ℕ × List Cell)) (x : ℕ) (c : Cell) → IsOlder x c → (w : ℕ) → raw_by name rows c ≡ variable w → w < x
unfolding raw_at
raw-older name rows x (Variable v) h w e = let same : v ≡ w = cc in omega (arith, h, same)
raw-older name rows x (Integer z) h w e = cc
raw-older name rows x (Atom a) h w e = cc
raw-older name rows x (Compound i) h w e = cc

-- bindings of a store are a solved form
pub triangular-solved : (name : ℕ → List ℕ) (rows : List (ℕ × List Cell)) (bs : List (ℕ × Cell)) → IsTriangular name rows bs → IsSolved (bindings_by name rows bs)
triangular-solved name rows [] h = tt
triangular-solved name rows (b ∷ bs) h = (
  free-unbound name rows bs b.0 h.0,
  (λ o. h.1 (test-Occurs b.0 _ o)),
  raw-older name rows b.0 b.1 h.2,
  triangular-solved name rows bs h.3,
)

pub shape-solved : (name : ℕ → List ℕ) (s : Shape) → IsShape s → IsSolved (bindings_by name s.compounds s.bindings)
shape-solved name s h = triangular-solved name s.compounds s.bindings (h.triangular name)

pub value-free : (name : ℕ → List ℕ) (s : Shape) (v : ℕ) → lookup s.bindings v ≡ None → value name s (Variable v) ≡ variable v
unfolding raw_at
value-free name s v e = resolved_unbound v (bindings_by name s.compounds s.bindings) (free-unbound name s.compounds s.bindings v e)

pub value-integer : (name : ℕ → List ℕ) (s : Shape) (z : ℤ) → value name s (Integer z) ≡ integer z
unfolding raw_at
value-integer name s z = refl

pub value-atom : (name : ℕ → List ℕ) (s : Shape) (a : ℕ) → value name s (Atom a) ≡ atom (name a)
unfolding raw_at
value-atom name s a = refl

pub value-compound : (name : ℕ → List ℕ) (s : Shape) (i : ℕ) → IsShape s → i < length s.compounds
    → value name s (Compound i) ≡ compound (name (row_at s.compounds i).0) (trees_of (value name s) (row_at s.compounds i).1)
value-compound name s i h low =
    ap (substituted (resolved (bindings_by name s.compounds s.bindings))) (raw-compound name s.compounds s.variables h.compounds i low)
    ∙ ap (compound (name (row_at s.compounds i).0)) (substituted-trees_of (resolved (bindings_by name s.compounds s.bindings)) (raw_by name s.compounds) (row_at s.compounds i).1)

-- ---- where a variable is bound

pub bound-in : (P : ℕ × Cell → Type 0) (bs : List (ℕ × Cell)) (x : ℕ) (c : Cell) → All P bs → lookup bs x ≡ Some c → P (x, c)
bound-in P [] x c h e = cc
bound-in P (b ∷ bs) x c h e = go (nat_eq x b.0) refl (bound-in P bs x c (λ k d lt. h (suc k) d (omega arith))) e
  where
    go : (t : Bool) → nat_eq x b.0 ≡ t → (lookup bs x ≡ Some c → P (x, c)) → cond t (Some b.1) (lookup bs x) ≡ Some c → P (x, c)
    go true q k f =
        let same : x ≡ b.0 = grind arith in let cell : b.1 ≡ c = cc in
        let it : b ≡ (x, c) = ap₂ (λ (y : ℕ) (d : Cell). (y, d)) (sym same) cell in
        subst P it (h 0 b (omega arith))
    go false q k f = k f

pub bound-older : (name : ℕ → List ℕ) (rows : List (ℕ × List Cell)) (bs : List (ℕ × Cell)) (x : ℕ) (c : Cell) → IsTriangular name rows bs → lookup bs x ≡ Some c → IsOlder x c
bound-older name rows [] x c h e = cc
bound-older name rows (b ∷ bs) x c h e = go (nat_eq x b.0) refl (bound-older name rows bs x c h.3) e
  where
    go : (t : Bool) → nat_eq x b.0 ≡ t → (lookup bs x ≡ Some c → IsOlder x c) → cond t (Some b.1) (lookup bs x) ≡ Some c → IsOlder x c
    go true q k f =
        let same : b.0 ≡ x = grind arith in let cell : b.1 ≡ c = cc in
        subst (λ (y : ℕ). IsOlder y c) same (subst (IsOlder b.0) cell h.2)
    go false q k f = k f

pub older-rank : (x : ℕ) (c : Cell) → IsOlder x c → rank c < suc x
older-rank x (Variable v) h = omega (arith, h)
older-rank x (Integer z) h = omega arith
older-rank x (Atom a) h = omega arith
older-rank x (Compound i) h = omega arith

pub bound-Solves : (name : ℕ → List ℕ) (rows : List (ℕ × List Cell)) (s : ℕ → Tree) (bs : List (ℕ × Cell)) (x : ℕ) (c : Cell)
    → Solves s (bindings_by name rows bs) → lookup bs x ≡ Some c → substituted s (raw_by name rows c) ≡ substituted s (raw_by name rows (Variable x))
bound-Solves name rows s [] x c h e = cc
bound-Solves name rows s (b ∷ bs) x c h e = go (nat_eq x b.0) refl (bound-Solves name rows s bs x c h.1) e
  where
    go : (t : Bool) → nat_eq x b.0 ≡ t → (lookup bs x ≡ Some c → substituted s (raw_by name rows c) ≡ substituted s (raw_by name rows (Variable x)))
        → cond t (Some b.1) (lookup bs x) ≡ Some c → substituted s (raw_by name rows c) ≡ substituted s (raw_by name rows (Variable x))
    go true q k f =
        let same : b.0 ≡ x = grind arith in let cell : c ≡ b.1 = cc in
        ap (λ (d : Cell). substituted s (raw_by name rows d)) cell ∙ sym h.0 ∙ ap s same ∙ ap (substituted s) (sym (raw-variable name rows x))
    go false q k f = k f

-- two cells that no solution tells apart stand for the same
pub value-same : (name : ℕ → List ℕ) (s : Shape) (c d : Cell) → IsShape s
    → ((r : ℕ → Tree) → Solves r (bindings_by name s.compounds s.bindings) → substituted r (raw_by name s.compounds c) ≡ substituted r (raw_by name s.compounds d))
    → value name s c ≡ value name s d
value-same name s c d h e = e (resolved (bindings_by name s.compounds s.bindings)) (Solves-resolved (bindings_by name s.compounds s.bindings) (shape-solved name s h))
