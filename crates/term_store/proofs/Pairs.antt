-- Pairs of cells that are to be made equal.
use Rattle.std.proofs.Common.{◌≡◌, ℕ, zero, suc, ◌+◌, ◌<◌, ◌≤◌, List, [], ◌∷◌, ◌++◌, length, take, All, refl, ap, ap₂, arith, slice_index_or, add-one}
use Rattle.prolog_terms.specs.Tree.{Tree, more}
use Rattle.prolog_terms.specs.Substitutions.{all_substituted}
use Rattle.term_store.specs.declared.cell.Cell.{Cell}
use Rattle.term_store.specs.declared.solve.Pair.{Pair}
use Rattle.term_store.specs.Terms.{trees_of}
use Rattle.term_store.specs.Work.{size_all, AllEqual, ArePairs, work_size, pairs_of}
use Rattle.term_store.proofs.Trees.{same_first, same_rest}

-- rows of pairs
pub AllEqual-append : (s : ℕ → Tree) (f : Cell → Tree) (ps qs : List Pair) → AllEqual s f ps → AllEqual s f qs → AllEqual s f (ps ++ qs)
AllEqual-append s f [] qs h k = k
AllEqual-append s f (p ∷ ps) qs h k = (h.0, AllEqual-append s f ps qs h.1 k)

pub AllEqual-left : (s : ℕ → Tree) (f : Cell → Tree) (ps qs : List Pair) → AllEqual s f (ps ++ qs) → AllEqual s f ps
AllEqual-left s f [] qs h = tt
AllEqual-left s f (p ∷ ps) qs h = (h.0, AllEqual-left s f ps qs h.1)

pub AllEqual-right : (s : ℕ → Tree) (f : Cell → Tree) (ps qs : List Pair) → AllEqual s f (ps ++ qs) → AllEqual s f qs
AllEqual-right s f [] qs h = h
AllEqual-right s f (p ∷ ps) qs h = AllEqual-right s f ps qs h.1

pub ArePairs-append : (P : Cell → Type 0) (ps qs : List Pair) → ArePairs P ps → ArePairs P qs → ArePairs P (ps ++ qs)
ArePairs-append P [] qs h k = k
ArePairs-append P (p ∷ ps) qs h k = (h.0, h.1, ArePairs-append P ps qs h.2 k)

pub ArePairs-left : (P : Cell → Type 0) (ps qs : List Pair) → ArePairs P (ps ++ qs) → ArePairs P ps
ArePairs-left P [] qs h = tt
ArePairs-left P (p ∷ ps) qs h = (h.0, h.1, ArePairs-left P ps qs h.2)

pub ArePairs-right : (P : Cell → Type 0) (ps qs : List Pair) → ArePairs P (ps ++ qs) → ArePairs P qs
ArePairs-right P [] qs h = h
ArePairs-right P (p ∷ ps) qs h = ArePairs-right P ps qs h.2

-- decomposition
pub AllEqual-pairs_of : (s : ℕ → Tree) (f : Cell → Tree) (ls rs : List Cell) → all_substituted s (trees_of f ls) ≡ all_substituted s (trees_of f rs) → AllEqual s f (pairs_of ls rs)
AllEqual-pairs_of s f [] rs e = tt
AllEqual-pairs_of s f (l ∷ ls) [] e = tt
AllEqual-pairs_of s f (l ∷ ls) (r ∷ rs) e = (same_first _ _ _ _ e, AllEqual-pairs_of s f ls rs (same_rest _ _ _ _ e))

pub pairs_of-AllEqual : (s : ℕ → Tree) (f : Cell → Tree) (ls rs : List Cell) → length ls ≡ length rs → AllEqual s f (pairs_of ls rs)
    → all_substituted s (trees_of f ls) ≡ all_substituted s (trees_of f rs)
pairs_of-AllEqual s f [] [] e h = refl
pairs_of-AllEqual s f [] (r ∷ rs) e h = absurd (omega arith)
pairs_of-AllEqual s f (l ∷ ls) [] e h = absurd (omega arith)
pairs_of-AllEqual s f (l ∷ ls) (r ∷ rs) e h = ap₂ more h.0 (pairs_of-AllEqual s f ls rs (omega arith) h.1)

pub same_length : (s : ℕ → Tree) (f : Cell → Tree) (ls rs : List Cell) → all_substituted s (trees_of f ls) ≡ all_substituted s (trees_of f rs) → length ls ≡ length rs
same_length s f [] [] e = refl
same_length s f [] (r ∷ rs) e = cc
same_length s f (l ∷ ls) [] e = cc
same_length s f (l ∷ ls) (r ∷ rs) e = let h = same_length s f ls rs (same_rest _ _ _ _ e) in omega (arith, h)

pub work_size-pairs_of : (f : Cell → Tree) (ls rs : List Cell) → length ls ≡ length rs
    → work_size f (pairs_of ls rs) ≡ size_all (trees_of f ls) + size_all (trees_of f rs)
work_size-pairs_of f [] [] e = refl
work_size-pairs_of f [] (r ∷ rs) e = absurd (omega arith)
work_size-pairs_of f (l ∷ ls) [] e = absurd (omega arith)
work_size-pairs_of f (l ∷ ls) (r ∷ rs) e = let h = work_size-pairs_of f ls rs (omega arith) in omega (arith, h)

pub ArePairs-pairs_of : (P : Cell → Type 0) (ls rs : List Cell) → All P ls → All P rs → ArePairs P (pairs_of ls rs)
ArePairs-pairs_of P [] rs h k = tt
ArePairs-pairs_of P (l ∷ ls) [] h k = tt
ArePairs-pairs_of P (l ∷ ls) (r ∷ rs) h k =
    (h 0 l (omega arith), k 0 r (omega arith), ArePairs-pairs_of P ls rs (λ i d lt. h (suc i) d (omega arith)) (λ i d lt. k (suc i) d (omega arith)))

pub take_all_pairs : (ls rs : List Cell) (k : ℕ) → length ls ≡ length rs → length ls ≤ k → take k (pairs_of ls rs) ≡ pairs_of ls rs
take_all_pairs [] rs zero e low = refl
take_all_pairs [] rs (suc k) e low = refl
take_all_pairs (l ∷ ls) [] k e low = absurd (omega arith)
take_all_pairs (l ∷ ls) (r ∷ rs) zero e low = absurd (omega arith)
take_all_pairs (l ∷ ls) (r ∷ rs) (suc k) e low = ap (λ (ps : List Pair). record { left = l; right = r } ∷ ps) (take_all_pairs ls rs k (omega arith) (omega arith))

take-suc_pairs : (ls rs : List Cell) (k : ℕ) (d : Cell) → length ls ≡ length rs → k < length ls
    → take (suc k) (pairs_of ls rs) ≡ take k (pairs_of ls rs) ++ (record { left = slice_index_or ls k d; right = slice_index_or rs k d } ∷ [])
take-suc_pairs [] rs k d e low = absurd (omega arith)
take-suc_pairs (x ∷ ls) [] k d e low = absurd (omega arith)
take-suc_pairs (x ∷ ls) (y ∷ rs) zero d e low = refl
take-suc_pairs (x ∷ ls) (y ∷ rs) (suc k) d e low =
    ap (λ (ps : List Pair). record { left = x; right = y } ∷ ps) (take-suc_pairs ls rs k d (omega arith) (omega arith))

pub take_pairs : (ls rs : List Cell) (k : ℕ) (d : Cell) → length ls ≡ length rs → k < length ls
    → take (k + 1) (pairs_of ls rs) ≡ take k (pairs_of ls rs) ++ (record { left = slice_index_or ls k d; right = slice_index_or rs k d } ∷ [])
take_pairs ls rs k d e low = rw add-one (take-suc_pairs ls rs k d e low)

pub AllEqual-empty : (s : ℕ → Tree) (f : Cell → Tree) (ps : List Pair) → length ps ≡ 0 → AllEqual s f ps
AllEqual-empty s f [] e = tt
AllEqual-empty s f (p ∷ ps) e = absurd (omega arith)
