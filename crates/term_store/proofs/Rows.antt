-- The term of a compound, and what it does not depend on.
use Rattle.std.proofs.Common.{◌≡◌, ℕ, zero, suc, ◌<◌, ◌≤◌, ℤ, List, [], ◌∷◌, ◌++◌, length, All, refl, sym, ap, ap₂, ◌∙◌, arith, subst, length-append}
use Rattle.std.proofs.lemmas.List.{get_or_append_left}
use Rattle.prolog_terms.specs.Tree.{Tree, variable, integer, atom, compound, more}
use Rattle.prolog_terms.specs.Substitutions.{substituted, all_substituted}
use Rattle.term_store.specs.declared.cell.Cell.{Cell}
use Rattle.term_store.specs.declared.cell.Cell.TheVariants.{Variable, Integer, Atom, Compound}
use Rattle.term_store.specs.Terms.{trees_of, row_at, raw_at, raw_by, bindings_by, IsWithin, IsNamed, IsRow}

pub trees_of-same : (f g : Cell → Tree) (P : Cell → Type 0) (cs : List Cell) → All P cs → ((c : Cell) → P c → f c ≡ g c) → trees_of f cs ≡ trees_of g cs
trees_of-same f g P [] h e = refl
trees_of-same f g P (c ∷ cs) h e = ap₂ more (e c (h 0 c (omega arith))) (trees_of-same f g P cs (λ k d lt. h (suc k) d (omega arith)) e)

pub substituted-trees_of : (r : ℕ → Tree) (f : Cell → Tree) (cs : List Cell) → all_substituted r (trees_of f cs) ≡ trees_of (λ c. substituted r (f c)) cs
substituted-trees_of r f [] = refl
substituted-trees_of r f (c ∷ cs) = ap (more (substituted r (f c))) (substituted-trees_of r f cs)

pub within-more : (n k m j : ℕ) (c : Cell) → n ≤ k → m ≤ j → IsWithin n m c → IsWithin k j c
within-more n k m j (Variable v) le wide h = omega (arith, h, wide)
within-more n k m j (Integer z) le wide h = tt
within-more n k m j (Atom a) le wide h = tt
within-more n k m j (Compound i) le wide h = omega (arith, h, le)

pub all_within-more : (n k m j : ℕ) (cs : List Cell) → n ≤ k → m ≤ j → All (IsWithin n m) cs → All (IsWithin k j) cs
all_within-more n k m j cs le wide h i d lt = within-more n k m j _ le wide (h i d lt)

-- deep enough is as good as deeper
pub raw-deep : (name : ℕ → List ℕ) (rows : List (ℕ × List Cell)) (m n : ℕ) → ((i : ℕ) → i < n → IsRow m i (row_at rows i))
    → (k j : ℕ) (c : Cell) → k ≤ n → IsWithin k m c → IsWithin j m c → raw_at (suc k) name rows c ≡ raw_at (suc j) name rows c
unfolding raw_at
raw-deep name rows m n h k j (Variable v) low a b = refl
raw-deep name rows m n h k j (Integer z) low a b = refl
raw-deep name rows m n h k j (Atom x) low a b = refl
raw-deep name rows m n h zero j (Compound i) low a b = absurd (omega arith)
raw-deep name rows m n h (suc k) zero (Compound i) low a b = absurd (omega arith)
raw-deep name rows m n h (suc k) (suc j) (Compound i) low a b =
    ap (compound (name (row_at rows i).0))
    (trees_of-same _ _ (IsWithin i m) (row_at rows i).1 (h i (omega arith)).before
    (λ c w. raw-deep name rows m n h k j c (omega arith) (within-more i k m m c (omega arith) (omega arith) w) (within-more i j m m c (omega arith) (omega arith) w)))

-- the term of a compound
pub raw-compound : (name : ℕ → List ℕ) (rows : List (ℕ × List Cell)) (m : ℕ) → ((i : ℕ) → i < length rows → IsRow m i (row_at rows i))
    → (i : ℕ) → i < length rows
    → raw_by name rows (Compound i) ≡ compound (name (row_at rows i).0) (trees_of (raw_by name rows) (row_at rows i).1)
unfolding raw_at
raw-compound name rows m h i low = go (length rows) refl
  where
    go : (n : ℕ) → length rows ≡ n
        → compound (name (row_at rows i).0) (trees_of (raw_at n name rows) (row_at rows i).1) ≡ compound (name (row_at rows i).0) (trees_of (raw_by name rows) (row_at rows i).1)
    go zero e = absurd (omega arith)
    go (suc n) e = ap (compound (name (row_at rows i).0))
        (trees_of-same _ _ (IsWithin i m) (row_at rows i).1 (h i low).before
        (λ c w. raw-deep name rows m (length rows) h n (length rows) c (omega arith)
        (within-more i n m m c (omega arith) (omega arith) w) (within-more i (length rows) m m c (omega arith) (omega arith) w)))

pub raw-variable : (name : ℕ → List ℕ) (rows : List (ℕ × List Cell)) (v : ℕ) → raw_by name rows (Variable v) ≡ variable v
unfolding raw_at
raw-variable name rows v = refl

pub raw-integer : (name : ℕ → List ℕ) (rows : List (ℕ × List Cell)) (z : ℤ) → raw_by name rows (Integer z) ≡ integer z
unfolding raw_at
raw-integer name rows z = refl

pub raw-atom : (name : ℕ → List ℕ) (rows : List (ℕ × List Cell)) (a : ℕ) → raw_by name rows (Atom a) ≡ atom (name a)
unfolding raw_at
raw-atom name rows a = refl

-- ---- more compounds

pub row-left : (rows added : List (ℕ × List Cell)) (i : ℕ) → i < length rows → row_at (rows ++ added) i ≡ row_at rows i
row-left rows added i low = get_or_append_left rows added (0, []) i low

raw-grown : (name : ℕ → List ℕ) (rows added : List (ℕ × List Cell)) (m : ℕ) → ((i : ℕ) → i < length rows → IsRow m i (row_at rows i))
    → (k : ℕ) (c : Cell) → k ≤ length rows → IsWithin k m c → raw_at (suc k) name (rows ++ added) c ≡ raw_at (suc k) name rows c
unfolding raw_at
raw-grown name rows added m h k (Variable v) low w = refl
raw-grown name rows added m h k (Integer z) low w = refl
raw-grown name rows added m h k (Atom a) low w = refl
raw-grown name rows added m h zero (Compound i) low w = absurd (omega arith)
raw-grown name rows added m h (suc k) (Compound i) low w =
    let less : i < length rows = omega arith in
    ap (λ (row : ℕ × List Cell). compound (name row.0) (trees_of (raw_at (suc k) name (rows ++ added)) row.1)) (row-left rows added i less)
    ∙ ap (compound (name (row_at rows i).0)) (trees_of-same _ _ (IsWithin i m) (row_at rows i).1 (h i less).before
    (λ c v. raw-grown name rows added m h k c (omega arith) (within-more i k m m c (omega arith) (omega arith) v)))

-- cells that were there have the terms that they had
pub raw-later : (name : ℕ → List ℕ) (rows added : List (ℕ × List Cell)) (m : ℕ) → ((i : ℕ) → i < length rows → IsRow m i (row_at rows i))
    → (c : Cell) → IsWithin (length rows) m c → raw_by name (rows ++ added) c ≡ raw_by name rows c
raw-later name rows added m h c w =
    let e = length-append rows added in
    sym (raw-deep name (rows ++ added) m (length rows) (λ i low. subst (IsRow m i) (sym (row-left rows added i low)) (h i low)) (length rows) (length (rows ++ added)) c
    (omega arith) w (within-more (length rows) (length (rows ++ added)) m m c (omega (arith, e)) (omega arith) w))
    ∙ raw-grown name rows added m h (length rows) c (omega arith) w

pub bindings-later : (name : ℕ → List ℕ) (rows added : List (ℕ × List Cell)) (m : ℕ) → ((i : ℕ) → i < length rows → IsRow m i (row_at rows i))
    → (bs : List (ℕ × Cell)) → All (λ b. IsWithin (length rows) m b.1) bs → bindings_by name (rows ++ added) bs ≡ bindings_by name rows bs
bindings-later name rows added m h [] w = refl
bindings-later name rows added m h (b ∷ bs) w =
    ap₂ (λ (t : Tree) (cs : List (ℕ × Tree)). (b.0, t) ∷ cs) (raw-later name rows added m h b.1 (w 0 b (omega arith)))
    (bindings-later name rows added m h bs (λ k d lt. w (suc k) d (omega arith)))

-- ---- other names

pub raw-names : (f g : ℕ → List ℕ) (rows : List (ℕ × List Cell)) (m count : ℕ) → ((n : ℕ) → n < count → f n ≡ g n)
    → ((i : ℕ) → i < length rows → IsRow m i (row_at rows i))
    → ((i : ℕ) → i < length rows → ((row_at rows i).0 < count) × All (IsNamed count) (row_at rows i).1)
    → (k : ℕ) (c : Cell) → k ≤ length rows → IsWithin k m c → IsNamed count c → raw_at (suc k) f rows c ≡ raw_at (suc k) g rows c
unfolding raw_at
raw-names f g rows m count e h named k (Variable v) low w a = refl
raw-names f g rows m count e h named k (Integer z) low w a = refl
raw-names f g rows m count e h named k (Atom n) low w a = ap atom (e n a)
raw-names f g rows m count e h named zero (Compound i) low w a = absurd (omega arith)
raw-names f g rows m count e h named (suc k) (Compound i) low w a =
    let less : i < length rows = omega arith in
    ap₂ compound (e (row_at rows i).0 (named i less).0)
    (trees_of-same _ _ (λ d. IsWithin i m d × IsNamed count d) (row_at rows i).1 (λ j d lt. ((h i less).before j d lt, (named i less).1 j d lt))
    (λ d v. raw-names f g rows m count e h named k d (omega arith) (within-more i k m m d (omega arith) (omega arith) v.0) v.1))

pub bindings-names : (f g : ℕ → List ℕ) (rows : List (ℕ × List Cell)) (m count : ℕ) → ((n : ℕ) → n < count → f n ≡ g n)
    → ((i : ℕ) → i < length rows → IsRow m i (row_at rows i))
    → ((i : ℕ) → i < length rows → ((row_at rows i).0 < count) × All (IsNamed count) (row_at rows i).1)
    → (bs : List (ℕ × Cell)) → All (λ b. IsWithin (length rows) m b.1) bs → All (λ b. IsNamed count b.1) bs → bindings_by f rows bs ≡ bindings_by g rows bs
bindings-names f g rows m count e h named [] w a = refl
bindings-names f g rows m count e h named (b ∷ bs) w a =
    ap₂ (λ (t : Tree) (cs : List (ℕ × Tree)). (b.0, t) ∷ cs)
    (raw-names f g rows m count e h named (length rows) b.1 (omega arith) (w 0 b (omega arith)) (a 0 b (omega arith)))
    (bindings-names f g rows m count e h named bs (λ k d lt. w (suc k) d (omega arith)) (λ k d lt. a (suc k) d (omega arith)))
