-- A term that is put into a store.
use Rattle.std.proofs.Common.{◌≡◌, ℕ, ℤ, zero, suc, ◌+◌, ◌<◌, ◌≤◌, List, [], ◌∷◌, ◌++◌, length, reverse, drop, All, Bool, true, false, Some, nat_eq, refl, sym, ap, ap₂, ◌∙◌, arith, subst, append_assoc, append-nil, length-append, slice_index_or}
use Rattle.std.specs.Prelude.{slice_get, if◌then◌else◌}
use Rattle.std.specs.List.{list_any}
use Rattle.std.specs.Cmp.Lexicographic.{pointwise}
use Rattle.indexmap.specs.IndexSet.{insert_key}
use Rattle.std.proofs.lemmas.List.{reverse-append, length-reverse}
use Rattle.std.proofs.Math.Seq.{drop-cons}
use Rattle.std.proofs.lemmas.List.Elements.{All-cons, All-head}
use Rattle.std.proofs.lemmas.Option.{slice_get_within, slice_get-get_or}
use Rattle.prolog_terms.specs.Tree.{Tree, Trees, variable, integer, atom, compound, none, more, count, HasArities, AllHaveArities}
use Rattle.prolog_terms.specs.Substitutions.{substituted, all_substituted, beyond, beyond_all}
use Rattle.prolog_terms.specs.Flat.{nodes, nodes_all, forest, first, past, chained, forest-nodes, forest-nodes_all}
use Rattle.prolog_terms.specs.declared.node.Node.{Node}
use Rattle.prolog_terms.specs.declared.node.Node.TheVariants.{Var, Int, Atom, Functor}
use Rattle.term_store.specs.declared.cell.Cell.{Cell}
use Rattle.term_store.specs.declared.cell.Cell.TheVariants as cell
use Rattle.term_store.specs.Shape.{Shape}
use Rattle.term_store.specs.Terms.{text, raw, trees_of, HasTerm, AreNamed, IsShape}
use Rattle.term_store.specs.Later.{IsLater, AreLonger, AreDistinct}
use Rattle.term_store.specs.Puts.{shifted, placed, IsFit, AreFit, Grows, AreCells}
use Rattle.term_store.proofs.Rows.{trees_of-same, raw-variable, raw-integer, raw-atom}
use Rattle.term_store.proofs.Steps.{All-front}
use Rattle.term_store.proofs.Trees.{same_first}
use Rattle.term_store.proofs.Laws.{later-itself, longer-itself, longer-further, longer-length, raw-stays, has_term-later, are_named-more, named-compound, raw-new}

pub taken-more : {A : Type 0} (all row row' stack rest : List A) (x : A) → reverse all ≡ row ++ reverse stack → stack ≡ rest ++ x ∷ [] → row' ≡ row ++ x ∷ [] → reverse all ≡ row' ++ reverse rest
taken-more all row row' stack rest x e popped pushed =
    e ∙ ap (λ (xs : List _). row ++ xs) (ap reverse popped ∙ reverse-append rest (x ∷ [])) ∙ sym (append_assoc row (x ∷ []) (reverse rest))
    ∙ ap (λ (xs : List _). xs ++ reverse rest) (sym pushed)

-- a stack has so many cells as it had but for the row
pub taken-length : {A : Type 0} (all row stack : List A) → reverse all ≡ row ++ reverse stack → length all ≡ length row + length stack
taken-length all row stack e =
    let a = length-reverse all in let b = length-reverse stack in let k = ap length e ∙ length-append row (reverse stack) in omega (arith, a, b, k)

-- ---- names

pub intern-longer : (texts after : List (List ℕ)) (t : List ℕ) → after ≡ insert_key (pointwise nat_eq) texts t → AreLonger texts after
intern-longer texts after t e = go (list_any (pointwise nat_eq t) texts) e
  where
    go : (b : Bool) → after ≡ (if b then texts else texts ++ t ∷ []) → AreLonger texts after
    go true k = record { added = []; texts = k ∙ sym (append-nil texts) }
    go false k = record { added = t ∷ []; texts = k }

some-same : {A : Type 0} (x y : A) → Some x ≡ Some y → x ≡ y
some-same x y e = cc e

pub number-text : (texts : List (List ℕ)) (n : ℕ) (t : List ℕ) → slice_get texts n ≡ Some t → text texts n ≡ t
number-text texts n t e = some-same _ _ (sym (slice_get-get_or texts n [] (slice_get_within texts n t e)) ∙ e)

pub grows-names : (s : Shape) (texts after : List (List ℕ)) → AreLonger texts after → (AreDistinct texts → AreDistinct after) → AreNamed (length texts) s → Grows s texts s after
grows-names s texts after longer distinct named = record {
  rows = [];
  same = ap (λ (rows : List (ℕ × List Cell)). record s { compounds = rows }) (sym (append-nil s.compounds));
  longer = longer;
  distinct = distinct;
  named = are_named-more (length texts) (length after) s (longer-length texts after longer) named;
}

-- ---- cells

pub cells-stay : (s t : Shape) (texts after : List (List ℕ)) (stack : List Cell) (ts : Trees) → IsShape s → AreNamed (length texts) s → IsLater s t → AreLonger texts after
    → AreCells s texts stack ts → AreCells t after stack ts
cells-stay s t texts after stack ts h named later longer cells = record {
  cells = λ k d lt. has_term-later s t (length texts) (length after) _ later (longer-length texts after longer) (cells.cells k d lt);
  trees = trees_of-same (raw after t) (raw texts s) (HasTerm (length texts) s) (reverse stack) cells.cells (λ c w. raw-stays s t texts after c h named later longer w) ∙ cells.trees;
}

pub cells-push : (s : Shape) (texts : List (List ℕ)) (stack after : List Cell) (ts : Trees) (c : Cell) (u : Tree) → AreCells s texts stack ts → HasTerm (length texts) s c → raw texts s c ≡ u
    → after ≡ stack ++ c ∷ [] → AreCells s texts after (more u ts)
cells-push s texts stack after ts c u cells has is pushed =
    let e : reverse after ≡ c ∷ reverse stack = ap reverse pushed ∙ reverse-append stack (c ∷ []) in record {
      cells = subst (All (HasTerm (length texts) s)) (sym e) (All-cons (HasTerm (length texts) s) c (reverse stack) has cells.cells);
      trees = ap (trees_of (raw texts s)) e ∙ ap₂ more is cells.trees;
    }

pub all-right : {A : Type 0} (P : A → Type 0) (xs ys : List A) → All P (xs ++ ys) → All P ys
all-right P [] ys h = h
all-right P (x ∷ xs) ys h = all-right P xs ys (λ k d lt. h (suc k) d (omega arith))

pub first-row : (f : Cell → Tree) (xs ys : List Cell) → first (length xs) (trees_of f (xs ++ ys)) ≡ trees_of f xs
first-row f [] ys = refl
first-row f (x ∷ xs) ys = ap (more (f x)) (first-row f xs ys)

pub past-row : (f : Cell → Tree) (xs ys : List Cell) → past (length xs) (trees_of f (xs ++ ys)) ≡ trees_of f ys
past-row f [] ys = refl
past-row f (x ∷ xs) ys = past-row f xs ys

pub all-row : (s : Shape) (texts : List (List ℕ)) (stack row rest : List Cell) → All (HasTerm (length texts) s) (reverse stack) → reverse stack ≡ row ++ reverse rest → All (HasTerm (length texts) s) row
all-row s texts stack row rest h taken = All-front (HasTerm (length texts) s) (reverse stack) row (reverse rest) taken h

module _ (s : Shape) (texts : List (List ℕ)) (stack row rest : List Cell) (ts : Trees) (n : ℕ) (cells : AreCells s texts stack ts)
    (taken : reverse stack ≡ row ++ reverse rest) (long : length row ≡ n) where
  trees_are : trees_of (raw texts s) (row ++ reverse rest) ≡ ts
  trees_are = ap (trees_of (raw texts s)) (sym taken) ∙ cells.trees

  pub trees-row : trees_of (raw texts s) row ≡ first n ts
  trees-row = sym (first-row (raw texts s) row (reverse rest)) ∙ ap₂ first long trees_are

  pub cells-rest : AreCells s texts rest (past n ts)
  cells-rest = record {
    cells = all-right (HasTerm (length texts) s) row (reverse rest) (subst (All (HasTerm (length texts) s)) taken cells.cells);
    trees = sym (past-row (raw texts s) row (reverse rest)) ∙ ap₂ past long trees_are;
  }

-- a compound of the row, over the names that have grown
module _ (s : Shape) (texts after : List (List ℕ)) (f : ℕ) (name : List ℕ) (row : List Cell) (h : IsShape s) (named : AreNamed (length texts) s)
    (longer : AreLonger texts after) (low : f < length after) (is : text after f ≡ name)
    (some : 1 ≤ length row) (few : length row ≤ 255) (valid : All (HasTerm (length texts) s) row) where
  abbrev new : Shape
  new = record s { compounds = s.compounds ++ (f, row) ∷ [] }

  named_after : AreNamed (length after) s
  named_after = are_named-more (length texts) (length after) s (longer-length texts after longer) named

  valid_after : All (HasTerm (length after) s) row
  valid_after k d lt = has_term-later s s (length texts) (length after) _ (later-itself s) (longer-length texts after longer) (valid k d lt)

  pub grows-compound : (AreDistinct texts → AreDistinct after) → Grows s texts new after
  grows-compound distinct = record {
    rows = (f, row) ∷ [];
    same = refl;
    longer = longer;
    distinct = distinct;
    named = named-compound (length after) s f row named_after low (λ k d lt. (valid_after k d lt).1);
  }

  pub compound-is : raw after new (cell.Compound (length s.compounds)) ≡ compound name (trees_of (raw texts s) row)
  compound-is =
      raw-new s after f row h some few (λ k d lt. (valid k d lt).0)
      ∙ ap₂ compound is (trees_of-same (raw after s) (raw texts s) (HasTerm (length texts) s) row valid (λ c w. raw-stays s s texts after c h named (later-itself s) longer w))

  pub compound-has : HasTerm (length after) new (cell.Compound (length s.compounds))
  compound-has = (let e = length-append s.compounds ((f, row) ∷ []) in omega (arith, e), tt)

-- ---- one node

pub cells-variable : (s : Shape) (texts : List (List ℕ)) (stack after : List Cell) (ts : Trees) (from n k : ℕ) (node : Node) → AreCells s texts stack ts → node ≡ Var n → IsFit s.variables from k node
    → after ≡ stack ++ cell.Variable (from + n) ∷ [] → AreCells s texts after (placed from node ts)
cells-variable s texts stack after ts from n k node cells e fit pushed =
    let low : from + n < s.variables = subst (IsFit s.variables from k) e fit in
    subst (λ (m : Node). AreCells s texts after (placed from m ts)) (sym e)
    (cells-push s texts stack after ts (cell.Variable (from + n)) (variable (from + n)) cells (low, tt) (raw-variable (text texts) s.compounds (from + n)) pushed)

pub cells-integer : (s : Shape) (texts : List (List ℕ)) (stack after : List Cell) (ts : Trees) (from : ℕ) (z : ℤ) (node : Node) → AreCells s texts stack ts → node ≡ Int z
    → after ≡ stack ++ cell.Integer z ∷ [] → AreCells s texts after (placed from node ts)
cells-integer s texts stack after ts from z node cells e pushed =
    subst (λ (m : Node). AreCells s texts after (placed from m ts)) (sym e)
    (cells-push s texts stack after ts (cell.Integer z) (integer z) cells (tt, tt) (raw-integer (text texts) s.compounds z) pushed)

pub cells-atom : (s : Shape) (texts longer : List (List ℕ)) (stack after : List Cell) (ts : Trees) (from n : ℕ) (a : List ℕ) (node : Node) → IsShape s → AreNamed (length texts) s
    → AreLonger texts longer → AreCells s texts stack ts → node ≡ Atom a → slice_get longer n ≡ Some a
    → after ≡ stack ++ cell.Atom n ∷ [] → AreCells s longer after (placed from node ts)
cells-atom s texts longer stack after ts from n a node h named more_names cells e is pushed =
    subst (λ (m : Node). AreCells s longer after (placed from m ts)) (sym e)
    (cells-push s longer stack after ts (cell.Atom n) (atom a) (cells-stay s s texts longer stack ts h named (later-itself s) more_names cells)
    (tt, slice_get_within longer n a is) (raw-atom (text longer) s.compounds n ∙ ap atom (number-text longer n a is)) pushed)

-- ---- the nodes of a term

pub count-chained : (ts us : Trees) → count (chained ts us) ≡ count ts + count us
count-chained none us = omega arith
count-chained (more t ts) us = let h = count-chained ts us in omega (arith, h)

mutual
  fit-nodes : (m from : ℕ) (t : Tree) (rest : List Node) → from + beyond t ≤ m → HasArities t → AreFit m from rest → AreFit m from (nodes t ++ rest)
  fit-nodes m from (variable n) rest low h r = (omega (arith, low), r)
  fit-nodes m from (integer z) rest low h r = (tt, r)
  fit-nodes m from (atom a) rest low h r = (tt, r)
  fit-nodes m from (compound f ts) rest low h r =
      let e = ap count (forest-nodes_all ts rest) ∙ count-chained ts (forest rest) in
      ((h.0, h.1, omega (arith, e)), fit-nodes_all m from ts rest low h.2 r)

  fit-nodes_all : (m from : ℕ) (ts : Trees) (rest : List Node) → from + beyond_all ts ≤ m → AllHaveArities ts → AreFit m from rest → AreFit m from (nodes_all ts ++ rest)
  fit-nodes_all m from none rest low h r = r
  fit-nodes_all m from (more t ts) rest low h r =
      rw (append_assoc (nodes t) (nodes_all ts) rest)
      (fit-nodes m from t (nodes_all ts ++ rest) (omega (arith, low)) h.0 (fit-nodes_all m from ts rest (omega (arith, low)) h.1 r))

pub fit-term : (m from : ℕ) (t : Tree) → from + beyond t ≤ m → HasArities t → AreFit m from (nodes t)
fit-term m from t low h = subst (AreFit m from) (append-nil (nodes t)) (fit-nodes m from t [] low h tt)

pub fit-drop : (m from : ℕ) (ns : List Node) (i : ℕ) → AreFit m from ns → AreFit m from (drop i ns)
fit-drop m from ns zero h = h
fit-drop m from [] (suc i) h = h
fit-drop m from (n ∷ ns) (suc i) h = fit-drop m from ns i h.1

pub fit-at : (m from : ℕ) (ns : List Node) (i : ℕ) (d : Node) → i < length ns → AreFit m from ns → IsFit m from (count (forest (drop (suc i) ns))) (slice_index_or ns i d)
fit-at m from [] i d low h = absurd (omega arith)
fit-at m from (n ∷ ns) zero d low h = h.0
fit-at m from (n ∷ ns) (suc i) d low h = fit-at m from ns i d (omega arith) h.1

pub first-substituted : (s : ℕ → Tree) (n : ℕ) (ts : Trees) → all_substituted s (first n ts) ≡ first n (all_substituted s ts)
first-substituted s zero ts = refl
first-substituted s (suc n) none = refl
first-substituted s (suc n) (more t ts) = ap (more (substituted s t)) (first-substituted s n ts)

pub past-substituted : (s : ℕ → Tree) (n : ℕ) (ts : Trees) → all_substituted s (past n ts) ≡ past n (all_substituted s ts)
past-substituted s zero ts = refl
past-substituted s (suc n) none = refl
past-substituted s (suc n) (more t ts) = past-substituted s n ts

forest-placed : (from : ℕ) (n : Node) (ns : List Node) → placed from n (all_substituted (shifted from) (forest ns)) ≡ all_substituted (shifted from) (forest (n ∷ ns))
forest-placed from (Var n) ns = refl
forest-placed from (Int z) ns = refl
forest-placed from (Atom a) ns = refl
forest-placed from (Functor f n) ns =
    ap₂ (λ (ts us : Trees). more (compound f ts) us) (sym (first-substituted (shifted from) n (forest ns))) (sym (past-substituted (shifted from) n (forest ns)))

pub next-placed : (from : ℕ) (ns : List Node) (i : ℕ) (d : Node) → i < length ns
    → placed from (slice_index_or ns i d) (all_substituted (shifted from) (forest (drop (suc i) ns))) ≡ all_substituted (shifted from) (forest (drop i ns))
next-placed from ns i d low =
    forest-placed from (slice_index_or ns i d) (drop (suc i) ns) ∙ ap (λ (ms : List Node). all_substituted (shifted from) (forest ms)) (sym (drop-cons ns i d low))

pub count-substituted : (s : ℕ → Tree) (ts : Trees) → count (all_substituted s ts) ≡ count ts
count-substituted s none = refl
count-substituted s (more t ts) = ap (λ (n : ℕ). n + 1) (count-substituted s ts)

pub count-trees_of : (f : Cell → Tree) (cs : List Cell) → count (trees_of f cs) ≡ length cs
count-trees_of f [] = refl
count-trees_of f (c ∷ cs) = let h = count-trees_of f cs in omega (arith, h)

pub cells-count : (s : Shape) (texts : List (List ℕ)) (stack : List Cell) (from : ℕ) (ns : List Node) → AreCells s texts stack (all_substituted (shifted from) (forest ns)) → count (forest ns) ≡ length stack
cells-count s texts stack from ns h =
    sym (count-substituted (shifted from) (forest ns)) ∙ sym (ap count h.trees) ∙ count-trees_of (raw texts s) (reverse stack) ∙ length-reverse stack

-- ---- growing further, and the end

pub grows-itself : (s : Shape) (texts : List (List ℕ)) → AreNamed (length texts) s → Grows s texts s texts
grows-itself s texts named = grows-names s texts texts (longer-itself texts) (λ d. d) named

pub grows-further : (s t u : Shape) (a b c : List (List ℕ)) → Grows s a t b → Grows t b u c → Grows s a u c
grows-further s t u a b c h k = record {
  rows = h.rows ++ k.rows;
  same = k.same ∙ ap (λ (v : Shape). record v { compounds = v.compounds ++ k.rows }) h.same
      ∙ ap (λ (rows : List (ℕ × List Cell)). record s { compounds = rows }) (append_assoc s.compounds h.rows k.rows);
  longer = longer-further a b c h.longer k.longer;
  distinct = λ d. k.distinct (h.distinct d);
  named = k.named;
}

pub grows-later : (s t : Shape) (a b : List (List ℕ)) → Grows s a t b → IsLater s t
grows-later s t a b h =
    subst (IsLater s) (sym h.same) (record {
      rows = h.rows;
      compounds = refl;
      added = [];
      bindings = refl;
      variables = omega arith;
    })

last-first : (stack rest : List Cell) (c : Cell) → stack ≡ rest ++ c ∷ [] → reverse stack ≡ c ∷ reverse rest
last-first stack rest c popped = ap reverse popped ∙ reverse-append rest (c ∷ [])

-- the last cell of a stack
pub cells-last : (s : Shape) (texts : List (List ℕ)) (stack rest : List Cell) (c : Cell) (ts : Trees) → AreCells s texts stack ts → stack ≡ rest ++ c ∷ [] → HasTerm (length texts) s c
cells-last s texts stack rest c ts h popped =
    All-head (HasTerm (length texts) s) c (reverse rest) (subst (All (HasTerm (length texts) s)) (last-first stack rest c popped) h.cells)

only-one : (f : Cell → Tree) (cs : List Cell) (c : Cell) → count (trees_of f (c ∷ cs)) ≡ 1 → more (f c) none ≡ trees_of f (c ∷ cs)
only-one f [] c one = refl
only-one f (d ∷ cs) c one = absurd (omega (arith, one))

-- it is the only one where it has the only tree
pub cells-only : (s : Shape) (texts : List (List ℕ)) (stack rest : List Cell) (c : Cell) (ts : Trees) → AreCells s texts stack ts → stack ≡ rest ++ c ∷ [] → count ts ≡ 1
    → more (raw texts s c) none ≡ ts
cells-only s texts stack rest c ts h popped one =
    let e : trees_of (raw texts s) (c ∷ reverse rest) ≡ ts = sym (ap (trees_of (raw texts s)) (last-first stack rest c popped)) ∙ h.trees in
    only-one (raw texts s) (reverse rest) c (ap count e ∙ one) ∙ e

-- the trees of a term's nodes
pub forest-term : (t : Tree) → forest (nodes t) ≡ more t none
forest-term t = ap forest (sym (append-nil (nodes t))) ∙ forest-nodes t []

pub forest-only : (f : ℕ → Tree) (t u : Tree) (ns : List Node) → ns ≡ nodes t → more u none ≡ all_substituted f (forest ns) → u ≡ substituted f t
forest-only f t u ns e h = same_first _ _ _ _ (h ∙ ap (λ (ms : List Node). all_substituted f (forest ms)) e ∙ ap (all_substituted f) (forest-term t))
