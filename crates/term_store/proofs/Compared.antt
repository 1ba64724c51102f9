-- Cells that are compared.
use Rattle.std.proofs.Common.{◌≡◌, ℕ, zero, suc, ◌+◌, ◌-◌, ◌<◌, ◌≤◌, List, [], ◌∷◌, ◌++◌, length, reverse, drop, All, true, false, Ordering, Less, Equal, Greater, min, slice_index_or, refl, sym, ap, ap₂, ◌∙◌, arith, subst}
use Rattle.std.specs.Ordering.{ordering_then, nat_cmp, is_ne}
use Rattle.std.proofs.lemmas.Cmp.{ranked}
use Rattle.std.proofs.lemmas.List.{reverse-append}
use Rattle.std.proofs.lemmas.List.Elements.{All-nil}
use Rattle.prolog_terms.specs.Tree.{Tree}
use Rattle.prolog_terms.specs.Order.{name_order, standard_order, arguments_order}
use Rattle.prolog_terms.proofs.Ordered.{is_order}
use Rattle.term_store.specs.declared.cell.Cell.{Cell}
use Rattle.term_store.specs.declared.cell.View.{View}
use Rattle.term_store.specs.declared.cell.View.TheVariants.{Variable, Integer, Atom, Compound}
use Rattle.term_store.specs.declared.solve.Pair.{Pair}
use Rattle.term_store.specs.Shape.{Shape}
use Rattle.term_store.specs.Terms.{text, value, term_of, trees_of, IsNamed, HasTerm, AreNamed, IsShape}
use Rattle.term_store.specs.Views.{Looks, tree_of}
use Rattle.term_store.specs.Work.{size, size_all, plain, ArePairs, work_size, pairs_of}
use Rattle.term_store.specs.Compares.{view_order, args_of, IsNamedView, pairs_order, IsCompared, IsComparing}
use Rattle.term_store.proofs.Trees.{size_pos}
use Rattle.term_store.proofs.Arities.{count-trees}
use Rattle.term_store.proofs.Sizes.{work_size-append}
use Rattle.term_store.proofs.Pairs.{ArePairs-append, ArePairs-pairs_of}
use Rattle.term_store.proofs.Seen.{looks-value}
use Rattle.term_store.proofs.Readings.{looks-atom, looks-functor}

then_equal : (o : Ordering) → ordering_then o Equal ≡ o
then_equal Less = refl
then_equal Equal = refl
then_equal Greater = refl

then_assoc : (p q r : Ordering) → ordering_then (ordering_then p q) r ≡ ordering_then p (ordering_then q r)
then_assoc Less q r = refl
then_assoc Equal q r = refl
then_assoc Greater q r = refl

then_found : (o p : Ordering) → is_ne o ≡ true → ordering_then o p ≡ o
then_found Less p e = refl
then_found Equal p e = cc
then_found Greater p e = refl

pub is_equal : (o : Ordering) → is_ne o ≡ false → o ≡ Equal
is_equal Less e = cc
is_equal Equal e = refl
is_equal Greater e = cc

-- ---- rows of pairs

pub drop_pairs-all : (ls rs : List Cell) (k : ℕ) → min (length ls) (length rs) ≤ k → drop k (pairs_of ls rs) ≡ []
drop_pairs-all [] rs zero h = refl
drop_pairs-all [] rs (suc k) h = refl
drop_pairs-all (l ∷ ls) [] zero h = refl
drop_pairs-all (l ∷ ls) [] (suc k) h = refl
drop_pairs-all (l ∷ ls) (r ∷ rs) zero h = absurd (omega (arith, h))
drop_pairs-all (l ∷ ls) (r ∷ rs) (suc k) h = drop_pairs-all ls rs k (omega (arith, h))

pub drop_pairs : (ls rs : List Cell) (k : ℕ) (d : Cell) → k < length ls → k < length rs
    → drop k (pairs_of ls rs) ≡ record { left = slice_index_or ls k d; right = slice_index_or rs k d } ∷ drop (suc k) (pairs_of ls rs)
drop_pairs [] rs k d low short = absurd (omega arith)
drop_pairs (l ∷ ls) [] k d low short = absurd (omega arith)
drop_pairs (l ∷ ls) (r ∷ rs) zero d low short = refl
drop_pairs (l ∷ ls) (r ∷ rs) (suc k) d low short = drop_pairs ls rs k d (omega arith) (omega arith)

-- one more pair in front
pub pushed-back : (ls rs : List Cell) (old todo after : List Pair) (at : ℕ) (d : Cell) → 0 < at → at ≤ length ls → at ≤ length rs → reverse todo ≡ drop at (pairs_of ls rs) ++ reverse old
    → after ≡ todo ++ record { left = slice_index_or ls (at - 1) d; right = slice_index_or rs (at - 1) d } ∷ [] → reverse after ≡ drop (at - 1) (pairs_of ls rs) ++ reverse old
pushed-back ls rs old todo after at d some low short e pushed =
    let p : Pair = record { left = slice_index_or ls (at - 1) d; right = slice_index_or rs (at - 1) d } in
    let one : at ≡ suc (at - 1) = omega (arith, some) in
    ap reverse pushed ∙ reverse-append todo (p ∷ []) ∙ ap (λ (ps : List Pair). p ∷ ps) e ∙ ap (λ (n : ℕ). p ∷ drop n (pairs_of ls rs) ++ reverse old) one
    ∙ sym (ap (λ (ps : List Pair). ps ++ reverse old) (drop_pairs ls rs (at - 1) d (omega (arith, some, low)) (omega (arith, some, short))))

pairs_order-append : (f : Cell → Tree) (ps qs : List Pair) → pairs_order f (ps ++ qs) ≡ ordering_then (pairs_order f ps) (pairs_order f qs)
pairs_order-append f [] qs = refl
pairs_order-append f (p ∷ ps) qs =
    ap (ordering_then (standard_order (f p.left) (f p.right))) (pairs_order-append f ps qs)
    ∙ sym (then_assoc (standard_order (f p.left) (f p.right)) (pairs_order f ps) (pairs_order f qs))

work_size-pairs_le : (f : Cell → Tree) (ls rs : List Cell) → work_size f (pairs_of ls rs) ≤ size_all (trees_of f ls) + size_all (trees_of f rs)
work_size-pairs_le f [] rs = omega arith
work_size-pairs_le f (l ∷ ls) [] = omega arith
work_size-pairs_le f (l ∷ ls) (r ∷ rs) = let h = work_size-pairs_le f ls rs in omega (arith, h)

-- ---- two views

arguments-pairs : (f : Cell → Tree) (cs ds : List Cell) → length cs ≡ length ds → arguments_order (trees_of f cs) (trees_of f ds) ≡ pairs_order f (pairs_of cs ds)
arguments-pairs f [] [] e = refl
arguments-pairs f [] (d ∷ ds) e = absurd (omega arith)
arguments-pairs f (c ∷ cs) [] e = absurd (omega arith)
arguments-pairs f (c ∷ cs) (d ∷ ds) e = ap (ordering_then (standard_order (f c) (f d))) (arguments-pairs f cs ds (omega arith))

compounds : (n m : ℕ) (o p q : Ordering) → (n ≡ m → p ≡ q) → ordering_then (nat_cmp n m) (ordering_then o p) ≡ ordering_then (ordering_then (nat_cmp n m) o) q
compounds n m o p q h = by (nat_cmp n m) o (λ e. h (ranked n m Equal (sym e)))
  where
    by : (x o : Ordering) → (x ≡ Equal → p ≡ q) → ordering_then x (ordering_then o p) ≡ ordering_then (ordering_then x o) q
    by Less o h = refl
    by Equal Less h = refl
    by Equal Equal h = h refl
    by Equal Greater h = refl
    by Greater o h = refl

order-views : (name : ℕ → List ℕ) (f : Cell → Tree) (v w : View) → standard_order (tree_of name f v) (tree_of name f w) ≡ ordering_then (view_order name v w) (pairs_order f (pairs_of (args_of v) (args_of w)))
order-views name f (Variable m) (Variable n) = sym (then_equal _)
order-views name f (Variable m) (Integer z) = refl
order-views name f (Variable m) (Atom a) = refl
order-views name f (Variable m) (Compound h ds) = refl
order-views name f (Integer y) (Variable n) = refl
order-views name f (Integer y) (Integer z) = sym (then_equal _)
order-views name f (Integer y) (Atom a) = refl
order-views name f (Integer y) (Compound h ds) = refl
order-views name f (Atom b) (Variable n) = refl
order-views name f (Atom b) (Integer z) = refl
order-views name f (Atom b) (Atom a) = sym (then_equal _)
order-views name f (Atom b) (Compound h ds) = refl
order-views name f (Compound g cs) (Variable n) = refl
order-views name f (Compound g cs) (Integer z) = refl
order-views name f (Compound g cs) (Atom a) = refl
order-views name f (Compound g cs) (Compound h ds) =
    let after = ordering_then (name_order (name g) (name h)) (arguments_order (trees_of f cs.now) (trees_of f ds.now)) in
    ap₂ (λ (n m : ℕ). ordering_then (nat_cmp n m) after) (count-trees f cs.now) (count-trees f ds.now)
    ∙ compounds (length cs.now) (length ds.now) (name_order (name g) (name h)) (arguments_order (trees_of f cs.now) (trees_of f ds.now)) (pairs_order f (pairs_of cs.now ds.now)) (arguments-pairs f cs.now ds.now)

-- ---- one pair

pub looks-named : (s : Shape) (count : ℕ) (c : Cell) (view : View) → IsShape s → AreNamed count s → IsNamed count c → Looks s c view → IsNamedView count view × All (HasTerm count s) (args_of view)
looks-named s count c (Variable v) h named has l = (tt, All-nil (HasTerm count s))
looks-named s count c (Integer z) h named has l = (tt, All-nil (HasTerm count s))
looks-named s count c (Atom n) h named has l = (looks-atom s count n c named has l, All-nil (HasTerm count s))
looks-named s count c (Compound f args) h named has l = looks-functor s count f c args h named l

pub size-args : (f : Cell → Tree) (view : View) → size_all (trees_of f (args_of view)) < size (tree_of plain f view)
size-args f (Variable v) = omega arith
size-args f (Integer z) = omega arith
size-args f (Atom n) = omega arith
size-args f (Compound g args) = omega arith

module _ (texts : List (List ℕ)) (s : Shape) (l r : Cell) (v w : View) (h : IsShape s) (named : AreNamed (length texts) s)
    (l_has : HasTerm (length texts) s l) (r_has : HasTerm (length texts) s r) (lv : Looks s l v) (rw' : Looks s r w) where
  order : standard_order (term_of texts s l) (term_of texts s r) ≡ ordering_then (view_order (text texts) v w) (pairs_order (term_of texts s) (pairs_of (args_of v) (args_of w)))
  order = ap₂ standard_order (looks-value s l v h lv (text texts)) (looks-value s r w h rw' (text texts)) ∙ order-views (text texts) (term_of texts s) v w

  pub compared-found : (todo : List Pair) (found : Ordering) → found ≡ view_order (text texts) v w → is_ne found ≡ true → IsCompared texts s l r todo todo found
  compared-found todo found e ne = record {
    pairs = [];
    todo_is = refl;
    valid = tt;
    order =
        order ∙ ap (λ (o : Ordering). ordering_then o (pairs_order (term_of texts s) (pairs_of (args_of v) (args_of w)))) (sym e)
        ∙ then_found found _ ne ∙ sym (then_equal found);
    smaller = let a = size_pos (value plain s l) in omega (arith, a);
  }

  pub compared-args : (todo after : List Pair) (cs ds : List Cell) (found : Ordering) → found ≡ view_order (text texts) v w → is_ne found ≡ false → cs ≡ args_of v → ds ≡ args_of w
      → reverse after ≡ pairs_of cs ds ++ reverse todo → IsCompared texts s l r todo after Equal
  compared-args todo after cs ds found e ne is js pushed = record {
    pairs = pairs_of (args_of v) (args_of w);
    todo_is = pushed ∙ ap₂ (λ (xs ys : List Cell). pairs_of xs ys ++ reverse todo) is js;
    valid = ArePairs-pairs_of (HasTerm (length texts) s) (args_of v) (args_of w) (looks-named s (length texts) l v h named l_has.1 lv).1 (looks-named s (length texts) r w h named r_has.1 rw').1;
    order = order ∙ ap (λ (o : Ordering). ordering_then o (pairs_order (term_of texts s) (pairs_of (args_of v) (args_of w)))) (sym e ∙ is_equal found ne);
    smaller =
        let a = ap size (looks-value s l v h lv plain) in let b = ap size (looks-value s r w h rw' plain) in
        let i = size-args (value plain s) v in let j = size-args (value plain s) w in
        let k = work_size-pairs_le (value plain s) (args_of v) (args_of w) in omega (arith, a, b, i, j, k);
  }

-- two cells that lead to one
pub compared-one : (texts : List (List ℕ)) (s : Shape) (l r c d : Cell) (todo : List Pair) → term_of texts s c ≡ term_of texts s l → term_of texts s d ≡ term_of texts s r → c ≡ d
    → IsCompared texts s l r todo todo Equal
compared-one texts s l r c d todo a b e = record {
  pairs = [];
  todo_is = refl;
  valid = tt;
  order = ap (standard_order (term_of texts s l)) (sym b ∙ ap (term_of texts s) (sym e) ∙ a) ∙ is_order.itself (term_of texts s l);
  smaller = let k = size_pos (value plain s l) in omega (arith, k);
}

-- ---- the whole

pub comparing-start : (texts : List (List ℕ)) (s : Shape) (l r : Cell) → HasTerm (length texts) s l → HasTerm (length texts) s r → IsComparing texts s l r (record { left = l; right = r } ∷ [])
comparing-start texts s l r l_has r_has = record {
  valid = (l_has, r_has, tt);
  order = sym (then_equal (standard_order (term_of texts s l) (term_of texts s r)));
}

module _ (texts : List (List ℕ)) (s : Shape) (l r : Cell) (old todo after : List Pair) (p : Pair) (popped : old ≡ todo ++ p ∷ []) (going : IsComparing texts s l r old) where
  turned : reverse old ≡ p ∷ reverse todo
  turned = ap reverse popped ∙ reverse-append todo (p ∷ [])

  pub comparing-pair : HasTerm (length texts) s p.left × HasTerm (length texts) s p.right
  comparing-pair = let h = subst (ArePairs (HasTerm (length texts) s)) turned going.valid in (h.0, h.1)

  in_order : (found : Ordering) → (c : IsCompared texts s p.left p.right todo after found)
      → standard_order (term_of texts s l) (term_of texts s r) ≡ ordering_then (ordering_then found (pairs_order (term_of texts s) c.pairs)) (pairs_order (term_of texts s) (reverse todo))
  in_order found c =
      going.order ∙ ap (pairs_order (term_of texts s)) turned ∙ ap (λ (o : Ordering). ordering_then o (pairs_order (term_of texts s) (reverse todo))) c.order

  pub comparing-step : (found : Ordering) → is_ne found ≡ false → IsCompared texts s p.left p.right todo after found → IsComparing texts s l r after
  comparing-step found e c = record {
    valid = subst (ArePairs (HasTerm (length texts) s)) (sym c.todo_is)
        (ArePairs-append (HasTerm (length texts) s) c.pairs (reverse todo) c.valid (subst (ArePairs (HasTerm (length texts) s)) turned going.valid).2);
    order =
        in_order found c ∙ ap (λ (o : Ordering). ordering_then (ordering_then o (pairs_order (term_of texts s) c.pairs)) (pairs_order (term_of texts s) (reverse todo))) (is_equal found e)
        ∙ sym (pairs_order-append (term_of texts s) c.pairs (reverse todo)) ∙ ap (pairs_order (term_of texts s)) (sym c.todo_is);
  }

  pub comparing-smaller : (found : Ordering) → IsCompared texts s p.left p.right todo after found → work_size (value plain s) (reverse after) < work_size (value plain s) (reverse old)
  comparing-smaller found c =
      let a = ap (work_size (value plain s)) turned in
      let b = ap (work_size (value plain s)) c.todo_is ∙ work_size-append (value plain s) c.pairs (reverse todo) in
      let k = c.smaller in omega (arith, a, b, k)

  pub comparing-found : (found : Ordering) → is_ne found ≡ true → IsCompared texts s p.left p.right todo after found → found ≡ standard_order (term_of texts s l) (term_of texts s r)
  comparing-found found e c =
      sym (in_order found c ∙ ap (λ (o : Ordering). ordering_then o (pairs_order (term_of texts s) (reverse todo))) (then_found found _ e) ∙ then_found found _ e)

pub comparing-end : (texts : List (List ℕ)) (s : Shape) (l r : Cell) (todo : List Pair) → length todo ≡ 0 → IsComparing texts s l r todo → Equal ≡ standard_order (term_of texts s l) (term_of texts s r)
comparing-end texts s l r [] e going = sym going.order
comparing-end texts s l r (p ∷ todo) e going = absurd (omega arith)
