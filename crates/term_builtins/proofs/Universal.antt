-- What `=..` means, by what is seen of its first argument.
use Rattle.std.proofs.Common.{◌≡◌, ℕ, suc, ◌<◌, ◌≤◌, List, [], ◌∷◌, length, map, true, false, refl, sym, ap, ◌∙◌, arith, subst, codes}
use Rattle.std.specs.Prelude.{nat_lt, ℤ}
use Rattle.std.proofs.lemmas.Bool.Decides.{nat_tests}
use Rattle.std.proofs.lemmas.List.{nil_from_length}
use Rattle.prolog_terms.specs.Tree.{Tree, Trees, variable, integer, atom, compound, more}
use Rattle.term_store.specs.declared.cell.Cell.{Cell}
use Rattle.term_store.specs.declared.cell.View.{View}
use Rattle.term_store.specs.declared.cell.View.TheVariants.{Variable, Integer, Atom, Compound}
use Rattle.term_store.specs.Terms.{trees_of}
use Rattle.term_store.specs.Views.{tree_of}
use Rattle.term_builtins.specs.Meanings.{unbound, type_error, domain_error, too_many, equal, is_variable, is_nil, list_end, elements, of_list, list_tree, trees_in, as_trees, put_together, from_elements, univ}
use Rattle.term_builtins.proofs.Views.{named-same}

pub trees-in : (tree : Cell → Tree) (cs : List Cell) → trees_in (trees_of tree cs) ≡ map tree cs
trees-in tree [] = refl
trees-in tree (c ∷ cs) = ap (λ (ts : List Tree). tree c ∷ ts) (trees-in tree cs)

pub as-trees : (tree : Cell → Tree) (cs : List Cell) → as_trees (map tree cs) ≡ trees_of tree cs
as-trees tree [] = refl
as-trees tree (c ∷ cs) = ap (more (tree c)) (as-trees tree cs)

-- ---- the first argument

pub univ-variable : (t l : Tree) (n : ℕ) → t ≡ variable n → univ t l ≡ of_list l (from_elements t)
univ-variable t l n e = subst (λ (u : Tree). univ u l ≡ of_list l (from_elements u)) (sym e) refl

pub univ-compound : (t l : Tree) (f : List ℕ) (tree : Cell → Tree) (cs : List Cell) → t ≡ compound f (trees_of tree cs) → univ t l ≡ equal l (list_tree (atom f ∷ map tree cs))
univ-compound t l f tree cs e = ap (λ (u : Tree). univ u l) e ∙ ap (λ (ts : List Tree). equal l (list_tree (atom f ∷ ts))) (trees-in tree cs)

pub univ-other : (name : ℕ → List ℕ) (tree : Cell → Tree) (v : View) (t l : Tree) → t ≡ tree_of name tree v → ((n : ℕ) → v ≡ Variable n → ⊥) → ((f : ℕ) (args : _) → v ≡ Compound f args → ⊥)
    → univ t l ≡ equal l (list_tree (t ∷ []))
univ-other name tree v t l e h k = subst (λ (u : Tree). univ u l ≡ equal l (list_tree (u ∷ []))) (sym e) (go v h k)
  where
    go : (w : View) → ((n : ℕ) → w ≡ Variable n → ⊥) → ((f : ℕ) (args : _) → w ≡ Compound f args → ⊥) → univ (tree_of name tree w) l ≡ equal l (list_tree (tree_of name tree w ∷ []))
    go (Variable n) h k = absurd (h n refl)
    go (Integer z) h k = refl
    go (Atom a) h k = refl
    go (Compound f args) h k = absurd (k f args refl)

-- by the cells of the list
pub univ-row : (t l : Tree) (f : List ℕ) (tree : Cell → Tree) (cs cells : List Cell) (c : Cell) → t ≡ compound f (trees_of tree cs) → tree c ≡ atom f → cells ≡ c ∷ cs
    → univ t l ≡ equal l (list_tree (map tree cells))
univ-row t l f tree cs cells c e is row =
    univ-compound t l f tree cs e ∙ ap (λ (u : Tree). equal l (list_tree (u ∷ map tree cs))) (sym is) ∙ ap (λ (ds : List Cell). equal l (list_tree (map tree ds))) (sym row)

pub univ-single : (name : ℕ → List ℕ) (tree : Cell → Tree) (v : View) (c : Cell) (l : Tree) (cells : List Cell) → tree c ≡ tree_of name tree v → ((n : ℕ) → v ≡ Variable n → ⊥)
    → ((f : ℕ) (args : _) → v ≡ Compound f args → ⊥) → cells ≡ c ∷ [] → univ (tree c) l ≡ equal l (list_tree (map tree cells))
univ-single name tree v c l cells e h k row =
    univ-other name tree v (tree c) l e h k ∙ ap (λ (ds : List Cell). equal l (list_tree (map tree ds))) (sym row)

-- ---- the list

module _ (t l e : Tree) (is : e ≡ list_end l) where
  pub list-unbound : is_variable e ≡ true → of_list l (from_elements t) ≡ unbound
  list-unbound q = let k : is_variable (list_end l) ≡ true = ap is_variable (sym is) ∙ q in rw k refl

  pub list-other : is_variable e ≡ false → is_nil e ≡ false → of_list l (from_elements t) ≡ type_error (codes "list") l
  list-other q r =
      let k : is_variable (list_end l) ≡ false = ap is_variable (sym is) ∙ q in
      let j : is_nil (list_end l) ≡ false = ap is_nil (sym is) ∙ r in
      rw (k, j) refl

  pub list-whole : is_variable e ≡ false → is_nil e ≡ true → of_list l (from_elements t) ≡ from_elements t (elements l)
  list-whole q r =
      let k : is_variable (list_end l) ≡ false = ap is_variable (sym is) ∙ q in
      let j : is_nil (list_end l) ≡ true = ap is_nil (sym is) ∙ r in
      rw (k, j) refl

-- ---- the first element

pub put-variable : (t first : Tree) (ts : List Tree) (n : ℕ) → first ≡ variable n → put_together t first ts ≡ unbound
put-variable t first ts n e = ap (λ (u : Tree). put_together t u ts) e

pub put-compound : (t first : Tree) (ts : List Tree) (f : List ℕ) (us : Trees) → first ≡ compound f us → put_together t first ts ≡ type_error (codes "atomic") first
put-compound t first ts f us e = subst (λ (u : Tree). put_together t u ts ≡ type_error (codes "atomic") u) (sym e) refl

pub put-integer : (t first : Tree) (tree : Cell → Tree) (cs : List Cell) (z : ℤ) → first ≡ integer z → length cs ≡ 0 → put_together t first (map tree cs) ≡ equal t first
put-integer t first tree [] z e empty = subst (λ (u : Tree). put_together t u [] ≡ equal t u) (sym e) refl
put-integer t first tree (c ∷ cs) z e empty = absurd (omega (arith, empty))

pub put-atom : (t first : Tree) (tree : Cell → Tree) (cs : List Cell) (a : List ℕ) → first ≡ atom a → length cs ≡ 0 → put_together t first (map tree cs) ≡ equal t first
put-atom t first tree [] a e empty = subst (λ (u : Tree). put_together t u [] ≡ equal t u) (sym e) refl
put-atom t first tree (c ∷ cs) a e empty = absurd (omega (arith, empty))

pub put-integer-more : (t first : Tree) (tree : Cell → Tree) (cs : List Cell) (z : ℤ) → first ≡ integer z → 1 ≤ length cs
    → put_together t first (map tree cs) ≡ type_error (codes "atom") first
put-integer-more t first tree [] z e some = absurd (omega (arith, some))
put-integer-more t first tree (c ∷ cs) z e some = subst (λ (u : Tree). put_together t u (map tree (c ∷ cs)) ≡ type_error (codes "atom") u) (sym e) refl

map-long : (tree : Cell → Tree) (cs : List Cell) → length (map tree cs) ≡ length cs
map-long tree [] = refl
map-long tree (c ∷ cs) = ap suc (map-long tree cs)

pub put-many : (t first : Tree) (tree : Cell → Tree) (cs : List Cell) (a : List ℕ) → first ≡ atom a → 255 < length cs → put_together t first (map tree cs) ≡ too_many
put-many t first tree [] a e many = absurd (omega (arith, many))
put-many t first tree (c ∷ cs) a e many =
    let long = map-long tree cs in
    let k : nat_lt 255 (length (tree c ∷ map tree cs)) ≡ true = grind (arith, nat_tests) in
    ap (λ (u : Tree). put_together t u (map tree (c ∷ cs))) e ∙ rw k refl

pub put-row : (t first : Tree) (tree : Cell → Tree) (cs : List Cell) (a : List ℕ) → first ≡ atom a → 1 ≤ length cs → length cs ≤ 255
    → put_together t first (map tree cs) ≡ equal t (compound a (trees_of tree cs))
put-row t first tree [] a e some few = absurd (omega (arith, some))
put-row t first tree (c ∷ cs) a e some few =
    let long = map-long tree cs in
    let k : nat_lt 255 (length (tree c ∷ map tree cs)) ≡ false = grind (arith, nat_tests) in
    ap (λ (u : Tree). put_together t u (map tree (c ∷ cs))) e ∙ rw k (ap (λ (us : Trees). equal t (compound a us)) (as-trees tree (c ∷ cs)))

-- ---- the elements

nil-is : (t : Tree) → is_nil t ≡ true → t ≡ atom (codes "[]")
nil-is (variable n) e = absurd cc
nil-is (integer z) e = absurd cc
nil-is (atom a) e = ap atom (sym (named-same (codes "[]") a e))
nil-is (compound f ts) e = absurd cc

module _ (t l : Tree) (tree : Cell → Tree) (cells : List Cell) (e : Tree) (end_is : e ≡ list_end l) (elements_are : map tree cells ≡ elements l)
    (bound : is_variable e ≡ false) (whole : is_nil e ≡ true) where
  pub from-none : length cells ≡ 0 → of_list l (from_elements t) ≡ domain_error (codes "non_empty_list") e
  from-none empty =
      list-whole t l e end_is bound whole ∙ ap (from_elements t) (sym elements_are)
      ∙ ap (λ (cs : List Cell). from_elements t (map tree cs)) (nil_from_length cells empty) ∙ ap (domain_error (codes "non_empty_list")) (sym (nil-is e whole))

  pub from-some : (first : Cell) (rest : List Cell) → cells ≡ first ∷ rest → of_list l (from_elements t) ≡ put_together t (tree first) (map tree rest)
  from-some first rest is =
      list-whole t l e end_is bound whole ∙ ap (from_elements t) (sym elements_are) ∙ ap (λ (cs : List Cell). from_elements t (map tree cs)) is
