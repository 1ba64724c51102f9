-- The standard order of two terms is that of their nodes from the left, and puts each two terms in one order.
use Rattle.std.proofs.Common.{◌≡◌, ℕ, ◌+◌, ◌<◌, ℤ, pos, List, [], ◌∷◌, ◌++◌, Ordering, Less, Equal, Greater, refl, sym, ap, ap₂, ◌∙◌, subst, arith, append_assoc, append-nil, true≢false, is_eq}
use Rattle.std.specs.Ordering.{ordering_then, nat_cmp, int_cmp, on, then_cmp, eq_by_cmp}
use Rattle.std.specs.Bool.{Decides}
use Rattle.std.specs.Cmp.{IsTotalOrder, Equal-is, nat_cmp_is, int_cmp_is, nat_cmp_total, int_cmp_total, on_total, then_total, tied_itself}
use Rattle.std.specs.Cmp.Lexicographic.{slice_cmp, lists_total, lists_ties, nat_list_cmp_total, texts_ties, pointwise_decides, bytes_decides}
use Rattle.std.proofs.lemmas.Cmp.{ranked, int_ranked}
use Rattle.prolog_terms.specs.Tree.{Tree, Trees, variable, integer, atom, compound, none, more, count}
use Rattle.prolog_terms.specs.Flat.{nodes, nodes_all, tree, tree-nodes, chained}
use Rattle.prolog_terms.specs.Order.{name_order, standard_order, arguments_order, node_rank, node_order, IsOrder, IsBefore, HasKinds}
use Rattle.prolog_terms.specs.declared.node.Node.{Node}
use Rattle.prolog_terms.specs.declared.node.Node.TheVariants.{Var, Int, Atom, Functor}

then_assoc : (p q r : Ordering) → ordering_then (ordering_then p q) r ≡ ordering_then p (ordering_then q r)
then_assoc Less q r = refl
then_assoc Equal q r = refl
then_assoc Greater q r = refl

then_equal : (p : Ordering) → ordering_then p Equal ≡ p
then_equal Less = refl
then_equal Equal = refl
then_equal Greater = refl

-- ---- from terms to nodes

-- two compounds, o being what their names say, p what their arguments do, q what the nodes behind the functors do, and k
-- what the nodes behind the compounds do
functors : (n m : ℕ) (o p q k : Ordering) → (n ≡ m → q ≡ ordering_then p k) → ordering_then (ordering_then (nat_cmp n m) o) q ≡ ordering_then (ordering_then (nat_cmp n m) (ordering_then o p)) k
functors n m o p q k h = by (nat_cmp n m) o (λ e. h (ranked n m Equal (sym e)))
  where
    by : (x o : Ordering) → (x ≡ Equal → q ≡ ordering_then p k) → ordering_then (ordering_then x o) q ≡ ordering_then (ordering_then x (ordering_then o p)) k
    by Less o h = refl
    by Equal Less h = refl
    by Equal Equal h = h refl
    by Equal Greater h = refl
    by Greater o h = refl

mutual
  along : (t u : Tree) (r s : List Node) → slice_cmp node_order (nodes t ++ r) (nodes u ++ s) ≡ ordering_then (standard_order t u) (slice_cmp node_order r s)
  along (variable n) (variable m) r s = refl
  along (variable n) (integer w) r s = refl
  along (variable n) (atom b) r s = refl
  along (variable n) (compound g us) r s = refl
  along (integer z) (variable m) r s = refl
  along (integer z) (integer w) r s = refl
  along (integer z) (atom b) r s = refl
  along (integer z) (compound g us) r s = refl
  along (atom a) (variable m) r s = refl
  along (atom a) (integer w) r s = refl
  along (atom a) (atom b) r s = refl
  along (atom a) (compound g us) r s = refl
  along (compound f ts) (variable m) r s = refl
  along (compound f ts) (integer w) r s = refl
  along (compound f ts) (atom b) r s = refl
  along (compound f ts) (compound g us) r s = functors (count ts) (count us) (name_order f g) (arguments_order ts us) (slice_cmp node_order (nodes_all ts ++ r) (nodes_all us ++ s)) (slice_cmp node_order r s) (all_along ts us r s)

  all_along : (ts us : Trees) (r s : List Node) → count ts ≡ count us → slice_cmp node_order (nodes_all ts ++ r) (nodes_all us ++ s) ≡ ordering_then (arguments_order ts us) (slice_cmp node_order r s)
  all_along none none r s e = refl
  all_along none (more u us) r s e = absurd (omega arith)
  all_along (more t ts) none r s e = absurd (omega arith)
  all_along (more t ts) (more u us) r s e =
      let fewer : count ts ≡ count us = omega arith in
      ap₂ (slice_cmp node_order) (append_assoc (nodes t) (nodes_all ts) r) (append_assoc (nodes u) (nodes_all us) s)
      ∙ (along t u (nodes_all ts ++ r) (nodes_all us ++ s)
      ∙ (ap (ordering_then (standard_order t u)) (all_along ts us r s fewer)
      ∙ sym (then_assoc (standard_order t u) (arguments_order ts us) (slice_cmp node_order r s))))

pub by_nodes : (t u : Tree) → standard_order t u ≡ slice_cmp node_order (nodes t) (nodes u)
by_nodes t u = sym (then_equal (standard_order t u)) ∙ (sym (along t u [] []) ∙ ap₂ (slice_cmp node_order) (append-nil (nodes t)) (append-nil (nodes u)))

-- ---- the order of nodes is total, as the order of their parts

abbrev number : Node → ℕ
number (Var n) = n
number (Int z) = 0
number (Atom a) = 0
number (Functor f n) = 0

abbrev value : Node → ℤ
value (Var n) = pos 0
value (Int z) = z
value (Atom a) = pos 0
value (Functor f n) = pos 0

abbrev arity : Node → ℕ
arity (Var n) = 0
arity (Int z) = 0
arity (Atom a) = 0
arity (Functor f n) = n

abbrev text : Node → List ℕ
text (Var n) = []
text (Int z) = []
text (Atom a) = a
text (Functor f n) = f

abbrev parts_order : Node → Node → Ordering
parts_order = then_cmp (on node_rank nat_cmp) (then_cmp (on number nat_cmp) (then_cmp (on value int_cmp) (then_cmp (on arity nat_cmp) (on text name_order))))

parts_total : IsTotalOrder parts_order
parts_total = then_total (on_total node_rank nat_cmp_total) (then_total (on_total number nat_cmp_total) (then_total (on_total value int_cmp_total) (then_total (on_total arity nat_cmp_total) (on_total text nat_list_cmp_total))))

by_parts : (x y : Node) → parts_order x y ≡ node_order x y
by_parts (Var n) (Var m) = then_equal (nat_cmp n m)
by_parts (Var n) (Int w) = refl
by_parts (Var n) (Atom b) = refl
by_parts (Var n) (Functor g m) = refl
by_parts (Int z) (Var m) = refl
by_parts (Int z) (Int w) = then_equal (int_cmp z w)
by_parts (Int z) (Atom b) = refl
by_parts (Int z) (Functor g m) = refl
by_parts (Atom a) (Var m) = refl
by_parts (Atom a) (Int w) = refl
by_parts (Atom a) (Atom b) = refl
by_parts (Atom a) (Functor g m) = refl
by_parts (Functor f n) (Var m) = refl
by_parts (Functor f n) (Int w) = refl
by_parts (Functor f n) (Atom b) = refl
by_parts (Functor f n) (Functor g m) = refl

node_total : IsTotalOrder node_order
node_total = subst IsTotalOrder (λ i x y. by_parts x y i) parts_total

pub total : IsTotalOrder standard_order
total = subst IsTotalOrder (λ i t u. sym (by_nodes t u) i) (on_total nodes (lists_total node_total))

-- ---- equal only where they are one

apart : {A : Type 0} → is_eq Less ≡ is_eq Equal → A
apart h = absurd (true≢false (sym h))

both_equal : (p q : Ordering) → ordering_then p q ≡ Equal → (p ≡ Equal) × (q ≡ Equal)
both_equal Less q h = apart (ap is_eq h)
both_equal Equal q h = (refl, h)
both_equal Greater q h = apart (ap is_eq h)

one_name : (a b : List ℕ) → name_order a b ≡ Equal → a ≡ b
one_name a b h = (bytes_decides a b).0 (texts_ties a b ∙ ap is_eq h)

one_node : (x y : Node) → node_order x y ≡ Equal → x ≡ y
one_node (Var n) (Var m) h = ap Var (ranked n m Equal (sym h))
one_node (Int z) (Int w) h = ap Int (int_ranked z w Equal (sym h))
one_node (Atom a) (Atom b) h = ap Atom (one_name a b h)
one_node (Functor f n) (Functor g m) h =
    let p = both_equal (nat_cmp n m) (name_order f g) h in
    let names : f ≡ g = one_name f g p.1 in
    let arities : n ≡ m = ranked n m Equal (sym p.0) in
    cc
one_node _ _ h = apart (ap is_eq h)

decides : (x y : Node) → Decides (eq_by_cmp node_order x y) (x ≡ y)
decides x y = (λ e. one_node x y ((Equal-is (node_order x y)).0 e), λ e. ap is_eq (subst (λ z. node_order x z ≡ Equal) e (tied_itself node_total x)))

pub one_term : (t u : Tree) → standard_order t u ≡ Equal → t ≡ u
one_term t u h =
    let equal : is_eq (slice_cmp node_order (nodes t) (nodes u)) ≡ is_eq Equal = ap is_eq (sym (by_nodes t u) ∙ h) in
    let same : nodes t ≡ nodes u = (pointwise_decides decides (nodes t) (nodes u)).0 (lists_ties node_order (λ x y. refl) (nodes t) (nodes u) ∙ equal) in
    sym (tree-nodes t) ∙ (ap tree same ∙ tree-nodes u)

pub is_order : IsOrder
is_order = record {
  itself = tied_itself total;
  same = one_term;
  turned = λ t u. total.antisymm u t;
  chain = total.trans;
  total = total;
}

-- ---- which terms come before which

one_number : (n m : ℕ) → n ≡ m → nat_cmp n m ≡ Equal
one_number n m e = sym (nat_cmp_is n m Equal e)

lesser : (n m : ℕ) → n < m → nat_cmp n m ≡ Less
lesser n m h = sym (nat_cmp_is n m Less h)

first_bytes : (front a b : List ℕ) (x y : ℕ) → x < y → name_order (front ++ x ∷ a) (front ++ y ∷ b) ≡ Less
first_bytes [] a b x y h = ap (λ o. ordering_then o (name_order a b)) (lesser x y h)
first_bytes (z ∷ front) a b x y h = ap (λ o. ordering_then o (name_order (front ++ x ∷ a) (front ++ y ∷ b))) (one_number z z refl) ∙ first_bytes front a b x y h

prefixes : (a b : List ℕ) (x : ℕ) → name_order a (a ++ x ∷ b) ≡ Less
prefixes [] b x = refl
prefixes (z ∷ a) b x = ap (λ o. ordering_then o (name_order a (a ++ x ∷ b))) (one_number z z refl) ∙ prefixes a b x

counted : (front ts us : Trees) → count ts ≡ count us → count (chained front ts) ≡ count (chained front us)
counted none ts us e = e
counted (more p front) ts us e = ap (λ n. n + 1) (counted front ts us e)

first_arguments : (front ts us : Trees) (t u : Tree) → IsBefore t u → arguments_order (chained front (more t ts)) (chained front (more u us)) ≡ Less
first_arguments none ts us t u h = ap (λ o. ordering_then o (arguments_order ts us)) h
first_arguments (more p front) ts us t u h = ap (λ o. ordering_then o (arguments_order (chained front (more t ts)) (chained front (more u us)))) (tied_itself total p) ∙ first_arguments front ts us t u h

-- two compounds of as many arguments
named : (f g : List ℕ) (ts us : Trees) (o p : Ordering) → count ts ≡ count us → name_order f g ≡ o → arguments_order ts us ≡ p → standard_order (compound f ts) (compound g us) ≡ ordering_then o p
named f g ts us o p e h k = rw (one_number (count ts) (count us) e, h, k) refl

pub has_kinds : HasKinds
has_kinds = record {
  variables = λ n z. refl;
  integers = λ z a. refl;
  atoms = λ a f ts. refl;
  numbers = lesser;
  values = λ z w h. sym (int_cmp_is z w Less h);
  bytes = first_bytes;
  prefix = prefixes;
  arities = λ f g ts us h. ap (λ o. ordering_then o (ordering_then (name_order f g) (arguments_order ts us))) (lesser (count ts) (count us) h);
  names = λ f g ts us e h. named f g ts us Less (arguments_order ts us) e h refl;
  arguments = λ f front ts us t u e h. named f f (chained front (more t ts)) (chained front (more u us)) Equal Less (counted front (more t ts) (more u us) (ap (λ n. n + 1) e)) (tied_itself nat_list_cmp_total f) (first_arguments front ts us t u h);
}
