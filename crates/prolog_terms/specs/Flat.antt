-- The nodes of a tree in prefix order, and back.
use Rattle.std.specs.Prelude.{◌≡◌, ℕ, zero, suc, ◌+◌, ◌-◌, List, [], ◌∷◌, ◌++◌, Bool, true, ◌&&◌, ◌==◌, nat_le, nat_lt, ◌<◌, ◌≤◌, IsTrue, cond, ℤ, pos}
use Rattle.std.specs.Coded.{Coded, code_by, coded×, coded_ℕ, coded_ℤ, coded_list}
use Rattle.std.proofs.Common.{refl, sym, ap, ◌∙◌, append_assoc, append-nil, arith, subst, add-one}
use Rattle.std.proofs.lemmas.Bool.Decides.{nat_tests}
use Rattle.std.proofs.lemmas.Bool.{and_parts, ltb-true, leb-true, eqb-true}
use Rattle.prolog_terms.specs.Tree.{Tree, Trees, variable, integer, atom, compound, none, more, count, HasArities, AllHaveArities, IsWhole, HasWholes, AllHaveWholes}
use Rattle.prolog_terms.specs.declared.node.Node.{Node}
use Rattle.prolog_terms.specs.declared.node.Node.TheVariants.{Var, Int, Atom, Functor}

abbrev mutual
  pub nodes : Tree → List Node
  nodes (variable n) = Var n ∷ []
  nodes (integer z) = Int z ∷ []
  nodes (atom a) = Atom a ∷ []
  nodes (compound f ts) = Functor f (count ts) ∷ nodes_all ts

  pub nodes_all : Trees → List Node
  nodes_all none = []
  nodes_all (more t ts) = nodes t ++ nodes_all ts

-- ---- and back, from the last node to the first

abbrev pub first : ℕ → Trees → Trees
first zero ts = none
first (suc n) none = none
first (suc n) (more t ts) = more t (first n ts)

abbrev pub past : ℕ → Trees → Trees
past zero ts = ts
past (suc n) none = none
past (suc n) (more t ts) = past n ts

abbrev pub joined : List ℕ → ℕ → Trees → Trees
joined f n ts = more (compound f (first n ts)) (past n ts)

abbrev pub forest : List Node → Trees
forest [] = none
forest (Var n ∷ ns) = more (variable n) (forest ns)
forest (Int z ∷ ns) = more (integer z) (forest ns)
forest (Atom a ∷ ns) = more (atom a) (forest ns)
forest (Functor f n ∷ ns) = joined f n (forest ns)

abbrev pub front : Trees → Tree
front none = atom []
front (more t ts) = t

abbrev pub tree : List Node → Tree
tree ns = front (forest ns)

-- ---- the two are inverse

abbrev pub chained : Trees → Trees → Trees
chained none us = us
chained (more t ts) us = more t (chained ts us)

first-chained : (ts us : Trees) → first (count ts) (chained ts us) ≡ ts
first-chained none us = refl
first-chained (more t ts) us = rw (add-one, first-chained ts us) refl

past-chained : (ts us : Trees) → past (count ts) (chained ts us) ≡ us
past-chained none us = refl
past-chained (more t ts) us = rw (add-one, past-chained ts us) refl

mutual
  pub forest-nodes : (t : Tree) (rest : List Node) → forest (nodes t ++ rest) ≡ more t (forest rest)
  forest-nodes (variable n) rest = refl
  forest-nodes (integer z) rest = refl
  forest-nodes (atom a) rest = refl
  forest-nodes (compound f ts) rest = rw (forest-nodes_all ts rest, first-chained ts (forest rest), past-chained ts (forest rest)) refl

  pub forest-nodes_all : (ts : Trees) (rest : List Node) → forest (nodes_all ts ++ rest) ≡ chained ts (forest rest)
  forest-nodes_all none rest = refl
  forest-nodes_all (more t ts) rest = rw (append_assoc (nodes t) (nodes_all ts) rest, forest-nodes t (nodes_all ts ++ rest), forest-nodes_all ts rest) refl

pub tree-nodes : (t : Tree) → tree (nodes t) ≡ t
tree-nodes t = subst (λ l. front (forest l) ≡ t) (append-nil (nodes t)) (ap front (forest-nodes t []))

-- ---- how the logic stores a node and a tree

abbrev Stored : Type 0
Stored = ℕ × (ℤ × (List ℕ × ℕ))

abbrev stored : Node → Stored
stored (Var n) = (0, (pos 0, ([], n)))
stored (Int z) = (1, (z, ([], 0)))
stored (Atom a) = (2, (pos 0, (a, 0)))
stored (Functor f n) = (3, (pos 0, (f, n)))

abbrev node_of : Stored → Node
node_of s = cond (s.0 == 0) (Var s.1.1.1) (cond (s.0 == 1) (Int s.1.0) (cond (s.0 == 2) (Atom s.1.1.0) (Functor s.1.1.0 s.1.1.1)))

pub node_of-stored : (n : Node) → node_of (stored n) ≡ n
node_of-stored (Var n) = refl
node_of-stored (Int z) = refl
node_of-stored (Atom a) = refl
node_of-stored (Functor f n) = refl

abbrev pub node_code : Coded Node
node_code = code_by Stored (coded× coded_ℕ (coded× coded_ℤ (coded× (coded_list coded_ℕ) coded_ℕ))) stored node_of node_of-stored

abbrev pub tree_code : Coded Tree
tree_code = code_by (List Node) (coded_list node_code) nodes tree tree-nodes

-- ---- which lists of nodes are trees

-- the list is the prefix order of one tree
abbrev pub IsPrefixOrder : List Node → Type 0
IsPrefixOrder ns = (t : Tree) × (HasArities t × (nodes t ≡ ns))

-- the same, of the tree that the list gives
pub record HasPrefixOrder (ns : List Node) : Type 0 where
  pub arities : HasArities (tree ns)
  pub spelled : nodes (tree ns) ≡ ns

-- the list is the prefix order of this many trees
abbrev pub are_trees : ℕ → List Node → Bool
are_trees k [] = k == 0
are_trees k (Var n ∷ ns) = nat_lt 0 k && are_trees (k - 1) ns
are_trees k (Int z ∷ ns) = nat_lt 0 k && are_trees (k - 1) ns
are_trees k (Atom a ∷ ns) = nat_lt 0 k && are_trees (k - 1) ns
are_trees k (Functor f n ∷ ns) = (nat_lt 0 k && (nat_lt 0 n && nat_le n 255)) && are_trees (k - 1 + n) ns

nodes_all-cut : (n : ℕ) (ts : Trees) → nodes_all (first n ts) ++ nodes_all (past n ts) ≡ nodes_all ts
nodes_all-cut zero ts = refl
nodes_all-cut (suc n) none = refl
nodes_all-cut (suc n) (more t ts) = rw (append_assoc (nodes t) (nodes_all (first n ts)) (nodes_all (past n ts)), nodes_all-cut n ts) refl

pub count-first : (n : ℕ) (ts : Trees) → n ≤ count ts → count (first n ts) ≡ n
count-first zero ts h = refl
count-first (suc n) none h = omega arith
count-first (suc n) (more t ts) h = let below : n ≤ count ts = omega arith in omega (arith, count-first n ts below)

count-past : (n : ℕ) (ts : Trees) → count (past n ts) ≡ count ts - n
count-past zero ts = omega arith
count-past (suc n) none = omega arith
count-past (suc n) (more t ts) = omega (arith, count-past n ts)

arities-first : (n : ℕ) (ts : Trees) → AllHaveArities ts → AllHaveArities (first n ts)
arities-first zero ts h = tt
arities-first (suc n) none h = tt
arities-first (suc n) (more t ts) h = (h.0, arities-first n ts h.1)

arities-past : (n : ℕ) (ts : Trees) → AllHaveArities ts → AllHaveArities (past n ts)
arities-past zero ts h = h
arities-past (suc n) none h = tt
arities-past (suc n) (more t ts) h = arities-past n ts h.1

-- what the test says of the trees that the nodes make
pub record AreForest (k : ℕ) (ns : List Node) : Type 0 where
  pub counted : count (forest ns) ≡ k
  pub spelled : nodes_all (forest ns) ≡ ns
  pub bounded : AllHaveArities (forest ns)

leaf_step : (k : ℕ) (n : Node) (ns : List Node) (t : Tree) → forest (n ∷ ns) ≡ more t (forest ns) → nodes t ≡ n ∷ [] → HasArities t
    → nat_lt 0 k ≡ true → AreForest (k - 1) ns → AreForest k (n ∷ ns)
leaf_step k n ns t made spelt small lt h =
    let low : 0 < k = ltb-true 0 k lt in
    record { counted = rw made (omega (arith, h.counted)); spelled = rw (made, spelt, h.spelled) refl; bounded = rw made (small, h.bounded) }

functor_step : (k : ℕ) (f : List ℕ) (n : ℕ) (ns : List Node) → 0 < k → 0 < n → n ≤ 255
    → AreForest (k - 1 + n) ns → AreForest k (Functor f n ∷ ns)
functor_step k f n ns low some few h =
    let enough : n ≤ count (forest ns) = omega (arith, h.counted) in
    let c : count (first n (forest ns)) ≡ n = count-first n (forest ns) enough in
    record {
      counted = omega (arith, count-past n (forest ns), h.counted);
      spelled = rw (c, nodes_all-cut n (forest ns), h.spelled) refl;
      bounded = ((rw c some, rw c few, arities-first n (forest ns) h.bounded), arities-past n (forest ns) h.bounded);
    }

pub are_forest : (k : ℕ) (ns : List Node) → IsTrue (are_trees k ns) → AreForest k ns
are_forest k [] h = record { counted = sym (eqb-true k 0 h); spelled = refl; bounded = tt }
are_forest k (Var n ∷ ns) h = let p = and_parts (nat_lt 0 k) (are_trees (k - 1) ns) h in leaf_step k (Var n) ns (variable n) refl refl tt p.0 (are_forest (k - 1) ns p.1)
are_forest k (Int z ∷ ns) h = let p = and_parts (nat_lt 0 k) (are_trees (k - 1) ns) h in leaf_step k (Int z) ns (integer z) refl refl tt p.0 (are_forest (k - 1) ns p.1)
are_forest k (Atom a ∷ ns) h = let p = and_parts (nat_lt 0 k) (are_trees (k - 1) ns) h in leaf_step k (Atom a) ns (atom a) refl refl tt p.0 (are_forest (k - 1) ns p.1)
are_forest k (Functor f n ∷ ns) h =
    let p = and_parts (nat_lt 0 k && (nat_lt 0 n && nat_le n 255)) (are_trees (k - 1 + n) ns) h in
    let q = and_parts (nat_lt 0 k) (nat_lt 0 n && nat_le n 255) p.0 in
    let r = and_parts (nat_lt 0 n) (nat_le n 255) q.1 in
    functor_step k f n ns (ltb-true 0 k q.0) (ltb-true 0 n r.0) (leb-true n 255 r.1) (are_forest (k - 1 + n) ns p.1)

the_front : (ts : Trees) → count ts ≡ 1 → AllHaveArities ts → (nodes (front ts) ≡ nodes_all ts) × HasArities (front ts)
the_front none c h = absurd (omega arith)
the_front (more t none) c h = (sym (append-nil (nodes t)), h.0)
the_front (more t (more u us)) c h = absurd (omega arith)

pub IsPrefixOrder-test : (ns : List Node) → IsTrue (are_trees 1 ns) → HasPrefixOrder ns
IsPrefixOrder-test ns h =
    let a = are_forest 1 ns h in
    let b = the_front (forest ns) a.counted a.bounded in
    record { arities = b.1; spelled = b.0 ∙ a.spelled }

-- ---- and every tree passes the test

mutual
  passes : (t : Tree) (k : ℕ) (rest : List Node) → HasArities t → are_trees (k + 1) (nodes t ++ rest) ≡ are_trees k rest
  passes (variable n) k rest h = grind (arith, nat_tests)
  passes (integer z) k rest h = grind (arith, nat_tests)
  passes (atom a) k rest h = grind (arith, nat_tests)
  passes (compound f ts) k rest h =
      let e : k + 1 - 1 + count ts ≡ count ts + k = omega arith in
      let low : nat_lt 0 (k + 1) ≡ true = grind (arith, nat_tests) in
      let some : nat_lt 0 (count ts) ≡ true = grind (arith, nat_tests) in
      let few : nat_le (count ts) 255 ≡ true = grind (arith, nat_tests) in
      rw (low, some, few, e, all_pass ts k rest h.2) refl

  all_pass : (ts : Trees) (k : ℕ) (rest : List Node) → AllHaveArities ts → are_trees (count ts + k) (nodes_all ts ++ rest) ≡ are_trees k rest
  all_pass none k rest h = ap (λ n. are_trees n rest) (omega arith)
  all_pass (more t ts) k rest h =
      let e : count ts + 1 + k ≡ count ts + k + 1 = omega arith in
      rw (e, append_assoc (nodes t) (nodes_all ts) rest, passes t (count ts + k) (nodes_all ts ++ rest) h.0, all_pass ts k rest h.1) refl

pub test-IsPrefixOrder : (ns : List Node) → IsPrefixOrder ns → IsTrue (are_trees 1 ns)
test-IsPrefixOrder ns (t, (h, e)) =
    subst (λ l. IsTrue (are_trees 1 l)) (append-nil (nodes t) ∙ e) (passes t 0 [] h)

-- nodes that are the prefix order of one tree are that of the tree that they give
pub IsPrefixOrder-tree : (ns : List Node) → IsPrefixOrder ns → HasPrefixOrder ns
IsPrefixOrder-tree ns (t, (h, e)) =
    subst HasPrefixOrder e (record { arities = rw (tree-nodes t) h; spelled = ap nodes (tree-nodes t) })

-- ---- the numbers of nodes

-- the number or the integer of a node has 64 bits
abbrev pub IsWholeNode : Node → Type 0
IsWholeNode (Var n) = n < 0x1_0000_0000_0000_0000
IsWholeNode (Int z) = IsWhole z
IsWholeNode (Atom a) = Unit {0}
IsWholeNode (Functor f n) = Unit {0}

abbrev pub AreWholeNodes : List Node → Type 0
AreWholeNodes [] = Unit {0}
AreWholeNodes (n ∷ ns) = IsWholeNode n × AreWholeNodes ns

wholes-first : (n : ℕ) (ts : Trees) → AllHaveWholes ts → AllHaveWholes (first n ts)
wholes-first zero ts h = tt
wholes-first (suc n) none h = tt
wholes-first (suc n) (more t ts) h = (h.0, wholes-first n ts h.1)

wholes-past : (n : ℕ) (ts : Trees) → AllHaveWholes ts → AllHaveWholes (past n ts)
wholes-past zero ts h = h
wholes-past (suc n) none h = tt
wholes-past (suc n) (more t ts) h = wholes-past n ts h.1

wholes-forest : (ns : List Node) → AreWholeNodes ns → AllHaveWholes (forest ns)
wholes-forest [] h = tt
wholes-forest (Var n ∷ ns) h = (h.0, wholes-forest ns h.1)
wholes-forest (Int z ∷ ns) h = (h.0, wholes-forest ns h.1)
wholes-forest (Atom a ∷ ns) h = (tt, wholes-forest ns h.1)
wholes-forest (Functor f n ∷ ns) h = let w = wholes-forest ns h.1 in (wholes-first n (forest ns) w, wholes-past n (forest ns) w)

wholes-front : (ts : Trees) → AllHaveWholes ts → HasWholes (front ts)
wholes-front none h = tt
wholes-front (more t ts) h = h.0

-- the tree of such nodes
pub wholes-tree : (ns : List Node) → AreWholeNodes ns → HasWholes (tree ns)
wholes-tree ns h = wholes-front (forest ns) (wholes-forest ns h)
