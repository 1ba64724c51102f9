-- The number above each variable of a term, by its nodes, and by the variables that occur.
use Rattle.std.proofs.Common.{◌≡◌, ℕ, suc, ◌+◌, ◌<◌, ◌≤◌, List, [], ◌∷◌, ◌++◌, length, drop, drop-cons, drop_of_length-le, append-nil, append_assoc, refl, sym, ap, ◌∙◌, arith, Bool, true, false, get_or}
use Rattle.std.specs.Prelude.{IsTrue, max, ◌||◌, All}
use Rattle.std.proofs.lemmas.Bool.{eqb-true}
use Rattle.prolog_terms.specs.Tree.{Tree, Trees, variable, integer, atom, compound, none, more}
use Rattle.prolog_terms.specs.Flat.{nodes, nodes_all}
use Rattle.prolog_terms.specs.Substitutions.{occurs, occurs_in_some, beyond, beyond_all}
use Rattle.prolog_terms.specs.declared.node.Node.{Node}
use Rattle.prolog_terms.specs.declared.shown.Shown.{Shown}
use Rattle.wam_machine.specs.Beyond.{beyond_node, beyond_nodes}

max_none : (n : ℕ) → max 0 n ≡ n
max_none n = omega arith

max_all : (a b c : ℕ) → max (max a b) c ≡ max a (max b c)
max_all a b c = omega arith

mutual
  pub beyond_of_nodes : (t : Tree) (rest : List Node) → beyond_nodes (nodes t ++ rest) ≡ max (beyond t) (beyond_nodes rest)
  beyond_of_nodes (variable n) rest = let e : n + 1 ≡ suc n = omega arith in ap (λ (k : ℕ). max k (beyond_nodes rest)) e
  beyond_of_nodes (integer z) rest = refl
  beyond_of_nodes (atom a) rest = refl
  beyond_of_nodes (compound f ts) rest = max_none (beyond_nodes (nodes_all ts ++ rest)) ∙ beyond_of_all ts rest

  pub beyond_of_all : (ts : Trees) (rest : List Node) → beyond_nodes (nodes_all ts ++ rest) ≡ max (beyond_all ts) (beyond_nodes rest)
  beyond_of_all none rest = sym (max_none (beyond_nodes rest))
  beyond_of_all (more t ts) rest =
      ap beyond_nodes (append_assoc (nodes t) (nodes_all ts) rest)
      ∙ beyond_of_nodes t (nodes_all ts ++ rest)
      ∙ ap (max (beyond t)) (beyond_of_all ts rest)
      ∙ sym (max_all (beyond t) (beyond_all ts) (beyond_nodes rest))

pub beyond_nodes_are : (t : Tree) → beyond_nodes (nodes t) ≡ beyond t
beyond_nodes_are t =
    let e : max (beyond t) 0 ≡ beyond t = omega arith in
    ap beyond_nodes (sym (append-nil (nodes t))) ∙ beyond_of_nodes t [] ∙ e

-- ---- one node after another

pub none_seen : (t : Tree) (ns : List Node) → ns ≡ nodes t → max 0 (beyond_nodes (drop 0 ns)) ≡ beyond t
none_seen t ns e = max_none (beyond_nodes ns) ∙ ap beyond_nodes e ∙ beyond_nodes_are t

pub one_seen : (t : Tree) (ns : List Node) (i b : ℕ) (n : Node) → i < length ns → n ≡ get_or ns i n
    → max b (beyond_nodes (drop i ns)) ≡ beyond t → max (max b (beyond_node n)) (beyond_nodes (drop (i + 1) ns)) ≡ beyond t
one_seen t ns i b n low is h =
    let e : suc i ≡ i + 1 = omega arith in
    let cut : drop i ns ≡ n ∷ drop (i + 1) ns = drop-cons ns i n low ∙ ap (λ (m : Node). m ∷ drop (suc i) ns) (sym is) ∙ ap (λ (k : ℕ). n ∷ drop k ns) e in
    max_all b (beyond_node n) (beyond_nodes (drop (i + 1) ns)) ∙ ap (λ (l : List Node). max b (beyond_nodes l)) (sym cut) ∙ h

pub all_seen : (t : Tree) (ns : List Node) (i b : ℕ) → length ns ≤ i → max b (beyond_nodes (drop i ns)) ≡ beyond t → b ≡ beyond t
all_seen t ns i b end h =
    let e : b ≡ max b 0 = omega arith in
    e ∙ ap (λ (l : List Node). max b (beyond_nodes l)) (sym (drop_of_length-le ns end)) ∙ h

-- ---- variables that occur

either : (a b : Bool) (A : Type 0) → IsTrue (a || b) → (IsTrue a → A) → (IsTrue b → A) → A
either true b A h f g = f refl
either false b A h f g = g h

mutual
  pub occurs_below : (v : ℕ) (t : Tree) → IsTrue (occurs v t) → v < beyond t
  occurs_below v (variable n) h = let e : v ≡ n = eqb-true v n h in omega arith
  occurs_below v (integer z) h = absurd (cc)
  occurs_below v (atom a) h = absurd (cc)
  occurs_below v (compound f ts) h = some_below v ts h

  pub some_below : (v : ℕ) (ts : Trees) → IsTrue (occurs_in_some v ts) → v < beyond_all ts
  some_below v none h = absurd (cc)
  some_below v (more t ts) h =
      either (occurs v t) (occurs_in_some v ts) (v < max (beyond t) (beyond_all ts)) h
      (λ a. let low : v < beyond t = occurs_below v t a in omega arith)
      (λ a. let low : v < beyond_all ts = some_below v ts a in omega arith)

pub shown_below : (t : Tree) (shown : List Shown) (n : ℕ) → n ≡ beyond t → All (λ s. IsTrue (occurs s.var t)) shown → All (λ s. s.var < n) shown
shown_below t shown n e h k d at = let low : (get_or shown k d).var < beyond t = occurs_below (get_or shown k d).var t (h k d at) in omega arith
