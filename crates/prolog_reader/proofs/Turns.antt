-- Nodes in postfix order, turned into prefix order.
use Rattle.std.proofs.Common.{◌≡◌, ℕ, zero, suc, ◌+◌, ◌-◌, ◌<◌, ◌≤◌, Bool, true, false, List, [], ◌∷◌, ◌++◌, reverse, refl, sym, ap, subst, ◌∙◌, arith, append_assoc, append-nil, nat_lt, nat_le}
use Rattle.std.proofs.lemmas.List.{reverse-append}
use Rattle.std.proofs.lemmas.Bool.Decides.{nat_tests}
use Rattle.prolog_terms.specs.Tree.{Tree, Trees, variable, integer, atom, compound, none, more, count, HasArities, AllHaveArities}
use Rattle.prolog_terms.specs.Flat.{nodes, nodes_all, past, front, tree, tree-nodes, IsPrefixOrder}
use Rattle.prolog_terms.specs.declared.node.Node.{Node}
use Rattle.prolog_terms.specs.declared.node.Node.TheVariants.{Var, Int, Atom, Functor}
use Rattle.prolog_reader.specs.declared.order.Pending.{Pending}
use Rattle.prolog_reader.specs.Grammar.{gathered, made, pushed, stack}
use Rattle.prolog_reader.specs.Stacks.{the_stack}
use Rattle.prolog_reader.specs.Orders.{Turning, nothing_written, settled, turned, IsOneTerm}

-- ---- the nodes in postfix order, from the last to the first

abbrev mutual
  mirror : Tree → List Node
  mirror (variable n) = Var n ∷ []
  mirror (integer z) = Int z ∷ []
  mirror (atom a) = Atom a ∷ []
  mirror (compound f ts) = Functor f (count ts) ∷ mirror_all ts

  mirror_all : Trees → List Node
  mirror_all none = []
  mirror_all (more t ts) = mirror_all ts ++ mirror t

-- of a stack, the newest term first
abbrev mirrors : Trees → List Node
mirrors none = []
mirrors (more t ts) = mirror t ++ mirrors ts

gathered_mirrors : (n : ℕ) (args ts : Trees) → n ≤ count ts → mirror_all (gathered n args ts) ++ mirrors (past n ts) ≡ mirror_all args ++ mirrors ts
gathered_mirrors zero args ts h = refl
gathered_mirrors (suc n) args none h = absurd (omega arith)
gathered_mirrors (suc n) args (more t ts) h =
    let below : n ≤ count ts = omega arith in
    gathered_mirrors n (more t args) ts below ∙ append_assoc (mirror_all args) (mirror t) (mirrors ts)

gathered_count : (n : ℕ) (args ts : Trees) → n ≤ count ts → count (gathered n args ts) ≡ n + count args
gathered_count zero args ts h = omega arith
gathered_count (suc n) args none h = absurd (omega arith)
gathered_count (suc n) args (more t ts) h = let below : n ≤ count ts = omega arith in omega (arith, gathered_count n (more t args) ts below)

gathered_arities : (n : ℕ) (args ts : Trees) → n ≤ count ts → AllHaveArities (gathered n args ts) → AllHaveArities (past n ts) → AllHaveArities args × AllHaveArities ts
gathered_arities zero args ts h a b = (a, b)
gathered_arities (suc n) args none h a b = absurd (omega arith)
gathered_arities (suc n) args (more t ts) h a b =
    let below : n ≤ count ts = omega arith in
    let r = gathered_arities n (more t args) ts below a b in
    (r.0.1, (r.0.0, r.1))

gathered_short : (n : ℕ) (args ts : Trees) → count ts < n → gathered n args ts ≡ none
gathered_short zero args ts h = absurd (omega arith)
gathered_short (suc n) args none h = refl
gathered_short (suc n) args (more t ts) h = let below : count ts < n = omega arith in gathered_short n (more t args) ts below

record Kept (n : Node) (ts : Trees) : Type 0 where
  arities : AllHaveArities ts
  nodes : mirrors (pushed n ts) ≡ n ∷ mirrors ts

functor_kept : (f : List ℕ) (n : ℕ) (ts : Trees) → AllHaveArities (made f n ts) → Kept (Functor f n) ts
functor_kept f n ts h = by (nat_le n (count ts)) refl
  where
    by : (b : Bool) → nat_le n (count ts) ≡ b → Kept (Functor f n) ts
    by true e =
        let low : n ≤ count ts = grind (arith, nat_tests) in
        let c : count (gathered n none ts) ≡ n = omega (arith, gathered_count n none ts low) in
        record {
          arities = (gathered_arities n none ts low h.0.2 h.1).1;
          nodes = ap (λ k. Functor f k ∷ (mirror_all (gathered n none ts) ++ mirrors (past n ts))) c ∙ ap (λ xs. Functor f n ∷ xs) (gathered_mirrors n none ts low);
        }
    by false e =
        let high : count ts < n = grind (arith, nat_tests) in
        let some : 1 ≤ count (gathered n none ts) = h.0.0 in
        let no : 1 ≤ count none = subst (λ ts. 1 ≤ count ts) (gathered_short n none ts high) some in
        absurd (omega arith)

kept : (n : Node) (ts : Trees) → AllHaveArities (pushed n ts) → Kept n ts
kept (Var n) ts h = record { arities = h.1; nodes = refl }
kept (Int z) ts h = record { arities = h.1; nodes = refl }
kept (Atom a) ts h = record { arities = h.1; nodes = refl }
kept (Functor f n) ts h = functor_kept f n ts h

record Mirrored (ns : List Node) (ts : Trees) : Type 0 where
  arities : AllHaveArities ts
  nodes : mirrors (stack ts ns) ≡ reverse ns ++ mirrors ts

reverse-cons : (n : Node) (ns rest : List Node) → reverse (n ∷ ns) ++ rest ≡ reverse ns ++ n ∷ rest
reverse-cons n ns rest = ap (λ xs. xs ++ rest) (reverse-append (n ∷ []) ns) ∙ append_assoc (reverse ns) (n ∷ []) rest

-- where all have arities, nothing was missing when a node was pushed
stack_mirrored : (ns : List Node) (ts : Trees) → AllHaveArities (stack ts ns) → Mirrored ns ts
stack_mirrored [] ts h = record { arities = h; nodes = refl }
stack_mirrored (n ∷ ns) ts h =
    let r = stack_mirrored ns (pushed n ts) h in
    let k = kept n ts r.arities in
    record { arities = k.arities; nodes = r.nodes ∙ ap (λ xs. reverse ns ++ xs) k.nodes ∙ sym (reverse-cons n ns (mirrors ts)) }

-- ---- what is written of them

abbrev turning : List Pending → List Node → Turning
turning ps ns = record { pending = ps; written = ns }

abbrev wants : List ℕ → ℕ → ℕ → Pending
wants f n k = record { name = f; arity = n; left = k }

settled_more : (f : List ℕ) (n j : ℕ) (ps : List Pending) (ns : List Node) → 1 ≤ j → settled (wants f n (j + 1) ∷ ps) ns ≡ turning (wants f n j ∷ ps) ns
settled_more f n j ps ns h =
    let lt : nat_lt 1 (j + 1) ≡ true = grind (arith, nat_tests) in
    let e : j + 1 - 1 ≡ j = omega arith in
    rw (lt, e) refl

mutual
  turns : (t : Tree) (ps : List Pending) (ns rs : List Node) → HasArities t → turned (turning ps ns) (mirror t ++ rs) ≡ turned (settled ps (nodes t ++ ns)) rs
  turns (variable n) ps ns rs h = refl
  turns (integer z) ps ns rs h = refl
  turns (atom a) ps ns rs h = refl
  turns (compound f none) ps ns rs h = absurd (omega (arith, h.0))
  turns (compound f (more t ts)) ps ns rs h =
      let n : ℕ = count ts + 1 in
      ap (λ xs. turned (turning (wants f n (count ts + 1) ∷ ps) ns) xs) (append_assoc (mirror_all ts) (mirror t) rs)
      ∙ all_turn ts f n 1 ps ns (mirror t ++ rs) (omega arith) h.2.1
      ∙ turns t (wants f n 1 ∷ ps) (nodes_all ts ++ ns) rs h.2.0
      ∙ ap (λ xs. turned (settled ps (Functor f n ∷ xs)) rs) (sym (append_assoc (nodes t) (nodes_all ts) ns))

  all_turn : (ts : Trees) (f : List ℕ) (n j : ℕ) (ps : List Pending) (ns rs : List Node) → 1 ≤ j → AllHaveArities ts
      → turned (turning (wants f n (count ts + j) ∷ ps) ns) (mirror_all ts ++ rs) ≡ turned (turning (wants f n j ∷ ps) (nodes_all ts ++ ns)) rs
  all_turn none f n j ps ns rs low h = let e : 0 + j ≡ j = omega arith in ap (λ k. turned (turning (wants f n k ∷ ps) ns) rs) e
  all_turn (more t ts) f n j ps ns rs low h =
      let e : count ts + 1 + j ≡ count ts + (j + 1) = omega arith in
      let some : 1 ≤ j + 1 = omega arith in
      ap (λ k. turned (turning (wants f n k ∷ ps) ns) ((mirror_all ts ++ mirror t) ++ rs)) e
      ∙ ap (λ xs. turned (turning (wants f n (count ts + (j + 1)) ∷ ps) ns) xs) (append_assoc (mirror_all ts) (mirror t) rs)
      ∙ all_turn ts f n (j + 1) ps ns (mirror t ++ rs) some h.1
      ∙ turns t (wants f n (j + 1) ∷ ps) (nodes_all ts ++ ns) rs h.0
      ∙ ap (λ s. turned s rs) (settled_more f n j ps (nodes t ++ (nodes_all ts ++ ns)) low)
      ∙ ap (λ xs. turned (turning (wants f n j ∷ ps) xs) rs) (sym (append_assoc (nodes t) (nodes_all ts) ns))

one_tree : (ts : Trees) → IsOneTerm ts → (mirrors ts ≡ mirror (front ts) ++ []) × HasArities (front ts)
one_tree none h = absurd (omega (arith, h.one))
one_tree (more t none) h = (refl, h.arities.0)
one_tree (more t (more u us)) h = absurd (omega (arith, h.one))

-- the nodes of a term in postfix order are turned into its nodes in prefix order
pub in_order : (ns : List Node) (ts : Trees) → the_stack ns ≡ ts → IsOneTerm ts → (turned nothing_written (reverse ns)).written ≡ nodes (front ts)
in_order ns ts e h =
    let o = one_tree ts h in
    let m = stack_mirrored ns none (subst AllHaveArities (sym e) h.arities) in
    let r : reverse ns ≡ mirror (front ts) ++ [] = sym (append-nil (reverse ns)) ∙ sym m.nodes ∙ ap mirrors e ∙ o.0 in
    ap (λ xs. (turned nothing_written xs).written) r ∙ ap (λ (t : Turning). t.written) (turns (front ts) [] [] [] o.1) ∙ append-nil (nodes (front ts))

pub is_prefix_order : (ts : Trees) (ns : List Node) → ns ≡ nodes (front ts) → IsOneTerm ts → IsPrefixOrder ns
is_prefix_order ts ns e h = (front ts, ((one_tree ts h).1, sym e))

pub same_tree : (t u : Tree) → nodes t ≡ nodes u → t ≡ u
same_tree t u e = sym (tree-nodes t) ∙ ap tree e ∙ tree-nodes u
