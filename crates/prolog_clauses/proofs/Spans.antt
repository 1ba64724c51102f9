-- How many nodes the first trees have.
use Rattle.std.proofs.Common.{◌≡◌, ℕ, ◌+◌, ◌<◌, List, [], ◌∷◌, ◌++◌, length, refl, ap, ◌∙◌, append_assoc, length-append, arith, if◌then◌else◌, ◌-◌, ◌==◌}
use Rattle.std.proofs.lemmas.Bool.Decides.{nat_tests}
use Rattle.prolog_terms.specs.Tree.{Tree, Trees, variable, integer, atom, compound, none, more, count}
use Rattle.prolog_terms.specs.Flat.{nodes, nodes_all}
use Rattle.prolog_terms.specs.declared.node.Node.{Node}
use Rattle.prolog_terms.specs.declared.node.Node.TheVariants.{Var, Int, Atom, Functor}
use Rattle.prolog_clauses.specs.Flat.{span}

span_none : (ns : List Node) → span 0 ns ≡ 0
span_none [] = refl
span_none (Var n ∷ ns) = refl
span_none (Int z ∷ ns) = refl
span_none (Atom a ∷ ns) = refl
span_none (Functor f n ∷ ns) = refl

leaf : (k n : ℕ) → (if k + 1 == 0 then 0 else 1 + n) ≡ 1 + n
leaf k n = grind (arith, nat_tests)

mutual
  pub span_tree : (t : Tree) (k : ℕ) (rest : List Node) → span (k + 1) (nodes t ++ rest) ≡ length (nodes t) + span k rest
  span_tree (variable n) k rest = let e : k + 1 - 1 ≡ k = omega arith in rw e (leaf k (span k rest))
  span_tree (integer z) k rest = let e : k + 1 - 1 ≡ k = omega arith in rw e (leaf k (span k rest))
  span_tree (atom a) k rest = let e : k + 1 - 1 ≡ k = omega arith in rw e (leaf k (span k rest))
  span_tree (compound f ts) k rest =
      let e : k + 1 - 1 + count ts ≡ k + count ts = omega arith in
      rw (e, span_trees ts k rest) (leaf k (length (nodes_all ts) + span k rest) ∙ omega arith)

  pub span_trees : (ts : Trees) (k : ℕ) (rest : List Node) → span (k + count ts) (nodes_all ts ++ rest) ≡ length (nodes_all ts) + span k rest
  span_trees none k rest = let e : k + 0 ≡ k = omega arith in rw e (omega arith)
  span_trees (more t ts) k rest =
      let e : k + (count ts + 1) ≡ k + count ts + 1 = omega arith in
      rw (e, append_assoc (nodes t) (nodes_all ts) rest, span_tree t (k + count ts) (nodes_all ts ++ rest), span_trees ts k rest, length-append (nodes t) (nodes_all ts)) (omega arith)

-- the first tree
pub span_one : (t : Tree) (rest : List Node) → span 1 (nodes t ++ rest) ≡ length (nodes t)
span_one t rest = span_tree t 0 rest ∙ (ap (λ n. length (nodes t) + n) (span_none rest) ∙ omega arith)

-- a tree has a node
pub some_span : (n : Node) (ns : List Node) → 0 < span 1 (n ∷ ns)
some_span (Var n) ns = omega arith
some_span (Int z) ns = omega arith
some_span (Atom a) ns = omega arith
some_span (Functor f n) ns = omega arith
