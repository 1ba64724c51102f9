-- The variables of a term's nodes.
use Rattle.std.proofs.Common.{◌≡◌, ℕ, zero, suc, ◌+◌, ◌<◌, ◌≤◌, List, [], ◌∷◌, ◌++◌, length, take, max, refl, ap, ◌∙◌, arith, slice_index_or}
use Rattle.std.proofs.lemmas.List.{take_more}
use Rattle.prolog_terms.specs.Tree.{Tree, Trees, variable, integer, atom, compound, none, more}
use Rattle.prolog_terms.specs.Substitutions.{beyond, beyond_all}
use Rattle.prolog_terms.specs.Flat.{nodes, nodes_all}
use Rattle.term_store.specs.Puts.{beyond_node}
use Rattle.prolog_terms.specs.declared.node.Node.{Node}

abbrev pub beyond_nodes : List Node → ℕ
beyond_nodes [] = 0
beyond_nodes (n ∷ ns) = max (beyond_node n) (beyond_nodes ns)

beyond-append : (ns ms : List Node) → beyond_nodes (ns ++ ms) ≡ max (beyond_nodes ns) (beyond_nodes ms)
beyond-append [] ms = omega arith
beyond-append (n ∷ ns) ms = let h = beyond-append ns ms in omega (arith, h)

mutual
  pub beyond-nodes : (t : Tree) → beyond_nodes (nodes t) ≡ beyond t
  beyond-nodes (variable n) = omega arith
  beyond-nodes (integer z) = omega arith
  beyond-nodes (atom a) = omega arith
  beyond-nodes (compound f ts) = let h = beyond-nodes_all ts in omega (arith, h)

  pub beyond-nodes_all : (ts : Trees) → beyond_nodes (nodes_all ts) ≡ beyond_all ts
  beyond-nodes_all none = refl
  beyond-nodes_all (more t ts) =
      let e = beyond-append (nodes t) (nodes_all ts) in let h = beyond-nodes t in let k = beyond-nodes_all ts in omega (arith, e, h, k)

-- one more node
pub beyond-more : (ns : List Node) (i : ℕ) (d : Node) → i < length ns → beyond_nodes (take (i + 1) ns) ≡ max (beyond_nodes (take i ns)) (beyond_node (slice_index_or ns i d))
beyond-more ns i d low =
    let e = ap beyond_nodes (take_more ns i d low) ∙ beyond-append (take i ns) (slice_index_or ns i d ∷ []) in omega (arith, e)

pub beyond-take : (ns : List Node) (i : ℕ) → beyond_nodes (take i ns) ≤ beyond_nodes ns
beyond-take ns zero = omega arith
beyond-take [] (suc i) = omega arith
beyond-take (n ∷ ns) (suc i) = let h = beyond-take ns i in omega (arith, h)
