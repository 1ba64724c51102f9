-- The term of a name and arity, by its nodes.
use Rattle.std.proofs.Common.{◌≡◌, List, sym, ◌∙◌, ap, arith}
use Rattle.prolog_terms.specs.Tree.{Tree}
use Rattle.prolog_terms.specs.Flat.{nodes, IsPrefixOrder, tree-nodes, tree}
use Rattle.prolog_terms.specs.Faults.{indicator_tree}
use Rattle.prolog_terms.specs.declared.entry.Indicator.{Indicator}
use Rattle.prolog_terms.specs.declared.node.Node.{Node}

pub indicator_prefix : (i : Indicator) (xs : List Node) → xs ≡ nodes (indicator_tree i) → IsPrefixOrder xs
indicator_prefix i xs e = (indicator_tree i, ((omega arith, omega arith, (tt, (tt, tt))), sym e))

pub indicator_is : (i : Indicator) (xs : List Node) (t : Tree) → xs ≡ nodes (indicator_tree i) → nodes t ≡ xs → t ≡ indicator_tree i
indicator_is i xs t e made = sym (tree-nodes t) ∙ ap tree (made ∙ e) ∙ tree-nodes (indicator_tree i)
