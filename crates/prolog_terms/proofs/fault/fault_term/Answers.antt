use Rattle.std.proofs.Common.{◌≡◌, ◌++◌, ◌∷◌, [], List, ◌∙◌, sym, ap, arith, codes, refl}
use Rattle.prolog_terms.specs.declared.node.Node.{Node}
use Rattle.prolog_terms.specs.declared.node.Node.TheVariants.{Functor}
use Rattle.prolog_terms.specs.Tree.{Tree, HasArities}
use Rattle.prolog_terms.specs.Flat.{nodes, tree, tree-nodes}
use Rattle.prolog_terms.specs.Faults.{two, fault_tree, error_tree, indicator_tree}
use Rattle.prolog_terms.specs.declared.entry.Indicator.{Indicator}
use Rattle.prolog_terms.proofs.fault.fault_term.Goals as goal

arities : (e : Tree) (i : Indicator) → HasArities e → HasArities (two (codes "error") e (indicator_tree i))
arities e i h = (omega arith, omega arith, (h, ((omega arith, omega arith, (tt, (tt, tt))), tt)))

-- what stands in the buffer after each step
joined : (e : Tree) (i : Indicator) (z a b c : List Node) → z ≡ [] → a ≡ z ++ Functor (codes "error") 2 ∷ [] → b ≡ a ++ nodes e → c ≡ b ++ nodes (indicator_tree i)
    → nodes (two (codes "error") e (indicator_tree i)) ≡ c
joined e i z a b c o p q r = rw (r, q, p, o) refl

pub from_prefix-requires : goal.from_prefix-requires
unfolding fault_tree
from_prefix-requires c = (
  fault_tree c.args.fault.now c.args.at.now,
  (
    arities (error_tree c.args.fault.now) c.args.at.now c.in_ok-put_error.ensures.arities,
    joined (error_tree c.args.fault.now) c.args.at.now _ _ _ _ c.new-nodes.ensures.items c.in_ok-put_functor.ensures c.in_ok-put_error.ensures.nodes c.in_ok-put_indicator.ensures,
  ),
)

pub returns : goal.returns
unfolding fault_tree
returns c =
    let e : Tree = error_tree c.args.fault.now in
    let i : Indicator = c.args.at.now in
    let same : nodes c.from_prefix.result ≡ nodes (two (codes "error") e (indicator_tree i)) =
    c.from_prefix.ensures ∙ sym (joined e i _ _ _ _ c.new-nodes.ensures.items c.in_ok-put_functor.ensures c.in_ok-put_error.ensures.nodes c.in_ok-put_indicator.ensures) in
    sym (tree-nodes c.from_prefix.result) ∙ ap tree same ∙ tree-nodes (two (codes "error") e (indicator_tree i))
