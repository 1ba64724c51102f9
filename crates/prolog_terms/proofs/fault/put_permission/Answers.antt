use Rattle.std.proofs.Common.{◌≡◌, ◌++◌, ◌∷◌, [], ℕ, List, append_assoc, append-nil}
use Rattle.prolog_terms.specs.declared.node.Node.{Node}
use Rattle.prolog_terms.specs.declared.node.Node.TheVariants.{Atom}
use Rattle.prolog_terms.proofs.fault.put_permission.Goals as goal

-- what stands in the buffer after each step
joined : (a b c d e ns : List Node) (x : Node) (f g k l : List ℕ) → f ≡ g → k ≡ l
    → b ≡ a ++ x ∷ [] → c ≡ b ++ Atom f ∷ [] → d ≡ c ++ Atom k ∷ [] → e ≡ d ++ ns → e ≡ a ++ x ∷ Atom g ∷ Atom l ∷ (ns ++ [])
joined a b c d e ns x f g k l h i p q r s = rw (s, r, q, p, h, i) (simp (append_assoc, append-nil))

pub returns-clause-nodes : goal.returns-clause-nodes
returns-clause-nodes c =
    joined _ _ _ _ _ _ _ _ _ _ _ c.bytes.ensures c.bytes-2.ensures c.in_ok-put_functor.ensures c.in_ok-put_atom.ensures c.in_ok-put_atom-2.ensures c.in_ok-put_term.ensures.nodes
