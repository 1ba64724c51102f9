-- From the postfix order of a term's nodes, read from the last to the first, to their prefix order, written from the last
-- to the first: a compound's name is written once its arguments are.
use Rattle.std.specs.Prelude.{◌≡◌, ◌-◌, List, [], ◌∷◌, cond, nat_lt}
use Rattle.prolog_terms.specs.Tree.{Trees, count, AllHaveArities}
use Rattle.prolog_terms.specs.declared.node.Node.{Node}
use Rattle.prolog_terms.specs.declared.node.Node.TheVariants.{Var, Int, Atom, Functor}
use Rattle.prolog_reader.specs.declared.order.Pending.{Pending}

-- the compounds whose arguments are not all written, the innermost first, and what is written, the last written first
pub record Turning : Type 0 where
  pub pending : List Pending
  pub written : List Node

abbrev pub nothing_written : Turning
nothing_written = record { pending = []; written = [] }

-- after a term is written: the compounds of which it was the first argument are written too
abbrev pub settled : List Pending → List Node → Turning
settled [] ns = record { pending = []; written = ns }
settled (p ∷ ps) ns =
    cond (nat_lt 1 p.left) (record { pending = record p { left = p.left - 1 } ∷ ps; written = ns }) (settled ps (Functor p.name p.arity ∷ ns))

abbrev pub taken : Node → Turning → Turning
taken (Var n) t = settled t.pending (Var n ∷ t.written)
taken (Int z) t = settled t.pending (Int z ∷ t.written)
taken (Atom a) t = settled t.pending (Atom a ∷ t.written)
taken (Functor f n) t = record { pending = record { name = f; arity = n; left = n } ∷ t.pending; written = t.written }

abbrev pub turned : Turning → List Node → Turning
turned t [] = t
turned t (n ∷ ns) = turned (taken n t) ns

-- one term, with arities from 1 to 255
pub record IsOneTerm (ts : Trees) : Type 0 where
  pub one : count ts ≡ 1
  pub arities : AllHaveArities ts
