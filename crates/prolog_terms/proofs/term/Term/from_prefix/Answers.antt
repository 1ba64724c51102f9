use Rattle.prolog_terms.specs.Flat.{IsPrefixOrder-tree}
use Rattle.prolog_terms.proofs.term.Term.from_prefix.Goals as goal

pub invariant_of-result : goal.invariant_of-result
invariant_of-result c = rw c.from_vec.ensures (IsPrefixOrder-tree _ c.requires)

pub returns : goal.returns
returns c = rw c.from_vec.ensures (IsPrefixOrder-tree _ c.requires).spelled
