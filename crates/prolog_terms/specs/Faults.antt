-- The terms of errors (ISO/IEC 13211-1, 7.12.2).
use Rattle.std.specs.Prelude.{ℕ, List, codes, pos}
use Rattle.prolog_terms.specs.Tree.{Tree, integer, atom, compound, none, more}
use Rattle.prolog_terms.specs.declared.entry.Indicator.{Indicator}
use Rattle.prolog_terms.specs.declared.fault.Fault.{Fault}
use Rattle.prolog_terms.specs.declared.fault.Fault.TheVariants.{Instantiation, OfType, Domain, Existence, Permission, Representation, Evaluation, Resource}

abbrev pub one : List ℕ → Tree → Tree
one f a = compound f (more a none)

abbrev pub two : List ℕ → Tree → Tree → Tree
two f a b = compound f (more a (more b none))

abbrev pub three : List ℕ → Tree → Tree → Tree → Tree
three f a b c = compound f (more a (more b (more c none)))

-- an indicator as a term: name / arity
abbrev pub indicator_tree : Indicator → Tree
indicator_tree i = two (codes "/") (atom i.name) (integer (pos i.arity))

-- what an error says
unfoldable pub error_tree : Fault → Tree
error_tree Instantiation = atom (codes "instantiation_error")
error_tree (OfType valid culprit) = two (codes "type_error") (atom valid) culprit
error_tree (Domain valid culprit) = two (codes "domain_error") (atom valid) culprit
error_tree (Existence i) = two (codes "existence_error") (atom (codes "procedure")) (indicator_tree i)
error_tree (Permission action kind culprit) = three (codes "permission_error") (atom action) (atom kind) culprit
error_tree (Representation flag) = one (codes "representation_error") (atom flag)
error_tree (Evaluation error) = one (codes "evaluation_error") (atom error)
error_tree (Resource resource) = one (codes "resource_error") (atom resource)

-- error(E, at): what the error says, and the indicator of the call that raised it
unfoldable pub fault_tree : Fault → Indicator → Tree
fault_tree fault at = two (codes "error") (error_tree fault) (indicator_tree at)
