-- The name and arity that the argument of `abolish` names, or the error that it is (docs/LANGUAGE.md, "Dynamic procedures").
use Rattle.std.specs.Prelude.{ℕ, ℤ, pos, negsuc, List, if◌then◌else◌, nat_lt, codes}
use Rattle.prolog_terms.specs.Tree.{Tree, variable, integer, atom, compound, none, more}
use Rattle.prolog_terms.specs.Clauses.{is_named}
use Rattle.prolog_terms.specs.Substitutions.{numbered}
use Rattle.prolog_terms.specs.declared.fault.Fault.TheVariants.{Instantiation, OfType, Domain, Representation}
use Rattle.wam_machine.specs.declared.naming.Naming.{Naming}
use Rattle.wam_machine.specs.declared.naming.Naming.TheVariants.{Names, NamesNone}

-- a term that isn't of a type; its variables are numbered from 0
abbrev pub not_of_type : List ℕ → Tree → Naming
not_of_type type t = NamesNone (OfType type (numbered t))

-- an integer from 0 to 255 is an arity
abbrev pub with_arity : List ℕ → ℤ → Naming
with_arity f (pos n) = if nat_lt 255 n then NamesNone (Representation (codes "max_arity")) else Names (record { name = f; arity = n })
with_arity f (negsuc n) = NamesNone (Domain (codes "not_less_than_zero") (numbered (integer (negsuc n))))

abbrev pub with_name : List ℕ → Tree → Naming
with_name f (variable n) = NamesNone Instantiation
with_name f (integer z) = with_arity f z
with_name f (atom a) = not_of_type (codes "integer") (atom a)
with_name f (compound g ts) = not_of_type (codes "integer") (compound g ts)

-- what is no name is an error, but an unbound arity comes before it
abbrev pub without_name : Tree → Tree → Naming
without_name n (variable v) = NamesNone Instantiation
without_name n (integer z) = not_of_type (codes "atom") n
without_name n (atom a) = not_of_type (codes "atom") n
without_name n (compound g ts) = not_of_type (codes "atom") n

abbrev pub by_name : Tree → Tree → Naming
by_name (variable n) a = NamesNone Instantiation
by_name (integer z) a = without_name (integer z) a
by_name (atom f) a = with_name f a
by_name (compound f ts) a = without_name (compound f ts) a

abbrev pub no_indicator : Tree → Naming
no_indicator t = not_of_type (codes "predicate_indicator") t

abbrev pub naming_of : Tree → Naming
naming_of (variable n) = NamesNone Instantiation
naming_of (integer z) = no_indicator (integer z)
naming_of (atom a) = no_indicator (atom a)
naming_of (compound f none) = no_indicator (compound f none)
naming_of (compound f (more n none)) = no_indicator (compound f (more n none))
naming_of (compound f (more n (more a none))) = if is_named (codes "/") f then by_name n a else no_indicator (compound f (more n (more a none)))
naming_of (compound f (more n (more a (more b ts)))) = no_indicator (compound f (more n (more a (more b ts))))
