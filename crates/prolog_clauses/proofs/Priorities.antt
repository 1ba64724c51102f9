-- What is declared has a priority.
use Rattle.std.proofs.Common.{◌≡◌, ℕ, ℤ, pos, negsuc, ◌≤◌, List, [], ◌∷◌, Bool, true, false, Option, Some, None, nat_le, if◌then◌else◌, codes, refl}
use Rattle.std.specs.Prelude.{IfSome}
use Rattle.std.proofs.lemmas.Bool.{leb-true}
use Rattle.prolog_terms.specs.Tree.{Tree, variable, integer, atom, compound}
use Rattle.prolog_terms.specs.Clauses.{is_named}
use Rattle.prolog_terms.specs.declared.ops.OpKind.{OpKind}
use Rattle.prolog_terms.specs.declared.fault.Fault.{Fault}
use Rattle.prolog_terms.specs.declared.fault.Fault.TheVariants.{Instantiation}
use Rattle.prolog_clauses.specs.declared.operators.Declaring.{Declaring}
use Rattle.prolog_clauses.specs.declared.operators.Declaring.TheVariants.{Declares, Raises}
use Rattle.prolog_clauses.specs.Declarations.{Arguments, is_nil, list_end, elements, with_name, by_elements, by_names, kind_named, with_kind, by_kind, priority_of, with_priority, by_priority, is_unbound, declaring, type_error, HasPriority}

name_kept : (name : List ℕ) (d : Declaring) → HasPriority d → HasPriority (with_name name d)
name_kept name (Declares d) h = h
name_kept name (Raises fault) h = tt

of_elements : (p : ℕ) (k : OpKind) → p ≤ 1200 → (ts : List Tree) → HasPriority (by_elements p k ts)
of_elements p k h [] = h
of_elements p k h (variable n ∷ ts) = tt
of_elements p k h (integer z ∷ ts) = tt
of_elements p k h (atom a ∷ ts) = name_kept a (by_elements p k ts) (of_elements p k h ts)
of_elements p k h (compound f us ∷ ts) = tt

either : (b : Bool) (d : Declaring) (fault : Fault) → HasPriority d → HasPriority (if b then d else Raises fault)
either true d fault h = h
either false d fault h = tt

of_names : (p : ℕ) (k : OpKind) → p ≤ 1200 → (names : Tree) → HasPriority (by_names p k names)
of_names p k h (variable n) = tt
of_names p k h (integer z) = tt
of_names p k h (atom a) = of_elements p k h (if is_named (codes "[]") a then [] else atom a ∷ [])
of_names p k h (compound f ts) =
    either (is_nil (list_end (compound f ts))) (by_elements p k (elements (compound f ts))) (type_error (codes "list") (compound f ts)) (of_elements p k h (elements (compound f ts)))

of_kind_named : (p : ℕ) (a : List ℕ) (k : Option OpKind) → p ≤ 1200 → (names : Tree) → HasPriority (with_kind p a k names)
of_kind_named p a None h names = tt
of_kind_named p a (Some k) h names = of_names p k h names

of_kind : (p : ℕ) → p ≤ 1200 → (kind names : Tree) → HasPriority (by_kind p kind names)
of_kind p h (variable n) names = tt
of_kind p h (integer z) names = tt
of_kind p h (atom a) names = of_kind_named p a (kind_named a) h names
of_kind p h (compound f ts) names = tt

low_pos : (n : ℕ) (b : Bool) → nat_le n 1200 ≡ b → IfSome (if b then Some n else None) (λ p. p ≤ 1200)
low_pos n true e = leb-true n 1200 e
low_pos n false e = tt

low : (z : ℤ) → IfSome (priority_of z) (λ p. p ≤ 1200)
low (pos n) = low_pos n (nat_le n 1200) refl
low (negsuc n) = tt

of_low : (z : ℤ) (p : Option ℕ) → IfSome p (λ n. n ≤ 1200) → (kind names : Tree) → HasPriority (with_priority z p kind names)
of_low z None h kind names = tt
of_low z (Some p) h kind names = of_kind p h kind names

of_priority : (priority kind names : Tree) → HasPriority (by_priority priority kind names)
of_priority (variable n) kind names = tt
of_priority (integer z) kind names = of_low z (priority_of z) (low z) kind names
of_priority (atom a) kind names = tt
of_priority (compound f ts) kind names = tt

unless : (b : Bool) (d : Declaring) → HasPriority d → HasPriority (if b then Raises Instantiation else d)
unless true d h = tt
unless false d h = h

pub of_arguments : (x : Arguments) → HasPriority (declaring x)
of_arguments x = unless (is_unbound x) (by_priority x.priority x.kind x.names) (of_priority x.priority x.kind x.names)
