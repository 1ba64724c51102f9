-- What the directive `:- op(P, T, N)` declares, or the error that it raises (docs/LANGUAGE.md, "Operators").
use Rattle.std.specs.Prelude.{◌≡◌, ℕ, ℤ, pos, negsuc, List, [], ◌∷◌, Bool, true, false, nat_le, ◌≤◌, Option, Some, None, codes, take, if◌then◌else◌}
use Rattle.std.specs.List.{list_any}
use Rattle.prolog_terms.specs.Tree.{Tree, variable, integer, atom, compound, none, more}
use Rattle.prolog_terms.specs.Clauses.{is_named}
use Rattle.prolog_terms.specs.Substitutions.{numbered}
use Rattle.prolog_terms.specs.Operators.{Table, all_declared, refusal}
use Rattle.prolog_terms.specs.declared.ops.OpKind.{OpKind}
use Rattle.prolog_terms.specs.declared.ops.OpKind.TheVariants.{Xfx, Xfy, Yfx, Fy, Fx, Xf, Yf}
use Rattle.prolog_terms.specs.declared.ops.OpFault.{OpFault}
use Rattle.prolog_terms.specs.declared.ops.OpFault.TheVariants.{Comma, Reserved, Clash, Want}
use Rattle.prolog_terms.specs.declared.fault.Fault.{Fault}
use Rattle.prolog_terms.specs.declared.fault.Fault.TheVariants.{Instantiation, OfType, Domain, Permission}
use Rattle.prolog_clauses.specs.declared.operators.Declaration.{Declaration}
use Rattle.prolog_clauses.specs.declared.operators.Declaring.{Declaring}
use Rattle.prolog_clauses.specs.declared.operators.Declaring.TheVariants.{Declares, Raises}

-- ---- the directive

pub record Arguments : Type 0 where
  pub priority : Tree
  pub kind : Tree
  pub names : Tree

abbrev pub arguments : Tree → Tree → Tree → Arguments
arguments p t n = record { priority = p; kind = t; names = n }

-- the arguments of `op` with three of them
abbrev pub op_arguments : Tree → Option Arguments
op_arguments (compound f (more p (more t (more n none)))) = if is_named (codes "op") f then Some (arguments p t n) else None
op_arguments _ = None

-- those of the directive `:- op(P, T, N)`
abbrev pub directive_arguments : Tree → Option Arguments
directive_arguments (compound f (more goal none)) = if is_named (codes ":-") f then op_arguments goal else None
directive_arguments _ = None

-- ---- the names

abbrev pub is_variable : Tree → Bool
is_variable (variable n) = true
is_variable _ = false

abbrev pub is_cell : List ℕ → Bool
is_cell f = is_named (codes ".") f

-- the elements of a list, and what it ends with
abbrev pub elements : Tree → List Tree
elements (compound f (more t (more rest none))) = if is_cell f then t ∷ elements rest else []
elements _ = []

abbrev pub list_end : Tree → Tree
list_end (compound f (more t (more rest none))) = if is_cell f then list_end rest else compound f (more t (more rest none))
list_end t = t

-- an error of which a term is the culprit, its variables numbered from 0
abbrev pub type_error : List ℕ → Tree → Fault
type_error type culprit = OfType type (numbered culprit)

abbrev pub domain_error : List ℕ → Tree → Fault
domain_error domain culprit = Domain domain (numbered culprit)

-- what comes of the elements: each is a name, or the first that isn't is an error
abbrev pub with_name : List ℕ → Declaring → Declaring
with_name name (Declares d) = Declares (record d { names = name ∷ d.names })
with_name name (Raises fault) = Raises fault

abbrev pub by_elements : ℕ → OpKind → List Tree → Declaring
by_elements p k [] = Declares (record { priority = p; kind = k; names = [] })
by_elements p k (variable n ∷ ts) = Raises (type_error (codes "atom") (variable n))
by_elements p k (integer z ∷ ts) = Raises (type_error (codes "atom") (integer z))
by_elements p k (atom a ∷ ts) = with_name a (by_elements p k ts)
by_elements p k (compound f us ∷ ts) = Raises (type_error (codes "atom") (compound f us))

abbrev pub is_nil : Tree → Bool
is_nil (atom a) = is_named (codes "[]") a
is_nil _ = false

abbrev pub by_list : ℕ → OpKind → Tree → Declaring
by_list p k t = if is_nil (list_end t) then by_elements p k (elements t) else Raises (type_error (codes "list") t)

-- `[]` is the list without elements, and any other atom is a name
abbrev pub by_names : ℕ → OpKind → Tree → Declaring
by_names p k (variable n) = Raises (type_error (codes "list") (variable n))
by_names p k (integer z) = Raises (type_error (codes "list") (integer z))
by_names p k (atom a) = by_elements p k (if is_named (codes "[]") a then [] else atom a ∷ [])
by_names p k (compound f ts) = by_list p k (compound f ts)

-- ---- the type and the priority

abbrev pub kind_named : List ℕ → Option OpKind
kind_named a =
    if is_named (codes "xfx") a then Some Xfx
    else if is_named (codes "xfy") a then Some Xfy
    else if is_named (codes "yfx") a then Some Yfx
    else if is_named (codes "fy") a then Some Fy
    else if is_named (codes "fx") a then Some Fx
    else if is_named (codes "xf") a then Some Xf
    else if is_named (codes "yf") a then Some Yf
    else None

abbrev pub with_kind : ℕ → List ℕ → Option OpKind → Tree → Declaring
with_kind p a None names = Raises (domain_error (codes "operator_specifier") (atom a))
with_kind p a (Some k) names = by_names p k names

abbrev pub by_kind : ℕ → Tree → Tree → Declaring
by_kind p (variable n) names = Raises (type_error (codes "atom") (variable n))
by_kind p (integer z) names = Raises (type_error (codes "atom") (integer z))
by_kind p (atom a) names = with_kind p a (kind_named a) names
by_kind p (compound f ts) names = Raises (type_error (codes "atom") (compound f ts))

-- an integer from 0 to 1200 is a priority
abbrev pub priority_of : ℤ → Option ℕ
priority_of (pos n) = if nat_le n 1200 then Some n else None
priority_of (negsuc n) = None

abbrev pub with_priority : ℤ → Option ℕ → Tree → Tree → Declaring
with_priority z None kind names = Raises (domain_error (codes "operator_priority") (integer z))
with_priority z (Some p) kind names = by_kind p kind names

abbrev pub by_priority : Tree → Tree → Tree → Declaring
by_priority (variable n) kind names = Raises (type_error (codes "integer") (variable n))
by_priority (integer z) kind names = with_priority z (priority_of z) kind names
by_priority (atom a) kind names = Raises (type_error (codes "integer") (atom a))
by_priority (compound f ts) kind names = Raises (type_error (codes "integer") (compound f ts))

-- What is unbound comes first: an argument, or an element of the list of names, whatever the list ends with.
abbrev pub is_unbound : Arguments → Bool
is_unbound x = list_any is_variable (x.priority ∷ x.kind ∷ x.names ∷ elements x.names)

abbrev pub declaring : Arguments → Declaring
declaring x = if is_unbound x then Raises Instantiation else by_priority x.priority x.kind x.names

abbrev pub declaring_with : Option Arguments → Option Declaring
declaring_with None = None
declaring_with (Some x) = Some (declaring x)

-- what a term declares as a directive; none where it is no directive `:- op(P, T, N)`
abbrev pub declaring_of : Tree → Option Declaring
declaring_of t = declaring_with (directive_arguments t)

-- what is declared has a priority of at most 1200
abbrev pub HasPriority : Declaring → Type 0
HasPriority (Declares d) = d.priority ≤ 1200
HasPriority (Raises fault) = Unit {0}

-- ---- the table

-- the error of a name that is refused (no table refuses one for want of memory)
abbrev pub refused_as : List ℕ → OpFault → Fault
refused_as name Comma = Permission (codes "modify") (codes "operator") (atom name)
refused_as name Reserved = Permission (codes "create") (codes "operator") (atom name)
refused_as name Clash = Permission (codes "create") (codes "operator") (atom name)
refused_as name Want = Permission (codes "create") (codes "operator") (atom name)

abbrev pub refused_or : List ℕ → Option OpFault → Option Fault → Option Fault
refused_or name None later = later
refused_or name (Some why) later = Some (refused_as name why)

-- the error of the first name that the table refuses
abbrev pub permission : Table → ℕ → OpKind → List (List ℕ) → Option Fault
permission ops p k [] = None
permission ops p k (name ∷ names) = refused_or name (refusal p k name ops) (permission ops p k names)

abbrev pub declared_unless : Option Fault → Declaration → Table → Table
declared_unless None d ops = all_declared d.priority d.kind d.names ops
declared_unless (Some fault) d ops = ops

-- the error of a declaration under a table
abbrev pub error_of : Table → Declaring → Option Fault
error_of ops (Declares d) = permission ops d.priority d.kind d.names
error_of ops (Raises fault) = Some fault

-- the table after it: where there is an error, nothing has changed
abbrev pub table_after : Table → Declaring → Table
table_after ops (Declares d) = declared_unless (permission ops d.priority d.kind d.names) d ops
table_after ops (Raises fault) = ops

-- the first of the names are declared, and no others
pub record HasFirst (d : Declaration) (old new : Table) : Type 0 where
  pub count : ℕ
  pub same : new ≡ all_declared d.priority d.kind (take count d.names) old

-- what a declaration may have left for want of memory
abbrev pub IsInPart : Table → Declaring → Table → Type 0
IsInPart old (Declares d) new = HasFirst d old new
IsInPart old (Raises fault) new = new ≡ old
