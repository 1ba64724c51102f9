-- What the directive `:- dynamic(Specs)` declares, or the error that it raises (docs/LANGUAGE.md, "Dynamic procedures").
use Rattle.std.specs.Prelude.{ℕ, pos, List, [], ◌∷◌, ◌++◌, Bool, true, false, ◌||◌, ◌&&◌, nat_le, Option, Some, None, codes, if◌then◌else◌}
use Rattle.std.specs.List.{list_any}
use Rattle.prolog_terms.specs.Tree.{Tree, variable, integer, atom, compound, none, more}
use Rattle.prolog_terms.specs.Clauses.{is_named}
use Rattle.prolog_terms.specs.declared.entry.Indicator.{Indicator}
use Rattle.prolog_terms.specs.declared.fault.Fault.TheVariants.{Instantiation}
use Rattle.prolog_clauses.specs.Declarations.{is_variable, is_cell, is_nil, elements, list_end, type_error}
use Rattle.prolog_clauses.specs.declared.dynamics.Dynamics.{Dynamics}
use Rattle.prolog_clauses.specs.declared.dynamics.Dynamics.TheVariants.{Declares, Raises}

-- ---- which terms stand for procedures

-- the terms that a conjunction joins, in order
abbrev pub conjuncts : Tree → List Tree
conjuncts (compound f (more a (more b none))) = if is_named (codes ",") f then conjuncts a ++ conjuncts b else compound f (more a (more b none)) ∷ []
conjuncts t = t ∷ []

-- a cell of a list
abbrev pub is_list_cell : Tree → Bool
is_list_cell (compound f (more t (more rest none))) = is_cell f
is_list_cell t = false

-- a list that ends in `[]` stands for its elements, and one that doesn't for itself, which is no indicator
abbrev pub listed : Tree → List Tree
listed t = if is_nil (list_end t) then elements t else t ∷ []

-- the elements of a list, the terms that a conjunction joins, or the term itself; a list inside of one of them stands for itself
abbrev pub specs_of : Tree → List Tree
specs_of t = if is_list_cell t || is_nil t then listed t else conjuncts t

-- unbound itself, or in its name or its arity
abbrev pub is_unbound : Tree → Bool
is_unbound (variable n) = true
is_unbound (compound f (more n (more a none))) = is_named (codes "/") f && (is_variable n || is_variable a)
is_unbound t = false

-- ---- what they come to

-- `N/A` with an atom N and an integer A from 0 to 255
abbrev pub indicator_named : List ℕ → Tree → Tree → Option Indicator
indicator_named f (atom n) (integer (pos a)) = if is_named (codes "/") f && nat_le a 255 then Some (record { name = n; arity = a }) else None
indicator_named f n a = None

abbrev pub spec_indicator : Tree → Option Indicator
spec_indicator (compound f (more n (more a none))) = indicator_named f n a
spec_indicator t = None

abbrev pub with_indicator : Indicator → Dynamics → Dynamics
with_indicator i (Declares is) = Declares (i ∷ is)
with_indicator i (Raises fault) = Raises fault

-- the first term that is no indicator is an error, whatever comes of those behind it
abbrev pub by_spec : Tree → Option Indicator → Dynamics → Dynamics
by_spec t None behind = Raises (type_error (codes "predicate_indicator") t)
by_spec t (Some i) behind = with_indicator i behind

abbrev pub by_specs : List Tree → Dynamics
by_specs [] = Declares []
by_specs (t ∷ ts) = by_spec t (spec_indicator t) (by_specs ts)

-- What is unbound comes first: a list's end (or the argument itself), or a term that stands for a procedure.
abbrev pub dynamics_of : Tree → Dynamics
dynamics_of t = if is_variable (list_end t) || list_any is_unbound (specs_of t) then Raises Instantiation else by_specs (specs_of t)
