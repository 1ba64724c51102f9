-- The table of the builtins on terms: in order of the bytes of their names, and then of how many arguments they have.
use Rattle.std.specs.Prelude.{ℕ, suc, ◌==◌, ◌&&◌, Bool, true, false, List, [], ◌∷◌, Option, Some, None, option_map, codes}
use Rattle.std.specs.declared.cmp.Ordering.{Ordering}
use Rattle.std.specs.Ordering.{ordering_then, nat_cmp}
use Rattle.prolog_terms.specs.Clauses.{is_named}
use Rattle.prolog_terms.specs.Order.{name_order}
use Rattle.prolog_terms.specs.declared.entry.Indicator.{Indicator}
use Rattle.term_builtins.specs.declared.table.Relation.TheVariants as relation
use Rattle.term_builtins.specs.declared.table.Kind.TheVariants as kind
use Rattle.term_builtins.specs.declared.table.What.{What}
use Rattle.term_builtins.specs.declared.table.What.TheVariants.{Unify, Differ, Order, Compare, Test, Functor, Argument, Univ, Copy, AtomLength, AtomCodes, AtomChars, CharCode, Evaluate, Numbers, Write, NewLine, PutChar}
use Rattle.prolog_writer.specs.declared.style.Style.TheVariants.{Plain, Quoted, Canonical}
use Rattle.term_builtins.specs.Meanings.{is_less}

pub record Row : Type 0 where
  pub name : List ℕ
  pub arity : ℕ
  pub what : What

abbrev row : List ℕ → ℕ → What → Row
row name arity what = record { name = name; arity = arity; what = what }

abbrev pub builtins : List Row
builtins =
    row (codes "<") 2 (Numbers relation.Less)
    ∷ row (codes "=") 2 Unify
    ∷ row (codes "=..") 2 Univ
    ∷ row (codes "=:=") 2 (Numbers relation.Equal)
    ∷ row (codes "=<") 2 (Numbers relation.AtMost)
    ∷ row (codes "==") 2 (Order relation.Equal)
    ∷ row (codes "=\\=") 2 (Numbers relation.Different)
    ∷ row (codes ">") 2 (Numbers relation.Greater)
    ∷ row (codes ">=") 2 (Numbers relation.AtLeast)
    ∷ row (codes "@<") 2 (Order relation.Less)
    ∷ row (codes "@=<") 2 (Order relation.AtMost)
    ∷ row (codes "@>") 2 (Order relation.Greater)
    ∷ row (codes "@>=") 2 (Order relation.AtLeast)
    ∷ row (codes "\\=") 2 Differ
    ∷ row (codes "\\==") 2 (Order relation.Different)
    ∷ row (codes "arg") 3 Argument
    ∷ row (codes "atom") 1 (Test kind.Atom)
    ∷ row (codes "atom_chars") 2 AtomChars
    ∷ row (codes "atom_codes") 2 AtomCodes
    ∷ row (codes "atom_length") 2 AtomLength
    ∷ row (codes "atomic") 1 (Test kind.Atomic)
    ∷ row (codes "callable") 1 (Test kind.Callable)
    ∷ row (codes "char_code") 2 CharCode
    ∷ row (codes "compare") 3 Compare
    ∷ row (codes "compound") 1 (Test kind.Compound)
    ∷ row (codes "copy_term") 2 Copy
    ∷ row (codes "functor") 3 Functor
    ∷ row (codes "integer") 1 (Test kind.Integer)
    ∷ row (codes "is") 2 Evaluate
    ∷ row (codes "nl") 0 NewLine
    ∷ row (codes "nonvar") 1 (Test kind.Bound)
    ∷ row (codes "number") 1 (Test kind.Integer)
    ∷ row (codes "put_char") 1 PutChar
    ∷ row (codes "unify_with_occurs_check") 2 Unify
    ∷ row (codes "var") 1 (Test kind.Variable)
    ∷ row (codes "write") 1 (Write Plain)
    ∷ row (codes "write_canonical") 1 (Write Canonical)
    ∷ row (codes "writeq") 1 (Write Quoted) ∷ []

abbrev pub is_row : List ℕ → ℕ → Row → Bool
is_row name arity r = is_named r.name name && (r.arity == arity)

abbrev pub place_when : Bool → Option ℕ → Option ℕ
place_when true later = Some 0
place_when false later = option_map suc later

-- the place of a name and arity in a table
abbrev pub place_in : List Row → List ℕ → ℕ → Option ℕ
place_in [] name arity = None
place_in (r ∷ rs) name arity = place_when (is_row name arity r) (place_in rs name arity)

-- the name and arity under which a builtin raises its errors
abbrev pub indicator : Row → Indicator
indicator r = record { name = r.name; arity = r.arity }

-- ---- the order

abbrev pub row_order : Row → Row → Ordering
row_order r s = ordering_then (name_order r.name s.name) (nat_cmp r.arity s.arity)

-- each row stands before the next one
abbrev pub are_in_order : List Row → Bool
are_in_order [] = true
are_in_order (r ∷ []) = true
are_in_order (r ∷ s ∷ rs) = is_less (row_order r s) && are_in_order (s ∷ rs)
