-- The operator table (docs/LANGUAGE.md, "Operators").
use Rattle.std.specs.Prelude.{◌≡◌, ◌≢◌, ◌≤◌, ℕ, ◌-◌, List, [], ◌∷◌, Bool, false, ◌&&◌, ◌||◌, ◌==◌, nat_lt, cond, if◌then◌else◌, Option, Some, None, is_some, nat_eq, codes}
use Rattle.std.specs.Cmp.Lexicographic.{pointwise}
use Rattle.std.specs.Map.{lookup}
use Rattle.prolog_terms.specs.declared.ops.OpKind.{OpKind}
use Rattle.prolog_terms.specs.declared.ops.OpKind.TheVariants.{Xfx, Xfy, Yfx, Fy, Fx, Xf, Yf}
use Rattle.prolog_terms.specs.declared.ops.Prefix.{Prefix}
use Rattle.prolog_terms.specs.declared.ops.Infix.{Infix}
use Rattle.prolog_terms.specs.declared.ops.Postfix.{Postfix}
use Rattle.prolog_terms.specs.declared.ops.Definitions.{Definitions}
use Rattle.prolog_terms.specs.declared.ops.OpFault.{OpFault}
use Rattle.prolog_terms.specs.declared.ops.OpFault.TheVariants.{Comma, Reserved, Clash, Want}

abbrev pub same_text : List ℕ → List ℕ → Bool
same_text a b = pointwise nat_eq a b

-- A table: each name that was declared, once, with what it is now in each class.
abbrev pub Table : Type 0
Table = List (List ℕ × Definitions)

abbrev pub no_operator : Definitions
no_operator = record { as_prefix = None; as_infix = None; as_postfix = None }

abbrev pub or_no_operator : Option Definitions → Definitions
or_no_operator None = no_operator
or_no_operator (Some d) = d

-- what a table says of a name
unfoldable pub definitions : Table → List ℕ → Definitions
definitions table name = or_no_operator (lookup (same_text name) table)

abbrev pub prefix_op : Table → List ℕ → Option Prefix
prefix_op table name = (definitions table name).as_prefix

abbrev pub infix_op : Table → List ℕ → Option Infix
infix_op table name = (definitions table name).as_infix

abbrev pub postfix_op : Table → List ℕ → Option Postfix
postfix_op table name = (definitions table name).as_postfix

-- ---- declarations

-- an operator of priority 0 is none
abbrev pub unless_zero : {X : Type 0} → ℕ → X → Option X
unless_zero p x = cond (p == 0) None (Some x)

-- The definitions after one of a type and priority: in the class of the type, and in no other. An operand of priority y
-- may have the operator's own, an operand x only a lower one.
abbrev pub defined : OpKind → ℕ → Definitions → Definitions
defined Fy p d = record d { as_prefix = unless_zero p (record { priority = p; operand = p }) }
defined Fx p d = record d { as_prefix = unless_zero p (record { priority = p; operand = p - 1 }) }
defined Xfx p d = record d { as_infix = unless_zero p (record { left = p - 1; priority = p; right = p - 1 }) }
defined Xfy p d = record d { as_infix = unless_zero p (record { left = p - 1; priority = p; right = p }) }
defined Yfx p d = record d { as_infix = unless_zero p (record { left = p; priority = p; right = p - 1 }) }
defined Xf p d = record d { as_postfix = unless_zero p (record { operand = p - 1; priority = p }) }
defined Yf p d = record d { as_postfix = unless_zero p (record { operand = p; priority = p }) }

-- the table after a name is declared
abbrev pub declared : ℕ → OpKind → List ℕ → Table → Table
declared p kind name [] = (name, defined kind p no_operator) ∷ []
declared p kind name (e ∷ table) = if same_text name e.0 then (e.0, defined kind p e.1) ∷ table else e ∷ declared p kind name table

-- ---- refusals

abbrev pub is_comma : List ℕ → Bool
is_comma name = same_text name (codes ",")

-- | [] {}
abbrev pub is_reserved : List ℕ → Bool
is_reserved name = same_text name (codes "|") || (same_text name (codes "[]") || same_text name (codes "{}"))

-- an infix name would become postfix, or a postfix one infix
abbrev pub clashes : OpKind → Definitions → Bool
clashes Fy d = false
clashes Fx d = false
clashes Xfx d = is_some d.as_postfix
clashes Xfy d = is_some d.as_postfix
clashes Yfx d = is_some d.as_postfix
clashes Xf d = is_some d.as_infix
clashes Yf d = is_some d.as_infix

-- why a declaration is refused
abbrev pub refusal : ℕ → OpKind → List ℕ → Table → Option OpFault
refusal p kind name table =
    if is_comma name then Some Comma
    else if is_reserved name then Some Reserved
    else if nat_lt 0 p && clashes kind (definitions table name) then Some Clash
    else None

-- an answer of a fault: want of memory, or the reason for refusing
abbrev pub Answers : Option OpFault → OpFault → Type 0
Answers reason Want = Unit {0}
Answers reason fault = reason ≡ Some fault

-- ---- what a declaration leaves as it was

-- the definitions differ at most in the class of the type
abbrev pub AgreeBut : OpKind → Definitions → Definitions → Type 0
AgreeBut Fy d e = (e.as_infix ≡ d.as_infix) × (e.as_postfix ≡ d.as_postfix)
AgreeBut Fx d e = (e.as_infix ≡ d.as_infix) × (e.as_postfix ≡ d.as_postfix)
AgreeBut Xfx d e = (e.as_prefix ≡ d.as_prefix) × (e.as_postfix ≡ d.as_postfix)
AgreeBut Xfy d e = (e.as_prefix ≡ d.as_prefix) × (e.as_postfix ≡ d.as_postfix)
AgreeBut Yfx d e = (e.as_prefix ≡ d.as_prefix) × (e.as_postfix ≡ d.as_postfix)
AgreeBut Xf d e = (e.as_prefix ≡ d.as_prefix) × (e.as_infix ≡ d.as_infix)
AgreeBut Yf d e = (e.as_prefix ≡ d.as_prefix) × (e.as_infix ≡ d.as_infix)

-- The operator of a type and a name, and no other, is what was declared.
pub record ChangesAlone (p : ℕ) (kind : OpKind) (name : List ℕ) (old new : Table) : Type 0 where
  pub operator : definitions new name ≡ defined kind p (definitions old name)
  pub classes : AgreeBut kind (definitions old name) (definitions new name)
  pub names : (other : List ℕ) → other ≢ name → definitions new other ≡ definitions old other

-- ---- the first table

-- operators of one priority and type
pub record Row : Type 0 where
  pub priority : ℕ
  pub kind : OpKind
  pub names : List (List ℕ)

abbrev pub row : ℕ → OpKind → List (List ℕ) → Row
row priority kind names = record { priority = priority; kind = kind; names = names }

-- the operators that a load begins with
abbrev pub initial_rows : List Row
initial_rows =
    row 1200 Xfx (codes ":-" ∷ codes "-->" ∷ [])
    ∷ row 1200 Fx (codes ":-" ∷ codes "?-" ∷ [])
    ∷ row 1150 Fx (codes "dynamic" ∷ codes "discontiguous" ∷ codes "multifile" ∷ codes "initialization" ∷ [])
    ∷ row 1100 Xfy (codes ";" ∷ [])
    ∷ row 1050 Xfy (codes "->" ∷ [])
    ∷ row 1000 Xfy (codes "," ∷ [])
    ∷ row 900 Fy (codes "\\+" ∷ [])
    ∷ row 700 Xfx (codes "=" ∷ codes "\\=" ∷ codes "==" ∷ codes "\\==" ∷ codes "@<" ∷ codes "@=<" ∷ codes "@>" ∷ codes "@>=" ∷ [])
    ∷ row 700 Xfx (codes "=.." ∷ codes "is" ∷ codes "=:=" ∷ codes "=\\=" ∷ codes "<" ∷ codes "=<" ∷ codes ">" ∷ codes ">=" ∷ [])
    ∷ row 500 Yfx (codes "+" ∷ codes "-" ∷ codes "/\\" ∷ codes "\\/" ∷ [])
    ∷ row 400 Yfx (codes "*" ∷ codes "/" ∷ codes "//" ∷ codes "rem" ∷ codes "mod" ∷ codes "<<" ∷ codes ">>" ∷ [])
    ∷ row 200 Xfx (codes "**" ∷ [])
    ∷ row 200 Xfy (codes "^" ∷ [])
    ∷ row 200 Fy (codes "-" ∷ codes "\\" ∷ [])
    ∷ []

-- names declared one after the other
abbrev pub all_declared : ℕ → OpKind → List (List ℕ) → Table → Table
all_declared p kind [] table = table
all_declared p kind (name ∷ names) table = all_declared p kind names (declared p kind name table)

abbrev pub rows_declared : List Row → Table → Table
rows_declared [] table = table
rows_declared (r ∷ rows) table = rows_declared rows (all_declared r.priority r.kind r.names table)

unfoldable pub initial_operators : Table
initial_operators = rows_declared initial_rows []

-- ---- the tables that declarations make

-- the first table, and what a declaration that isn't refused makes of such a table
pub data IsTable : Table → Type 0 where
  first : IsTable initial_operators
  after : {table : Table} (priority : ℕ) (kind : OpKind) (name : List ℕ)
      → priority ≤ 1200 → refusal priority kind name table ≡ None → IsTable table → IsTable (declared priority kind name table)
