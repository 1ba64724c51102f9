-- A journal is the list of a database's updates. A clause is named by the index, counted from 0, of the entry that adds it;
-- a procedure is numbered by how many were declared before it.
use Rattle.std.specs.Prelude.{ℕ, ◌+◌, if◌then◌else◌, List, [], ◌∷◌, ◌++◌, length, Bool, true, false, ◌&&◌, ◌==◌, not, filter, reverse, Option, Some, None, option_and_then, option_map, slice_get, nat_eq}
use Rattle.std.specs.List.{list_any, flat_map}
use Rattle.std.specs.Option.{option_map_or}
use Rattle.std.specs.Cmp.Lexicographic.{pointwise}
use Rattle.prolog_terms.specs.declared.entry.Entry.{Entry}
use Rattle.prolog_terms.specs.declared.entry.Clause.{Clause}
use Rattle.prolog_terms.specs.declared.entry.Indicator.{Indicator}
use Rattle.prolog_terms.specs.declared.entry.Kind.{Kind}
use Rattle.prolog_terms.specs.declared.entry.End.{End}
use Rattle.prolog_terms.specs.declared.entry.End.TheVariants.{Front, Back}
use Rattle.prolog_terms.specs.declared.entry.What.{What}
use Rattle.prolog_terms.specs.declared.entry.What.TheVariants.{Declare, Add, Erase}
use Rattle.journals.specs.Numbers.{numbers_from}

abbrev pub Journal : Type 0
Journal = List Entry

-- ---- what an entry does

abbrev pub declaration : What → List (Indicator × Kind)
declaration (Declare i k) = (i, k) ∷ []
declaration (Add e p c) = []
declaration (Erase k) = []

abbrev pub added : What → Option Clause
added (Declare i k) = None
added (Add e p c) = Some c
added (Erase k) = None

abbrev pub same_end : End → End → Bool
same_end Front Front = true
same_end Back Back = true
same_end _ _ = false

abbrev pub adds_to : End → ℕ → What → Bool
adds_to e p (Declare i k) = false
adds_to e p (Add f q c) = same_end e f && p == q
adds_to e p (Erase k) = false

abbrev pub erases : ℕ → What → Bool
erases k (Declare i d) = false
erases k (Add e p c) = false
erases k (Erase j) = k == j

-- ---- procedures and clauses

-- the procedures, each at its number
abbrev pub procedures : Journal → List (Indicator × Kind)
procedures J = flat_map (λ e. declaration e.what) J

abbrev pub same_indicator : Indicator → Indicator → Bool
same_indicator i j = pointwise nat_eq i.name j.name && i.arity == j.arity

abbrev pub numbered_from : ℕ → List (Indicator × Kind) → Indicator → Option ℕ
numbered_from n [] i = None
numbered_from n (d ∷ ds) i = if same_indicator i d.0 then Some n else numbered_from (n + 1) ds i

-- the number of the procedure that has this indicator
abbrev pub number_of : Journal → Indicator → Option ℕ
number_of J i = numbered_from 0 (procedures J) i

-- the procedure that has this indicator: its number, and its kind
abbrev pub procedure_named : Journal → Indicator → Option (ℕ × Kind)
procedure_named J i = option_and_then (λ p. option_map (λ d. (p, d.1)) (slice_get (procedures J) p)) (number_of J i)

-- the clause named k
abbrev pub clause_named : Journal → ℕ → Option Clause
clause_named J k = option_and_then (λ e. added e.what) (slice_get J k)

-- the procedure to which an entry adds
abbrev pub procedure_of : What → Option ℕ
procedure_of (Declare i k) = None
procedure_of (Add e p c) = Some p
procedure_of (Erase k) = None

abbrev pub is_erased : Journal → ℕ → Bool
is_erased J k = list_any (λ e. erases k e.what) J

-- ---- the clauses of a procedure, in order

-- the entry k adds a clause to p at this end
abbrev pub adds_at : Journal → End → ℕ → ℕ → Bool
adds_at J e p k = option_map_or (λ x. adds_to e p x.what) (slice_get J k) false

-- the names of the clauses that are added to p at an end, in the order of their addition
abbrev pub additions : Journal → End → ℕ → List ℕ
additions J e p = filter (adds_at J e p) (numbers_from 0 (length J))

-- those added at the front, newest first, then those added at the back, oldest first
abbrev pub chain : Journal → ℕ → List ℕ
chain J p = reverse (additions J Front p) ++ additions J Back p

-- those that no entry erases
abbrev pub alive : Journal → ℕ → List ℕ
alive J p = filter (λ k. not (is_erased J k)) (chain J p)
