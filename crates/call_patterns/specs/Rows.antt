-- Rows: the clauses of a procedure with the codes of their heads, and the bucket of some codes.
use Rattle.std.specs.Prelude.{ℕ, ◌==◌, ◌&&◌, List, [], ◌∷◌, filter, map, Bool, true, Option, Some, None, option_and_then, slice_get}
use Rattle.prolog_terms.specs.declared.entry.Clause.{Clause}
use Rattle.call_patterns.specs.Keys.{keys}
use Rattle.journals.specs.Journal.{Journal, alive, clause_named}
use Rattle.call_patterns.specs.Codes.{codes}
use Rattle.call_patterns.specs.declared.row.Row.{Row}

abbrev pub head_codes : Option Clause → List (Option ℕ)
head_codes None = []
head_codes (Some c) = codes (keys c.head)

abbrev pub row_of : Journal → ℕ → Row
row_of J k = record { clause = k; codes = head_codes (clause_named J k) }

-- for each clause alive of the procedure, in order, its name and its head's codes
abbrev pub rows : Journal → ℕ → List Row
rows J p = map (row_of J) (alive J p)

-- ---- buckets

-- a row's code at a position
abbrev pub code_of : Row → ℕ → Option ℕ
code_of row p = option_and_then (λ c. c) (slice_get row.codes p)

-- no code, or the given one
abbrev pub agrees : ℕ → Option ℕ → Bool
agrees code None = true
agrees code (Some own) = own == code

abbrev pub fits : ℕ → ℕ → Row → Bool
fits p code row = agrees code (code_of row p)

abbrev pub fits_all : List ℕ → List ℕ → Row → Bool
fits_all [] codes row = true
fits_all (p ∷ ps) [] row = true
fits_all (p ∷ ps) (c ∷ cs) row = fits p c row && fits_all ps cs row

-- the rows that have, at each of these positions, no code or the given one
unfoldable pub bucket : List Row → List ℕ → List ℕ → List Row
bucket rows positions codes = filter (fits_all positions codes) rows

abbrev pub names : List Row → List ℕ
names rows = map (λ row. row.clause) rows
