-- What a store shows: its compounds, the bindings of its variables, and how many variables there are.
use Rattle.std.specs.Prelude.{ℕ, List, refl}
use Rattle.std.specs.Coded.{Coded, code_by, coded×, coded_ℕ, coded_list}
use Rattle.term_store.specs.declared.cell.Cell.{Cell}
use Rattle.term_store.specs.contracts.cell.Cell as of_cell

-- the number of its name, and its arguments
abbrev pub Row : Type 0
Row = ℕ × List Cell

-- a variable and what it is bound to
abbrev pub Bound : Type 0
Bound = ℕ × Cell

pub record Shape : Type 0 where
  pub compounds : List (ℕ × List Cell)
  -- the newest first
  pub bindings : List (ℕ × Cell)
  pub variables : ℕ

abbrev pub rows_code : Coded (List (ℕ × List Cell))
rows_code = coded_list (coded× coded_ℕ (coded_list of_cell.the_row.coded))

abbrev pub bounds_code : Coded (List (ℕ × Cell))
bounds_code = coded_list (coded× coded_ℕ of_cell.the_row.coded)

abbrev pub shape_code : Coded Shape
shape_code =
    code_by (List (ℕ × List Cell) × (List (ℕ × Cell) × ℕ)) (coded× rows_code (coded× bounds_code coded_ℕ))
    (λ s. (s.compounds, (s.bindings, s.variables)))
    (λ t. record { compounds = t.0; bindings = t.1.0; variables = t.1.1 }) (λ _. refl)
