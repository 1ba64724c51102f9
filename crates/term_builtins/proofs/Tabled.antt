-- The rows of a table in code are those of the table.
use Rattle.std.proofs.Common.{◌≡◌, ℕ, ◌<◌, List, [], length, map, slice_index_or, sym, ap, ◌∙◌, arith}
use Rattle.std.proofs.lemmas.List.{get_or-map, length-map}
use Rattle.term_builtins.specs.declared.table.Builtin.{Builtin}
use Rattle.term_builtins.specs.declared.table.What.TheVariants.{Unify}
use Rattle.term_builtins.specs.Table.{Row}
use Rattle.term_builtins.specs.Rows.{told}
use Rattle.term_builtins.specs.Answers.{row_at}

pub as_many : (rows : List Row) (bs : List Builtin) → map told bs ≡ rows → length bs ≡ length rows
as_many rows bs is = sym (length-map bs told) ∙ ap length is

pub row_told : (rows : List Row) (place : ℕ) (bs : List Builtin) (d : Builtin) → map told bs ≡ rows → place < length rows → told (slice_index_or bs place d) ≡ row_at rows place
row_told rows place bs d is low =
    let n = as_many rows bs is in
    sym (get_or-map told bs place d (record { name = []; arity = 0; what = Unify }) (omega (arith, n, low)))
    ∙ ap (λ (rs : List Row). row_at rs place) is
