-- Cells of bytes.
use Rattle.std.specs.Prelude.{◌≡◌, ℕ, List, map, length, All}
use Rattle.term_store.specs.declared.cell.Cell.{Cell}
use Rattle.term_store.specs.Shape.{Shape}
use Rattle.term_store.specs.Terms.{term_of, HasTerm}
use Rattle.term_store.specs.Later.{AreLonger}
use Rattle.term_builtins.specs.declared.atoms.Form.{Form}
use Rattle.term_builtins.specs.Answers.{byte_tree}

-- the cell stands for a byte, in any store, and under further names too
abbrev pub IsByteCell : List (List ℕ) → Form → ℕ → Cell → Type 0
IsByteCell texts form byte cell =
    (later : List (List ℕ)) (s : Shape) → AreLonger texts later → HasTerm (length later) s cell × (term_of later s cell ≡ byte_tree form byte)

-- each cell stands for the byte of its place
abbrev pub AreByteCells : List (List ℕ) → Form → List ℕ → List Cell → Type 0
AreByteCells texts form bytes cells =
    (later : List (List ℕ)) (s : Shape) → AreLonger texts later
    → All (HasTerm (length later) s) cells × (map (term_of later s) cells ≡ map (byte_tree form) bytes)
