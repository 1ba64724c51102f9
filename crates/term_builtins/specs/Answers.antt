-- What a call of a builtin gives, in the engine's terms.
use Rattle.std.specs.Prelude.{◌≡◌, ℕ, ◌+◌, true, false, List, [], ◌∷◌, map, length, slice_index_or, Option, Some, None}
use Rattle.prolog_terms.specs.Tree.{Tree}
use Rattle.prolog_terms.specs.Substitutions.{substituted}
use Rattle.prolog_terms.specs.Faults.{fault_tree}
use Rattle.prolog_terms.specs.declared.entry.Indicator.{Indicator}
use Rattle.term_unifier.specs.Unifier.{IsMostGeneral, Unifies}
use Rattle.term_store.specs.declared.cell.Cell.{Cell}
use Rattle.term_store.specs.Shape.{Shape}
use Rattle.term_store.specs.Terms.{term_of, meaning as stands_for, HasTerm}
use Rattle.term_builtins.specs.declared.answer.Answer.{Answer}
use Rattle.term_builtins.specs.declared.answer.Answer.TheVariants as gives
use Rattle.term_builtins.specs.declared.run.Did.{Did}
use Rattle.term_builtins.specs.declared.run.Did.TheVariants.{Yes, No, Wrote, Put, Ball, Want}
use Rattle.term_builtins.specs.declared.table.What.TheVariants.{Unify}
use Rattle.term_builtins.specs.declared.atoms.Byte.{Byte as Given}
use Rattle.term_builtins.specs.declared.atoms.Byte.TheVariants as given
use Rattle.term_builtins.specs.declared.atoms.Form.{Form}
use Rattle.term_builtins.specs.declared.atoms.Form.TheVariants as form
use Rattle.term_builtins.specs.Meanings.{Meaning, Holds, Equates, Writes, Puts, Raises, Byte, OfByte, NoByte, elements, list_end, code_tree, char_tree, code_element, char_element}
use Rattle.term_builtins.specs.Table.{Row}

-- an answer says what the call comes to: the terms that are to be made one are cells of the new store
abbrev pub IsAnswer : List (List ℕ) → Shape → Shape → Meaning → Answer → Type 0
IsAnswer texts old new (Holds b) (gives.Holds c) = (c ≡ b) × (new.variables ≡ old.variables)
IsAnswer texts old new (Equates k a b) (gives.Equates l r) =
    (new.variables ≡ old.variables + k)
    × HasTerm (length texts) new l × HasTerm (length texts) new r
    × (term_of texts new l ≡ a) × (term_of texts new r ≡ b)
IsAnswer texts old new (Writes style t) (gives.Writes s u) = (s ≡ style) × (u ≡ t) × (new.variables ≡ old.variables)
IsAnswer texts old new (Puts bytes) (gives.Puts b) = (b ≡ bytes) × (new.variables ≡ old.variables)
IsAnswer texts old new (Raises f) (gives.Raises g) = (g ≡ f) × (new.variables ≡ old.variables)
IsAnswer texts old new m a = ⊥

-- no variable was made, and none was bound
abbrev pub IsUnbound : Shape → Shape → Type 0
IsUnbound old new = (new.variables ≡ old.variables) × (new.bindings ≡ old.bindings)

-- what was done is what the call comes to; where two terms can't be made one nothing is bound
abbrev pub IsDone : List (List ℕ) → Shape → Shape → Indicator → Meaning → Did → Type 0
IsDone texts old new at m Want = Unit {0}
IsDone texts old new at (Holds true) Yes = IsUnbound old new
IsDone texts old new at (Holds false) No = IsUnbound old new
IsDone texts old new at (Equates k a b) Yes =
    (new.variables ≡ old.variables + k)
    × ((s : ℕ → Tree) × IsMostGeneral s a b × ((v : ℕ) → stands_for texts new v ≡ substituted s (stands_for texts old v)))
IsDone texts old new at (Equates k a b) No =
    (new.variables ≡ old.variables + k) × (new.bindings ≡ old.bindings) × ((r : ℕ → Tree) → ¬ Unifies r a b)
IsDone texts old new at (Writes style t) (Wrote s u) = (s ≡ style) × (u ≡ t) × IsUnbound old new
IsDone texts old new at (Puts bytes) (Put b) = (b ≡ bytes) × IsUnbound old new
IsDone texts old new at (Raises f) (Ball t) = (t ≡ fault_tree f at) × IsUnbound old new
IsDone texts old new at m did = ⊥

-- a row of the table by its number
abbrev pub row_at : List Row → ℕ → Row
row_at rows n = slice_index_or rows n (record { name = []; arity = 0; what = Unify })

-- the cells of a list, in order, and the cell at its end
pub record IsList (texts : List (List ℕ)) (s : Shape) (t : Tree) (cells : List Cell) (end : Cell) : Type 0 where
  pub elements_are : map (term_of texts s) cells ≡ elements t
  pub end_is : term_of texts s end ≡ list_end t

-- the first element of a list and the list of the others; none where it is no list of one element or more
abbrev pub AreParts : List (List ℕ) → Shape → Tree → Option (Cell × Cell) → Type 0
AreParts texts s t None = (elements t ≡ []) × (list_end t ≡ t)
AreParts texts s t (Some p) =
    HasTerm (length texts) s p.0 × HasTerm (length texts) s p.1
    × (elements t ≡ term_of texts s p.0 ∷ elements (term_of texts s p.1)) × (list_end t ≡ list_end (term_of texts s p.1))

-- ---- bytes

-- an element is this byte, or raises this fault
abbrev pub IsByte : Byte → Given → Type 0
IsByte (OfByte c) (given.Of b) = b ≡ c
IsByte (OfByte c) (given.Not f) = ⊥
IsByte (NoByte m) (given.Of b) = ⊥
IsByte (NoByte m) (given.Not f) = m ≡ Raises f

abbrev pub byte_tree : Form → ℕ → Tree
byte_tree form.Codes = code_tree
byte_tree form.Chars = char_tree

abbrev pub byte_element : Form → Tree → Byte
byte_element form.Codes = code_element
byte_element form.Chars = char_element
