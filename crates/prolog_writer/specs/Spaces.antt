-- The pieces of a text, and where a space stands between two of them.
use Rattle.std.specs.Prelude.{ℕ, ◌-◌, List, [], ◌∷◌, ◌++◌, length, Bool, true, false, ◌&&◌, ◌||◌, ◌==◌, Option, Some, None, option_map, slice_get, codes, if◌then◌else◌}
use Rattle.prolog_writer.specs.declared.kind.Kind.{Kind}
use Rattle.prolog_writer.specs.declared.kind.Kind.TheVariants.{Named, Minus, Paren, Other}
use Rattle.prolog_writer.specs.declared.kind.Edge.{Edge}
use Rattle.prolog_writer.specs.Spelling.{is_alphanumeric, is_digit, is_symbol}

pub record Piece : Type 0 where
  pub kind : Kind
  pub text : List ℕ

abbrev pub piece : Kind → List ℕ → Piece
piece kind text = record { kind = kind; text = text }

-- letters, digits, `_` and the quote
abbrev pub is_wordy : ℕ → Bool
is_wordy b = is_alphanumeric b || b == 39

-- the name of an operator, or an atom
abbrev pub is_named : Kind → Bool
is_named Named = true
is_named Minus = true
is_named Paren = false
is_named Other = false

-- the prefix operator `-`
abbrev pub is_minus : Kind → Bool
is_minus Named = false
is_minus Minus = true
is_minus Paren = false
is_minus Other = false

-- the bracket that opens a parenthesis
abbrev pub is_paren : Kind → Bool
is_paren Named = false
is_paren Minus = false
is_paren Paren = true
is_paren Other = false

-- A space stands where two bytes meet that would run together, between a name and a parenthesis, which would be read as a
-- compound, and between the prefix operator `-` and a digit, which would be read as a negative integer.
abbrev pub parts : Edge → Kind → ℕ → Bool
parts e kind b =
    (is_wordy e.byte && is_wordy b) || ((is_symbol e.byte && is_symbol b) || ((is_named e.kind && is_paren kind) || (is_minus e.kind && is_digit b)))

-- what ends a piece: nothing where it has no bytes
abbrev pub edge_of : Piece → Option Edge
edge_of p = option_map (λ b. record { kind = p.kind; byte = b }) (slice_get p.text (length p.text - 1))

-- a space, or nothing, before a text that begins behind what ends so
abbrev pub needs_space : Option Edge → Kind → List ℕ → Bool
needs_space None kind text = false
needs_space (Some e) kind [] = false
needs_space (Some e) kind (b ∷ bs) = parts e kind b

abbrev pub gap : Option Edge → Piece → List ℕ
gap before p = if needs_space before p.kind p.text then codes " " else []

-- pieces one behind the other, after what ends so
abbrev pub spaced : Option Edge → List Piece → List ℕ
spaced before [] = []
spaced before (p ∷ ps) = gap before p ++ p.text ++ spaced (edge_of p) ps

-- the text of pieces
abbrev pub text_of : List Piece → List ℕ
text_of ps = spaced None ps

-- ---- a text that grows piece by piece

pub record Writing : Type 0 where
  pub text : List ℕ
  pub edge : Option Edge

-- no piece yet, behind a text
abbrev pub no_piece_yet : List ℕ → Writing
no_piece_yet text = record { text = text; edge = None }

abbrev pub added : Writing → Piece → Writing
added w p = record { text = w.text ++ gap w.edge p ++ p.text; edge = edge_of p }

abbrev pub all_added : Writing → List Piece → Writing
all_added w [] = w
all_added w (p ∷ ps) = all_added (added w p) ps
