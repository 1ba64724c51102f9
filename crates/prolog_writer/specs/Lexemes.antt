-- The tokens that a piece of a text becomes, and those of pieces one behind the other.
use Rattle.std.specs.Prelude.{◌≡◌, ℕ, ◌+◌, ◌≤◌, List, [], ◌∷◌, ◌++◌, length, Bool, true, false, ◌==◌, Option, codes, count_by, if◌then◌else◌}
use Rattle.std.specs.List.{flat_map}
use Rattle.prolog_writer.specs.Spelling.{escaped, is_brackets}
use Rattle.prolog_lexer.specs.Classes.{class, is_word, is_symbol}
use Rattle.prolog_lexer.specs.Digits.{value}
use Rattle.prolog_lexer.specs.Escapes.{AreAll, AreDigits, Inside}
use Rattle.prolog_lexer.specs.Pieces.{begins_comment}
use Rattle.prolog_lexer.specs.Streams.{Stream, token}
use Rattle.prolog_lexer.specs.Tokens.{token_at}
use Rattle.prolog_lexer.specs.declared.token.Token.{Token}
use Rattle.prolog_lexer.specs.declared.token.TokenKind.{TokenKind}
use Rattle.prolog_lexer.specs.declared.token.TokenKind.TheVariants.{Name, Quoted, Variable, Integer, Punct, Stop}
use Rattle.prolog_writer.specs.declared.kind.Edge.{Edge}
use Rattle.prolog_writer.specs.Spaces.{Piece, gap, edge_of}

-- the classes of bytes, by one of each: a, A, ! and (
abbrev pub IsSmall : ℕ → Type 0
IsSmall b = class b ≡ class 97

abbrev pub IsCapital : ℕ → Type 0
IsCapital b = class b ≡ class 65

abbrev pub IsSolo : ℕ → Type 0
IsSolo b = class b ≡ class 33

abbrev pub IsPunctuation : ℕ → Type 0
IsPunctuation b = class b ≡ class 40

-- a token, and how many bytes it has
pub record Lexeme : Type 0 where
  pub kind : TokenKind
  pub bytes : ℕ

abbrev pub lexeme : TokenKind → ℕ → Lexeme
lexeme kind n = record { kind = kind; bytes = n }

-- tokens from a place in a line on with nothing between them
abbrev pub tokens_from : ℕ → ℕ → List Lexeme → List Token
tokens_from line at [] = []
tokens_from line at (x ∷ xs) = token_at at line x.bytes x.kind ∷ tokens_from line (at + x.bytes) xs

-- The text of a piece, and its tokens: two for a negative integer, and for the names [] and {}.
pub data Spells : List ℕ → List Lexeme → Type 0 where
  word : (b : ℕ) (bs : List ℕ) → IsSmall b → AreAll is_word bs → Spells (b ∷ bs) (lexeme (Name (b ∷ bs)) (length (b ∷ bs)) ∷ [])
  symbols : (b : ℕ) (bs : List ℕ) → AreAll is_symbol (b ∷ bs) → begins_comment (b ∷ bs) ≡ false → (b ∷ bs ≡ codes "." → ⊥)
      → Spells (b ∷ bs) (lexeme (Name (b ∷ bs)) (length (b ∷ bs)) ∷ [])
  solo : (b : ℕ) → IsSolo b → Spells (b ∷ []) (lexeme (Name (b ∷ [])) 1 ∷ [])
  quoted : (spelling meaning : List ℕ) → Inside 39 spelling meaning → count_by (λ b. b == 10) spelling ≡ 0 → Spells (39 ∷ (spelling ++ 39 ∷ [])) (lexeme (Quoted meaning) (1 + length spelling + 1) ∷ [])
  named : (b : ℕ) (bs : List ℕ) → IsCapital b → AreAll is_word bs → Spells (b ∷ bs) (lexeme (Variable (b ∷ bs)) (length (b ∷ bs)) ∷ [])
  digits : (ds : List ℕ) → AreDigits 10 ds → value 10 ds ≤ 0x8000_0000_0000_0000 → Spells ds (lexeme (Integer (value 10 ds)) (length ds) ∷ [])
  negative : (ds : List ℕ) → AreDigits 10 ds → value 10 ds ≤ 0x8000_0000_0000_0000 → Spells (45 ∷ ds) (lexeme (Name (codes "-")) 1 ∷ lexeme (Integer (value 10 ds)) (length ds) ∷ [])
  mark : (b : ℕ) → IsPunctuation b → Spells (b ∷ []) (lexeme (Punct b) 1 ∷ [])
  pair : (a b : ℕ) → IsPunctuation a → IsPunctuation b → Spells (a ∷ b ∷ []) (lexeme (Punct a) 1 ∷ lexeme (Punct b) 1 ∷ [])

-- pieces, each spelled, and the tokens of each
pub data AllSpell : List Piece → List (List Lexeme) → Type 0 where
  nothing : AllSpell [] []
  further : {ps : List Piece} {xss : List (List Lexeme)} (p : Piece) (xs : List Lexeme) → Spells p.text xs → AllSpell ps xss → AllSpell (p ∷ ps) (xs ∷ xss)

-- the tokens of pieces from a place in a line on, behind what ends so, with the spaces between them; at last these tokens
abbrev pub tokens_of : ℕ → Option Edge → ℕ → List Piece → List (List Lexeme) → List Token → List Token
tokens_of line before at (p ∷ ps) (xs ∷ xss) rest =
    tokens_from line (at + length (gap before p)) xs ++ tokens_of line (edge_of p) (at + length (gap before p) + length p.text) ps xss rest
tokens_of line before at _ _ rest = rest

-- tokens, and then what a stream has
abbrev pub followed : List Token → Stream → Stream
followed [] s = s
followed (t ∷ ts) s = token t (followed ts s)

-- an End of one byte at a place in a line
abbrev pub end_at : ℕ → ℕ → Token
end_at at line = token_at at line 1 Stop

-- ---- the tokens of names

-- two marks
abbrev pub marks_of : List ℕ → List Lexeme
marks_of (a ∷ b ∷ bs) = lexeme (Punct a) 1 ∷ lexeme (Punct b) 1 ∷ []
marks_of _ = []

-- a name between quotes, or without
abbrev pub lexemes_of_name : Bool → List ℕ → List Lexeme
lexemes_of_name true n = lexeme (Quoted n) (1 + length (flat_map escaped n) + 1) ∷ []
lexemes_of_name false n = if is_brackets n then marks_of n else lexeme (Name n) (length n) ∷ []
