-- The tokens of a text, as the stream that a lexer gives one by one (docs/LANGUAGE.md, Tokens).
use Rattle.std.specs.Prelude.{◌≡◌, ◌≤◌, ℕ, zero, suc, ◌+◌, ◌-◌, List, [], ◌∷◌, drop, length, ◌==◌, cond}
use Rattle.prolog_lexer.specs.Pieces.{piece}
use Rattle.prolog_lexer.specs.declared.piece.Piece.{Piece}
use Rattle.prolog_lexer.specs.declared.piece.Piece.TheVariants.{Blank, Lexeme, Refused}
use Rattle.prolog_lexer.specs.declared.token.Token.{Token}
use Rattle.prolog_lexer.specs.declared.token.LexFault.{LexFault}
use Rattle.prolog_lexer.specs.declared.token.Lexed.{Lexed}
use Rattle.prolog_lexer.specs.declared.token.Lexed.TheVariants.{Token as Found, Refused as Fault, End}

-- the tokens up to the end or the first fault
pub data Stream : Type 0 where
  ended : Stream
  refused : LexFault → Stream
  token : Token → Stream → Stream

-- the line after a byte
abbrev pub line_after : ℕ → ℕ → ℕ
line_after b line = line + cond (b == 10) 1 0

-- how many bytes the piece takes after its first
abbrev pub further : Piece → ℕ
further (Blank n) = n - 1
further (Lexeme kind n) = n - 1
further (Refused n) = 0

-- a piece, and the tokens after it
abbrev pub begun : Piece → ℕ → ℕ → Stream → Stream
begun (Blank n) at line after = after
begun (Lexeme kind n) at line after = token (record { kind = kind; from = at; to = at + n; line = line }) after
begun (Refused n) at line after = refused (record { number = n; line = line })

-- The tokens of bytes of which the first skip still belong to the piece before. A piece begins at each byte that no piece
-- before it takes; at counts bytes, line counts from 1.
abbrev pub stream : ℕ → ℕ → ℕ → List ℕ → Stream
stream skip at line [] = ended
stream (suc k) at line (b ∷ bs) = stream k (at + 1) (line_after b line) bs
stream zero at line (b ∷ bs) = begun (piece (b ∷ bs)) at line (stream (further (piece (b ∷ bs))) (at + 1) (line_after b line) bs)

abbrev pub tokens : List ℕ → Stream
tokens text = stream 0 0 1 text

-- a text that is read up to a byte in some line
pub record Place : Type 0 where
  pub text : List ℕ
  pub at : ℕ
  pub line : ℕ

unfoldable pub rest_of : Place → List ℕ
rest_of p = drop p.at p.text

unfoldable pub ahead : Place → Stream
ahead p = stream 0 p.at p.line (drop p.at p.text)

pub record IsWithin (p : Place) : Type 0 where
  pub within : p.at ≤ length p.text
  pub lines : p.line ≤ p.at + 1

-- what a call of next answers, by what was ahead before and after
abbrev pub Gives : Lexed → Stream → Stream → Type 0
Gives (Found t) old new = old ≡ token t new
Gives (Fault f) old new = (old ≡ refused f) × (new ≡ old)
Gives End old new = (old ≡ ended) × (new ≡ old)
