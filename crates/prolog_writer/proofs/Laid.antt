-- The tokens of pieces one behind the other, with any tokens behind them.
use Rattle.std.proofs.Common.{◌≡◌, ℕ, ◌+◌, length, List, [], ◌∷◌, ◌++◌, Option, refl, ◌∙◌, ap}
use Rattle.prolog_lexer.specs.Streams.{Stream}
use Rattle.prolog_lexer.specs.Tokens.{token_at}
use Rattle.prolog_lexer.specs.declared.token.Token.{Token}
use Rattle.prolog_reader.specs.Texts.{upto, tail, line_of}
use Rattle.prolog_writer.specs.declared.kind.Edge.{Edge}
use Rattle.prolog_writer.specs.Spaces.{Piece, gap, edge_of}
use Rattle.prolog_writer.proofs.Lined.{lined}
use Rattle.prolog_writer.specs.Lexemes.{Lexeme, tokens_from, tokens_of, followed, end_at, Spells, word, symbols, solo, quoted, named, digits, negative, mark, pair, AllSpell, nothing, further}

-- the tokens of pieces from a place in line 1 on, behind what ends so, and these tokens behind them
abbrev pub laid : Option Edge → ℕ → List Piece → List (List Lexeme) → List Token → List Token
laid before at ps xss rest = tokens_of 1 before at ps xss rest

-- pieces in two parts: what ends the first, and the place behind it
pub record Parted (before : Option Edge) (at : ℕ) (ps qs : List Piece) (xss yss : List (List Lexeme)) (rest : List Token) : Type 0 where
  pub edge : Option Edge
  pub place : ℕ
  pub is : laid before at (ps ++ qs) (xss ++ yss) rest ≡ laid before at ps xss (laid edge place qs yss rest)

pub parted : (before : Option Edge) (at : ℕ) {ps : List Piece} {xss : List (List Lexeme)} → AllSpell ps xss → (qs : List Piece) (yss : List (List Lexeme)) (rest : List Token)
    → Parted before at ps qs xss yss rest
parted before at nothing qs yss rest = record { edge = before; place = at; is = refl }
parted before at (further {ps = ps} {xss = xss} p xs h hs) qs yss rest =
    let r = parted (edge_of p) (at + length (gap before p) + length p.text) hs qs yss rest in
    record { edge = r.edge; place = r.place; is = ap (λ (ts : List Token). tokens_from 1 (at + length (gap before p)) xs ++ ts) r.is }

-- ---- up to the End

-- an End in a line, and what is behind it
abbrev pub stopped : ℕ → Stream → Stream
stopped line s = followed (end_at 0 line ∷ []) s

-- no token of a piece ends a term
upto_part : (line at : ℕ) (text : List ℕ) (xs : List Lexeme) → Spells text xs → (ts : List Token) (s : Stream)
    → upto (followed (tokens_from line at xs ++ ts) s) ≡ tokens_from line at xs ++ upto (followed ts s)
upto_part line at text xs (word b bs c w) ts s = refl
upto_part line at text xs (symbols b bs c plain point) ts s = refl
upto_part line at text xs (solo b c) ts s = refl
upto_part line at text xs (quoted spelling meaning i lines) ts s = refl
upto_part line at text xs (named b bs c w) ts s = refl
upto_part line at text xs (digits ds c few) ts s = refl
upto_part line at text xs (negative ds c few) ts s = refl
upto_part line at text xs (mark b c) ts s = refl
upto_part line at text xs (pair a b c d) ts s = refl

tail_part : (line at : ℕ) (text : List ℕ) (xs : List Lexeme) → Spells text xs → (ts : List Token) (s : Stream) → tail (followed (tokens_from line at xs ++ ts) s) ≡ tail (followed ts s)
tail_part line at text xs (word b bs c w) ts s = refl
tail_part line at text xs (symbols b bs c plain point) ts s = refl
tail_part line at text xs (solo b c) ts s = refl
tail_part line at text xs (quoted spelling meaning i lines) ts s = refl
tail_part line at text xs (named b bs c w) ts s = refl
tail_part line at text xs (digits ds c few) ts s = refl
tail_part line at text xs (negative ds c few) ts s = refl
tail_part line at text xs (mark b c) ts s = refl
tail_part line at text xs (pair a b c d) ts s = refl

line_part : (line at : ℕ) (text : List ℕ) (xs : List Lexeme) → Spells text xs → (ts : List Token) (s : Stream) → line_of (tokens_from line at xs ++ ts) (tail s).how ≡ line
line_part line at text xs (word b bs c w) ts s = refl
line_part line at text xs (symbols b bs c plain point) ts s = refl
line_part line at text xs (solo b c) ts s = refl
line_part line at text xs (quoted spelling meaning i lines) ts s = refl
line_part line at text xs (named b bs c w) ts s = refl
line_part line at text xs (digits ds c few) ts s = refl
line_part line at text xs (negative ds c few) ts s = refl
line_part line at text xs (mark b c) ts s = refl
line_part line at text xs (pair a b c d) ts s = refl

module _ (line place : ℕ) (s : Stream) where
  -- an End behind the pieces, and what else there is
  abbrev pub ended_text : Option Edge → ℕ → List Piece → List (List Lexeme) → Stream
  ended_text before at ps xss = followed (tokens_of line before at ps xss (end_at place line ∷ [])) s

  pub upto_end : (before : Option Edge) (at : ℕ) {ps : List Piece} {xss : List (List Lexeme)} → AllSpell ps xss → upto (ended_text before at ps xss) ≡ tokens_of line before at ps xss []
  upto_end before at nothing = refl
  upto_end before at (further {ps = ps} {xss = xss} p xs h hs) =
      upto_part line (at + length (gap before p)) p.text xs h (tokens_of line (edge_of p) (at + length (gap before p) + length p.text) ps xss (end_at place line ∷ [])) s
      ∙ ap (λ (ts : List Token). tokens_from line (at + length (gap before p)) xs ++ ts) (upto_end (edge_of p) (at + length (gap before p) + length p.text) hs)

  pub tail_end : (before : Option Edge) (at : ℕ) {ps : List Piece} {xss : List (List Lexeme)} → AllSpell ps xss → tail (ended_text before at ps xss) ≡ tail (stopped line s)
  tail_end before at nothing = refl
  tail_end before at (further {ps = ps} {xss = xss} p xs h hs) =
      tail_part line (at + length (gap before p)) p.text xs h (tokens_of line (edge_of p) (at + length (gap before p) + length p.text) ps xss (end_at place line ∷ [])) s
      ∙ tail_end (edge_of p) (at + length (gap before p) + length p.text) hs

-- the first token, or the End where there is none, is in the line
pub line_is : (line : ℕ) (s : Stream) (before : Option Edge) (at : ℕ) {ps : List Piece} {xss : List (List Lexeme)} → AllSpell ps xss → line_of (tokens_of line before at ps xss []) (tail (stopped line s)).how ≡ line
line_is line s before at nothing = refl
line_is line s before at (further {ps = ps} {xss = xss} p xs h hs) =
    line_part line (at + length (gap before p)) p.text xs h (tokens_of line (edge_of p) (at + length (gap before p) + length p.text) ps xss []) (stopped line s)

-- ---- in any line

from_lined : (line at : ℕ) (xs : List Lexeme) (ts : List Token) → lined line (tokens_from 1 at xs ++ ts) ≡ tokens_from line at xs ++ lined line ts
from_lined line at [] ts = refl
from_lined line at (x ∷ xs) ts = ap (λ (us : List Token). token_at at line x.bytes x.kind ∷ us) (from_lined line (at + x.bytes) xs ts)

pub laid_lined : (line : ℕ) (before : Option Edge) (at : ℕ) {ps : List Piece} {xss : List (List Lexeme)} → AllSpell ps xss → lined line (laid before at ps xss []) ≡ tokens_of line before at ps xss []
laid_lined line before at nothing = refl
laid_lined line before at (further {ps = ps} {xss = xss} p xs h hs) =
    from_lined line (at + length (gap before p)) xs (laid (edge_of p) (at + length (gap before p) + length p.text) ps xss [])
    ∙ ap (λ (ts : List Token). tokens_from line (at + length (gap before p)) xs ++ ts) (laid_lined line (edge_of p) (at + length (gap before p) + length p.text) hs)
