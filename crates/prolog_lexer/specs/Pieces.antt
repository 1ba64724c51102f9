-- The piece of a text at its front: blank, a token, or a fault. Each is the longest that can be taken (docs/LANGUAGE.md, Tokens).
use Rattle.std.specs.Prelude.{ℕ, ◌+◌, List, [], ◌∷◌, take, drop, Bool, true, false, ◌&&◌, ◌||◌, ◌==◌, cond, Option, Some, None}
use Rattle.std.specs.List.{prefix_len}
use Rattle.prolog_lexer.specs.Classes.{class, is_word, is_symbol, in_line, is_layout}
use Rattle.prolog_lexer.specs.declared.class.Class.{Class}
use Rattle.prolog_lexer.specs.declared.class.Class.TheVariants.{Layout, Small, Capital, Digit, Symbol, Solo, Punctuation, Percent, Quote, DoubleQuote, Foreign}
use Rattle.prolog_lexer.specs.Digits.{is_digit_of, begins_with_digit, at_most, value_from}
use Rattle.prolog_lexer.specs.Quotes.{begins_with, escape, inside}
use Rattle.prolog_lexer.specs.declared.quote.Bit.{Bit}
use Rattle.prolog_lexer.specs.declared.quote.Bit.TheVariants.{Stands}
use Rattle.prolog_lexer.specs.declared.quote.Contents.{Contents}
use Rattle.prolog_lexer.specs.declared.quote.Contents.TheVariants.{Text, Open}
use Rattle.prolog_lexer.specs.declared.piece.Piece.{Piece}
use Rattle.prolog_lexer.specs.declared.piece.Piece.TheVariants.{Blank, Lexeme, Refused}
use Rattle.prolog_lexer.specs.declared.token.TokenKind.{TokenKind}
use Rattle.prolog_lexer.specs.declared.token.TokenKind.TheVariants.{Name, Quoted, Variable, Integer, Codes, Punct, Stop}

-- the first n bytes as a token
abbrev pub cut : (List ℕ → TokenKind) → ℕ → List ℕ → Piece
cut kind n bytes = Lexeme (kind (take n bytes)) n

-- ---- names of symbol bytes, the end, comments between /* and */

abbrev pub begins_comment : List ℕ → Bool
begins_comment (a ∷ b ∷ bs) = a == 47 && b == 42
begins_comment _ = false

abbrev pub ends_comment : List ℕ → Bool
ends_comment (a ∷ b ∷ bs) = a == 42 && b == 47
ends_comment _ = false

abbrev pub later : ℕ → Option ℕ → Option ℕ
later n None = None
later n (Some k) = Some (n + k)

-- how many bytes stand before the first */
unfoldable pub before_close : List ℕ → Option ℕ
before_close [] = None
before_close (b ∷ bs) = cond (ends_comment (b ∷ bs)) (Some 0) (later 1 (before_close bs))

abbrev pub closed : Option ℕ → Piece
closed None = Refused 4
closed (Some n) = Blank (2 + n + 2)

-- the comment that has this after its first two bytes
unfoldable pub comment : List ℕ → Piece
comment inside = closed (before_close inside)

-- what makes the byte before it an end: layout, % or the end of the text
abbrev pub is_break : List ℕ → Bool
is_break [] = true
is_break (b ∷ bs) = b == 37 || is_layout b

abbrev pub is_stop : List ℕ → Bool
is_stop [] = false
is_stop (b ∷ bs) = b == 46 && is_break bs

unfoldable pub symbolic : List ℕ → Piece
symbolic bytes =
    cond (begins_comment bytes) (comment (drop 2 bytes))
    (cond (prefix_len is_symbol bytes == 1 && is_stop bytes) (Lexeme Stop 1)
    (cut Name (prefix_len is_symbol bytes) bytes))

-- ---- integers

abbrev pub integer : Option ℕ → ℕ → Piece
integer None len = Refused 5
integer (Some n) len = Lexeme (Integer n) len

unfoldable pub decimal : List ℕ → Piece
decimal bytes = integer (at_most 0x8000_0000_0000_0000 (value_from 10 0 (take (prefix_len (is_digit_of 10) bytes) bytes))) (prefix_len (is_digit_of 10) bytes)

-- 0' and a byte, or '' or an escape that stands for one
abbrev pub by_escape : Bit → Piece
by_escape (Stands v k) = Lexeme (Integer v) (3 + k)
by_escape _ = Refused 3

unfoldable pub character : List ℕ → Piece
character [] = Refused 3
character (b ∷ bs) =
    cond (b == 39) (cond (begins_with 39 bs) (Lexeme (Integer 39) 4) (Refused 3))
    (cond (b == 10) (Refused 3) (cond (b == 92) (by_escape (escape bs)) (Lexeme (Integer b) 3)))

-- 0, a letter, and at least one digit of its base
abbrev pub begins_with_two : ℕ → ℕ → List ℕ → Bool
begins_with_two a b (x ∷ y ∷ bs) = x == a && y == b
begins_with_two a b _ = false

abbrev pub is_based : ℕ → ℕ → List ℕ → Bool
is_based letter base bytes = begins_with_two 48 letter bytes && begins_with_digit base (drop 2 bytes)

unfoldable pub based : ℕ → List ℕ → Piece
based base bytes = integer (at_most 0x8000_0000_0000_0000 (value_from base 0 (take (prefix_len (is_digit_of base) (drop 2 bytes)) (drop 2 bytes)))) (2 + prefix_len (is_digit_of base) (drop 2 bytes))

unfoldable pub number : List ℕ → Piece
number bytes =
    cond (begins_with_two 48 39 bytes) (character (drop 2 bytes))
    (cond (is_based 120 16 bytes) (based 16 bytes) (cond (is_based 111 8 bytes) (based 8 bytes) (cond (is_based 98 2 bytes) (based 2 bytes) (decimal bytes))))

-- ---- quotes

abbrev pub quoted : (List ℕ → TokenKind) → Contents → Piece
quoted kind (Text bs n) = Lexeme (kind bs) (1 + n)
quoted kind (Open f) = Refused f

abbrev pub quoted_name : List ℕ → Piece
quoted_name text = quoted Quoted (inside 39 0 text)

abbrev pub quoted_codes : List ℕ → Piece
quoted_codes text = quoted Codes (inside 34 0 text)

-- ---- all of them, by the class of the first byte

abbrev pub piece_of : Class → ℕ → List ℕ → Piece
piece_of Layout b bytes = Blank 1
piece_of Percent b bytes = Blank (prefix_len in_line bytes)
piece_of Small b bytes = cut Name (prefix_len is_word bytes) bytes
piece_of Capital b bytes = cut Variable (prefix_len is_word bytes) bytes
piece_of Solo b bytes = cut Name 1 bytes
piece_of Punctuation b bytes = Lexeme (Punct b) 1
piece_of Symbol b bytes = symbolic bytes
piece_of Digit b bytes = number bytes
piece_of Quote b bytes = quoted_name (drop 1 bytes)
piece_of DoubleQuote b bytes = quoted_codes (drop 1 bytes)
piece_of Foreign b bytes = Refused 1

unfoldable pub piece : List ℕ → Piece
piece [] = Blank 0
piece (b ∷ bs) = piece_of (class b) b (b ∷ bs)
