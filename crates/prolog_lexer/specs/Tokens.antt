-- The tokens of a text, by cases (docs/LANGUAGE.md, Tokens).
use Rattle.std.specs.Prelude.{◌≡◌, ◌≤◌, ◌<◌, ℕ, ◌+◌, List, [], ◌∷◌, ◌++◌, Bool, true, false, ◌&&◌, ◌||◌, ◌==◌, length, count_by}
use Rattle.prolog_lexer.specs.Classes.{class, is_word, is_symbol, in_line}
use Rattle.prolog_lexer.specs.Digits.{is_digit_of, begins_with_digit, value}
use Rattle.prolog_lexer.specs.Quotes.{begins_with}
use Rattle.prolog_lexer.specs.Pieces.{begins_comment, ends_comment, is_break}
use Rattle.prolog_lexer.specs.Escapes.{AreAll, EndsRun, AreDigits, Inside, BadEscape, Character, BadCharacter}
use Rattle.prolog_lexer.specs.Streams.{Stream, ended, refused, token, line_after}
use Rattle.prolog_lexer.specs.declared.class.Class.TheVariants.{Layout, Small, Capital, Solo, Punctuation, Foreign}
use Rattle.prolog_lexer.specs.declared.token.Token.{Token}
use Rattle.prolog_lexer.specs.declared.token.LexFault.{LexFault}
use Rattle.prolog_lexer.specs.declared.token.TokenKind.{TokenKind}
use Rattle.prolog_lexer.specs.declared.token.TokenKind.TheVariants.{Name, Quoted, Variable, Integer, Codes, Punct, Stop}

-- how the tokens of a text end: with the text, or at bytes that are refused
pub data Ending : Type 0 where
  at_end : Ending
  at_fault : LexFault → Ending

-- a token of n bytes at a place in a line
abbrev pub token_at : ℕ → ℕ → ℕ → TokenKind → Token
token_at at line n kind = record { kind = kind; from = at; to = at + n; line = line }

-- A fault in a token or comment that begins in a line: 1 a byte that is none of a token, 2 an open quote, 3 a bad escape,
-- 4 an open comment, 5 an integer too large.
abbrev pub fault_in : ℕ → ℕ → Ending
fault_in line number = at_fault (record { number = number; line = line })

-- the line after bytes
abbrev pub line_past : List ℕ → ℕ → ℕ
line_past bytes line = line + count_by (λ b. b == 10) bytes

-- nowhere in the bytes does */ stand
abbrev pub NeverCloses : List ℕ → Type 0
NeverCloses [] = Unit {0}
NeverCloses (b ∷ bs) = (ends_comment (b ∷ bs) ≡ false) × NeverCloses bs

-- symbol bytes that are an End before the rest: the dot alone, before layout, % or the end of the text
abbrev pub is_end : List ℕ → List ℕ → Bool
is_end (b ∷ []) rest = b == 46 && is_break rest
is_end _ rest = false

-- decimal digits that are not the whole integer: 0 alone before ', or before the letter of a base and a digit of it
abbrev pub goes_on : List ℕ → List ℕ → Bool
goes_on (d ∷ []) (b ∷ bs) = d == 48 && (b == 39 || (b == 120 && begins_with_digit 16 bs || (b == 111 && begins_with_digit 8 bs || b == 98 && begins_with_digit 2 bs)))
goes_on digits rest = false

-- the letter between 0 and the digits of an integer, and their base
pub data Radix : ℕ → ℕ → Type 0 where
  hexadecimal : Radix 120 16
  octal : Radix 111 8
  binary : Radix 98 2

-- the quotes of names and of codes, and the token that bytes between them are
pub data Quoting : ℕ → Type 0 where
  names : Quoting 39
  texts : Quoting 34

abbrev pub quoting : {quote : ℕ} → Quoting quote → List ℕ → TokenKind
quoting names meaning = Quoted meaning
quoting texts meaning = Codes meaning

-- the end of a line or of the text
abbrev pub ends_line : List ℕ → Bool
ends_line [] = true
ends_line (b ∷ bs) = b == 10

-- The bytes from a place in a line on have these tokens, and end so. Layout and comments are passed over; each token is the
-- longest that can be taken; the first bytes that are no token are refused.
pub data Tokens : ℕ → ℕ → List ℕ → List Token → Ending → Type 0 where
  text_ends : {at line : ℕ} → Tokens at line [] [] at_end
  layout : {at line : ℕ} {rest : List ℕ} {ts : List Token} {e : Ending} (b : ℕ)
      → class b ≡ Layout → Tokens (at + 1) (line_after b line) rest ts e
      → Tokens at line (b ∷ rest) ts e
  -- comments: % to the end of the line, and /* to the next */
  line_comment : {at line : ℕ} {ts : List Token} {e : Ending} (comment rest : List ℕ)
      → AreAll in_line comment → EndsRun in_line rest → Tokens (at + length (37 ∷ comment)) line rest ts e
      → Tokens at line (37 ∷ (comment ++ rest)) ts e
  closed_comment : {at line : ℕ} {ts : List Token} {e : Ending} (comment rest : List ℕ)
      → NeverCloses comment → Tokens (at + (2 + length comment + 2)) (line_past comment line) rest ts e
      → Tokens at line (47 ∷ 42 ∷ (comment ++ 42 ∷ 47 ∷ rest)) ts e
  open_comment : {at line : ℕ} (rest : List ℕ)
      → NeverCloses rest
      → Tokens at line (47 ∷ 42 ∷ rest) [] (fault_in line 4)
  -- names and variables
  name : {at line : ℕ} {ts : List Token} {e : Ending} (b : ℕ) (word rest : List ℕ)
      → class b ≡ Small → AreAll is_word word → EndsRun is_word rest → Tokens (at + length (b ∷ word)) line rest ts e
      → Tokens at line (b ∷ (word ++ rest)) (token_at at line (length (b ∷ word)) (Name (b ∷ word)) ∷ ts) e
  variable : {at line : ℕ} {ts : List Token} {e : Ending} (b : ℕ) (word rest : List ℕ)
      → class b ≡ Capital → AreAll is_word word → EndsRun is_word rest → Tokens (at + length (b ∷ word)) line rest ts e
      → Tokens at line (b ∷ (word ++ rest)) (token_at at line (length (b ∷ word)) (Variable (b ∷ word)) ∷ ts) e
  solo : {at line : ℕ} {rest : List ℕ} {ts : List Token} {e : Ending} (b : ℕ)
      → class b ≡ Solo → Tokens (at + 1) line rest ts e
      → Tokens at line (b ∷ rest) (token_at at line 1 (Name (b ∷ [])) ∷ ts) e
  symbols : {at line : ℕ} {ts : List Token} {e : Ending} (b : ℕ) (run rest : List ℕ)
      → AreAll is_symbol (b ∷ run) → EndsRun is_symbol rest → begins_comment (b ∷ run) ≡ false → is_end (b ∷ run) rest ≡ false
      → Tokens (at + length (b ∷ run)) line rest ts e
      → Tokens at line (b ∷ (run ++ rest)) (token_at at line (length (b ∷ run)) (Name (b ∷ run)) ∷ ts) e
  -- the End, and punctuation
  stop : {at line : ℕ} {rest : List ℕ} {ts : List Token} {e : Ending}
      → is_break rest ≡ true → Tokens (at + 1) line rest ts e
      → Tokens at line (46 ∷ rest) (token_at at line 1 Stop ∷ ts) e
  punctuation : {at line : ℕ} {rest : List ℕ} {ts : List Token} {e : Ending} (b : ℕ)
      → class b ≡ Punctuation → Tokens (at + 1) line rest ts e
      → Tokens at line (b ∷ rest) (token_at at line 1 (Punct b) ∷ ts) e
  -- integers: decimal, 0 with a letter and digits of its base, and 0' with a character
  decimal : {at line : ℕ} {ts : List Token} {e : Ending} (digits rest : List ℕ)
      → AreDigits 10 digits → EndsRun (is_digit_of 10) rest → goes_on digits rest ≡ false → value 10 digits ≤ 0x8000_0000_0000_0000
      → Tokens (at + length digits) line rest ts e
      → Tokens at line (digits ++ rest) (token_at at line (length digits) (Integer (value 10 digits)) ∷ ts) e
  decimal_too_large : {at line : ℕ} (digits rest : List ℕ)
      → AreDigits 10 digits → EndsRun (is_digit_of 10) rest → goes_on digits rest ≡ false → 0x8000_0000_0000_0000 < value 10 digits
      → Tokens at line (digits ++ rest) [] (fault_in line 5)
  based : {at line base : ℕ} {ts : List Token} {e : Ending} (letter : ℕ) (digits rest : List ℕ)
      → Radix letter base → AreDigits base digits → EndsRun (is_digit_of base) rest → value base digits ≤ 0x8000_0000_0000_0000
      → Tokens (at + (2 + length digits)) line rest ts e
      → Tokens at line (48 ∷ letter ∷ (digits ++ rest)) (token_at at line (2 + length digits) (Integer (value base digits)) ∷ ts) e
  based_too_large : {at line base : ℕ} (letter : ℕ) (digits rest : List ℕ)
      → Radix letter base → AreDigits base digits → EndsRun (is_digit_of base) rest → 0x8000_0000_0000_0000 < value base digits
      → Tokens at line (48 ∷ letter ∷ (digits ++ rest)) [] (fault_in line 5)
  character : {at line v : ℕ} {ts : List Token} {e : Ending} (spelling rest : List ℕ)
      → Character spelling v → Tokens (at + (2 + length spelling)) line rest ts e
      → Tokens at line (48 ∷ 39 ∷ (spelling ++ rest)) (token_at at line (2 + length spelling) (Integer v) ∷ ts) e
  no_character : {at line : ℕ} (rest : List ℕ)
      → BadCharacter rest
      → Tokens at line (48 ∷ 39 ∷ rest) [] (fault_in line 3)
  -- quoted names and codes, up to the first quote that is not written twice
  quoted : {at line quote : ℕ} {meaning : List ℕ} {ts : List Token} {e : Ending} (spelling rest : List ℕ)
      → (q : Quoting quote) → Inside quote spelling meaning → begins_with quote rest ≡ false
      → Tokens (at + (1 + length spelling + 1)) (line_past spelling line) rest ts e
      → Tokens at line (quote ∷ (spelling ++ quote ∷ rest)) (token_at at line (1 + length spelling + 1) (quoting q meaning) ∷ ts) e
  open_quote : {at line quote : ℕ} {meaning : List ℕ} (spelling rest : List ℕ)
      → Quoting quote → Inside quote spelling meaning → ends_line rest ≡ true
      → Tokens at line (quote ∷ (spelling ++ rest)) [] (fault_in line 2)
  bad_escape : {at line quote : ℕ} {meaning : List ℕ} (spelling rest : List ℕ)
      → Quoting quote → Inside quote spelling meaning → BadEscape rest
      → Tokens at line (quote ∷ (spelling ++ 92 ∷ rest)) [] (fault_in line 3)
  -- a byte of no class
  no_token : {at line : ℕ} {rest : List ℕ} (b : ℕ)
      → class b ≡ Foreign
      → Tokens at line (b ∷ rest) [] (fault_in line 1)

-- the stream of these tokens that ends so
abbrev pub stream_of : List Token → Ending → Stream
stream_of [] at_end = ended
stream_of [] (at_fault f) = refused f
stream_of (t ∷ ts) e = token t (stream_of ts e)

-- the tokens of a stream, and how it ends
abbrev pub listed : Stream → List Token
listed ended = []
listed (refused f) = []
listed (token t rest) = t ∷ listed rest

abbrev pub ending : Stream → Ending
ending ended = at_end
ending (refused f) = at_fault f
ending (token t rest) = ending rest

-- the tokens stand in order and apart, none of them empty, from one place of the bytes to another
abbrev pub AreApart : ℕ → ℕ → List Token → Type 0
AreApart from end [] = from ≤ end
AreApart from end (t ∷ ts) = (from ≤ t.from) × (t.from < t.to) × AreApart t.to end ts
