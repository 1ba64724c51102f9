-- What stands between quotes, by cases (docs/LANGUAGE.md, Tokens).
use Rattle.std.specs.Prelude.{◌≡◌, ◌≢◌, ◌≤◌, ◌<◌, ℕ, List, [], ◌∷◌, ◌++◌, Bool, true, false, codes}
use Rattle.prolog_lexer.specs.Classes.{one_of}
use Rattle.prolog_lexer.specs.Digits.{is_digit_of, value}
use Rattle.prolog_lexer.specs.Quotes.{begins_with}

-- each of the bytes is of this kind
abbrev pub AreAll : (ℕ → Bool) → List ℕ → Type 0
AreAll kind [] = Unit {0}
AreAll kind (b ∷ bs) = (kind b ≡ true) × AreAll kind bs

-- the bytes do not go on with one of this kind
abbrev pub EndsRun : (ℕ → Bool) → List ℕ → Type 0
EndsRun kind [] = Unit {0}
EndsRun kind (b ∷ bs) = kind b ≡ false

-- digits of a base, and at least one
abbrev pub AreDigits : ℕ → List ℕ → Type 0
AreDigits base [] = ⊥
AreDigits base (d ∷ ds) = AreAll (is_digit_of base) (d ∷ ds)

-- a byte after \ alone, and the byte that the two stand for
pub data Letter : ℕ → ℕ → Type 0 where
  alert : Letter 97 7
  backspace : Letter 98 8
  tab : Letter 116 9
  new_line : Letter 110 10
  vertical_tab : Letter 118 11
  form_feed : Letter 102 12
  return : Letter 114 13
  backslash : Letter 92 92
  single_quote : Letter 39 39
  double_quote : Letter 34 34
  back_quote : Letter 96 96

-- what stands between \ and the digits of an escape, and the base of the digits
pub data Mark : List ℕ → ℕ → Type 0 where
  octal : Mark [] 8
  hexadecimal : Mark (120 ∷ []) 16

-- The bytes of an escape after its first \, and the byte that it stands for.
pub data Escape : List ℕ → ℕ → Type 0 where
  letter : {v : ℕ} (b : ℕ) → Letter b v → Escape (b ∷ []) v
  number : {base : ℕ} (mark digits : List ℕ)
      → Mark mark base → AreDigits base digits → value base digits ≤ 255
      → Escape (mark ++ (digits ++ 92 ∷ [])) (value base digits)

-- the bytes with which an escape goes on after \, the end of a line included
abbrev pub goes_on_escape : ℕ → Bool
goes_on_escape b = one_of (codes "abtnvfr\\'\"`x01234567\n") b

-- The bytes after a \ that begins no escape: the text ends there; the next byte is none that may follow; \x has no digit;
-- the digits are not closed by \; the value is none of a byte.
pub data BadEscape : List ℕ → Type 0 where
  cut_off : BadEscape []
  unknown : {rest : List ℕ} (b : ℕ) → goes_on_escape b ≡ false → BadEscape (b ∷ rest)
  no_digit : (rest : List ℕ) → EndsRun (is_digit_of 16) rest → BadEscape (120 ∷ rest)
  not_closed : {base : ℕ} (mark digits rest : List ℕ)
      → Mark mark base → AreDigits base digits → EndsRun (is_digit_of base) rest → begins_with 92 rest ≡ false
      → BadEscape (mark ++ (digits ++ rest))
  too_large : {base : ℕ} (mark digits rest : List ℕ)
      → Mark mark base → AreDigits base digits → 255 < value base digits
      → BadEscape (mark ++ (digits ++ 92 ∷ rest))

-- The bytes between two quotes, and those that they mean: each byte itself, but for the quote, \ and the end of a line;
-- the quote, written twice; an escape; \ before the end of a line, which stands for nothing.
pub data Inside (quote : ℕ) : List ℕ → List ℕ → Type 0 where
  nothing : Inside quote [] []
  itself : {bytes meaning : List ℕ} (b : ℕ) → b ≢ quote → b ≢ 92 → b ≢ 10 → Inside quote bytes meaning → Inside quote (b ∷ bytes) (b ∷ meaning)
  twice : {bytes meaning : List ℕ} → Inside quote bytes meaning → Inside quote (quote ∷ quote ∷ bytes) (quote ∷ meaning)
  escaped : {v : ℕ} {bytes meaning : List ℕ} (spelling : List ℕ) → Escape spelling v → Inside quote bytes meaning → Inside quote (92 ∷ (spelling ++ bytes)) (v ∷ meaning)
  continued : {bytes meaning : List ℕ} → Inside quote bytes meaning → Inside quote (92 ∷ 10 ∷ bytes) meaning

-- the bytes of a character after 0', and its value: a byte itself, the quote twice, or an escape
pub data Character : List ℕ → ℕ → Type 0 where
  plain : (b : ℕ) → b ≢ 39 → b ≢ 92 → b ≢ 10 → Character (b ∷ []) b
  quote : Character (39 ∷ 39 ∷ []) 39
  escape : {v : ℕ} (spelling : List ℕ) → Escape spelling v → Character (92 ∷ spelling) v

-- the bytes after a 0' that begins no character: the end of the text or of the line, one quote, a bad escape, or \ before
-- the end of the line
pub data BadCharacter : List ℕ → Type 0 where
  text_end : BadCharacter []
  line_end : {rest : List ℕ} → BadCharacter (10 ∷ rest)
  one_quote : {rest : List ℕ} → begins_with 39 rest ≡ false → BadCharacter (39 ∷ rest)
  bad_escape : {rest : List ℕ} → BadEscape rest → BadCharacter (92 ∷ rest)
  continuation : {rest : List ℕ} → BadCharacter (92 ∷ 10 ∷ rest)
