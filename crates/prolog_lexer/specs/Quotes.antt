-- What stands between quotes (docs/LANGUAGE.md, Tokens).
use Rattle.std.specs.Prelude.{ℕ, zero, suc, ◌+◌, List, [], ◌∷◌, ◌++◌, take, drop, Bool, true, false, ◌&&◌, ◌||◌, ◌==◌, nat_lt, cond, Option, Some, None}
use Rattle.std.specs.List.{prefix_len}
use Rattle.prolog_lexer.specs.Digits.{is_digit_of, value_from, at_most}
use Rattle.prolog_lexer.specs.declared.quote.Bit.{Bit}
use Rattle.prolog_lexer.specs.declared.quote.Bit.TheVariants.{Closed, Broken, Stands, Skips}
use Rattle.prolog_lexer.specs.declared.quote.Contents.{Contents}
use Rattle.prolog_lexer.specs.declared.quote.Contents.TheVariants.{Text, Open}

abbrev pub begins_with : ℕ → List ℕ → Bool
begins_with q [] = false
begins_with q (b ∷ bs) = b == q

-- a number of n digits, and the byte \ after it
abbrev pub numeric : Option ℕ → ℕ → Bool → Bit
numeric None n shut = Broken 3
numeric (Some v) n false = Broken 3
numeric (Some v) n true = Stands v n

-- the digits at the front, where some stand there; before counts the bytes before them and after the first \
unfoldable pub coded_by : ℕ → ℕ → List ℕ → Bit
coded_by base before bytes =
    numeric (at_most 255 (value_from base 0 (take (prefix_len (is_digit_of base) bytes) bytes))) (before + prefix_len (is_digit_of base) bytes + 1)
    (nat_lt 0 (prefix_len (is_digit_of base) bytes) && begins_with 92 (drop (prefix_len (is_digit_of base) bytes) bytes))

-- the letter after \ and the byte that it stands for
unfoldable pub letter : ℕ → Option ℕ
letter b =
    cond (b == 97) (Some 7) (cond (b == 98) (Some 8) (cond (b == 116) (Some 9) (cond (b == 110) (Some 10) (cond (b == 118) (Some 11)
    (cond (b == 102) (Some 12) (cond (b == 114) (Some 13) (cond (b == 92 || (b == 39 || (b == 34 || b == 96))) (Some b) None)))))))

abbrev pub by_letter : Option ℕ → Bit → Bit
by_letter None other = other
by_letter (Some v) other = Stands v 1

-- the bytes after \, and how many of them belong to the escape
unfoldable pub escape : List ℕ → Bit
escape [] = Broken 3
escape (b ∷ bs) =
    by_letter (letter b) (cond (b == 10) (Skips 1) (cond (b == 120) (coded_by 16 1 bs) (cond (is_digit_of 8 b) (coded_by 8 0 (b ∷ bs)) (Broken 3))))

-- a byte inside quotes q, and the bytes after it
unfoldable pub bit : ℕ → ℕ → List ℕ → Bit
bit q b bs =
    cond (b == 10) (Broken 2)
    (cond (b == q) (cond (begins_with q bs) (Stands q 1) Closed)
    (cond (b == 92) (escape bs) (Stands b 0)))

abbrev pub skip_of : Bit → ℕ
skip_of (Stands b k) = k
skip_of (Skips k) = k
skip_of _ = 0

-- bytes that are meant, and how many bytes they took, before the rest
abbrev pub lead : List ℕ → ℕ → Contents → Contents
lead xs k (Text ys n) = Text (xs ++ ys) (k + n)
lead xs k (Open f) = Open f

abbrev pub with_bit : Bit → Contents → Contents
with_bit Closed rest = Text [] 1
with_bit (Broken f) rest = Open f
with_bit (Stands b k) rest = lead (b ∷ []) 1 rest
with_bit (Skips k) rest = lead [] 1 rest

-- what is meant up to the closing quote, and how many bytes it takes; the first skip bytes belong to what stands before
abbrev pub inside : ℕ → ℕ → List ℕ → Contents
inside q skip [] = Open 2
inside q (suc k) (b ∷ bs) = lead [] 1 (inside q k bs)
inside q zero (b ∷ bs) = with_bit (bit q b bs) (inside q (skip_of (bit q b bs)) bs)
