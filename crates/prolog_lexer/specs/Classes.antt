-- The classes of bytes (docs/LANGUAGE.md, Tokens).
use Rattle.std.specs.Prelude.{ℕ, List, [], ◌∷◌, Bool, true, false, not, ◌&&◌, ◌||◌, ◌==◌, nat_le, cond, codes}
use Rattle.prolog_lexer.specs.declared.class.Class.{Class}
use Rattle.prolog_lexer.specs.declared.class.Class.TheVariants.{Layout, Small, Capital, Digit, Symbol, Solo, Punctuation, Percent, Quote, DoubleQuote, Foreign}

-- between two bytes, both included
abbrev pub within : ℕ → ℕ → ℕ → Bool
within low high b = nat_le low b && nat_le b high

abbrev pub one_of : List ℕ → ℕ → Bool
one_of [] b = false
one_of (x ∷ xs) b = b == x || one_of xs b

-- layout is 9 to 13 and 32; small letters are a to z and from 128 on, capitals A to Z and _; then the digits, the solo bytes,
-- punctuation, % and the quotes, each a class of its own, the symbol bytes, and all other bytes
unfoldable pub class : ℕ → Class
class b =
    cond (within 9 13 b || b == 32) Layout
    (cond (within 97 122 b || nat_le 128 b) Small
    (cond (within 65 90 b || b == 95) Capital
    (cond (within 48 57 b) Digit
    (cond (one_of (codes "!;") b) Solo
    (cond (one_of (codes "()[]{},|") b) Punctuation
    (cond (b == 37) Percent
    (cond (b == 39) Quote
    (cond (b == 34) DoubleQuote
    (cond (one_of (codes "+-*/\\^<>=~:.?@#&$") b) Symbol
    Foreign)))))))))

abbrev pub word_class : Class → Bool
word_class Small = true
word_class Capital = true
word_class Digit = true
word_class _ = false

abbrev pub symbol_class : Class → Bool
symbol_class Symbol = true
symbol_class _ = false

abbrev pub layout_class : Class → Bool
layout_class Layout = true
layout_class _ = false

-- letters, digits and _
abbrev pub is_word : ℕ → Bool
is_word b = word_class (class b)

abbrev pub is_symbol : ℕ → Bool
is_symbol b = symbol_class (class b)

abbrev pub is_layout : ℕ → Bool
is_layout b = layout_class (class b)

-- a byte that ends no line
abbrev pub in_line : ℕ → Bool
in_line b = not (b == 10)
