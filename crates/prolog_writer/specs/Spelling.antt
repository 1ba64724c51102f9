-- How names, integers and variables are spelled (ISO/IEC 13211-1, 6.4.2 and 7.10.5).
use Rattle.std.specs.Prelude.{ℕ, ◌+◌, ◌/◌, ◌%◌, List, [], ◌∷◌, ◌++◌, Bool, true, false, ◌&&◌, ◌||◌, not, ◌==◌, nat_le, nat_lt, nat_eq, codes, if◌then◌else◌}
use Rattle.std.specs.List.{list_all, list_any, flat_map, starts_with}
use Rattle.std.specs.Cmp.Lexicographic.{pointwise}
use Rattle.std.specs.Fmt.{decimal}
use Rattle.prolog_writer.specs.declared.style.Style.{Style}
use Rattle.prolog_writer.specs.declared.style.Style.TheVariants.{Plain, Quoted, Canonical}

-- ---- names that stand without quotes

-- `a` to `z`, and each byte from 128 on
abbrev pub is_small : ℕ → Bool
is_small b = (nat_le 97 b && nat_le b 122) || nat_le 128 b

abbrev pub is_digit : ℕ → Bool
is_digit b = nat_le 48 b && nat_le b 57

-- a small letter, `A` to `Z`, a digit or `_`
abbrev pub is_alphanumeric : ℕ → Bool
is_alphanumeric b = is_small b || ((nat_le 65 b && nat_le b 90) || (is_digit b || b == 95))

-- a symbol
abbrev pub is_symbol : ℕ → Bool
is_symbol b = list_any (λ s. s == b) (codes "+-*/\\^<>=~:.?@#&$")

-- a small letter and alphanumeric bytes behind it
abbrev pub is_word : List ℕ → Bool
is_word [] = false
is_word (b ∷ bs) = is_small b && list_all is_alphanumeric bs

-- whether two texts are the same
abbrev pub same_text : List ℕ → List ℕ → Bool
same_text = pointwise nat_eq

-- the point alone, which ends a clause, and what opens a comment
abbrev pub is_reserved : List ℕ → Bool
is_reserved name = same_text name (codes ".") || starts_with nat_eq name (codes "/*")

-- one or more symbols that have no meaning of their own
abbrev pub is_symbolic : List ℕ → Bool
is_symbolic [] = false
is_symbolic (b ∷ bs) = not (is_reserved (b ∷ bs)) && list_all is_symbol (b ∷ bs)

-- `[]` and `{}`
abbrev pub is_brackets : List ℕ → Bool
is_brackets name = same_text name (codes "[]") || same_text name (codes "{}")

-- the names that are tokens of their own
abbrev pub is_solo : List ℕ → Bool
is_solo name = is_brackets name || (same_text name (codes "!") || same_text name (codes ";"))

abbrev pub stands_alone : List ℕ → Bool
stands_alone name = is_word name || (is_symbolic name || is_solo name)

-- ---- names between quotes

-- a lower-case hexadecimal digit
abbrev pub hex_digit : ℕ → ℕ
hex_digit d = if nat_lt d 10 then 48 + d else 87 + d

-- a byte, as it stands between quotes
unfoldable pub escaped : ℕ → List ℕ
escaped b =
    if b == 92 then codes "\\\\"
    else (if b == 39 then codes "\\'"
    else (if b == 10 then codes "\\n"
    else (if b == 9 then codes "\\t"
    else (if nat_lt b 32 || b == 127 then codes "\\x" ++ (hex_digit (b / 16) ∷ hex_digit (b % 16) ∷ []) ++ codes "\\"
    else (b ∷ [])))))

-- a name between quotes
abbrev pub in_quotes : List ℕ → List ℕ
in_quotes name = codes "'" ++ flat_map escaped name ++ codes "'"

-- ---- names in each style

-- Plain has no quotes
abbrev pub has_quotes : Style → Bool
has_quotes Plain = false
has_quotes Quoted = true
has_quotes Canonical = true

-- which names stand between quotes: an atom that doesn't stand alone
abbrev pub quotes_atom : Style → List ℕ → Bool
quotes_atom style name = has_quotes style && not (stands_alone name)

-- the name of a compound before its arguments likewise, and `[]` and `{}`
abbrev pub quotes_functor : Style → List ℕ → Bool
quotes_functor style name = has_quotes style && (is_brackets name || not (stands_alone name))

-- an operator's name likewise, but no comma
abbrev pub quotes_operator : Style → List ℕ → Bool
quotes_operator style name = not (same_text name (codes ",")) && quotes_atom style name

unfoldable pub name_text : Bool → List ℕ → List ℕ
name_text quoted name = if quoted then in_quotes name else name

-- the variable of a number
abbrev pub variable_text : ℕ → List ℕ
variable_text n = codes "_" ++ decimal (n + 1)
