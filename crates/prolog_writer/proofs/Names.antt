-- Names, integers and variables are spelled as their tokens.
use Rattle.std.proofs.Common.{◌≡◌, ◌≢◌, ℕ, ◌+◌, ◌*◌, ◌/◌, ◌%◌, ◌^◌, ◌≤◌, ◌<◌, length, List, [], ◌∷◌, ◌++◌, Bool, true, false, refl, sym, ◌∙◌, ap, subst, arith}
use Rattle.std.specs.Prelude.{codes, ◌==◌, ◌||◌, not, nat_lt, nat_eq, cond, count_by}
use Rattle.std.specs.List.{list_all, flat_map, starts_with}
use Rattle.std.specs.Cmp.Lexicographic.{bytes_decides}
use Rattle.std.proofs.lemmas.Bool.{and_parts, eqb-true, true≢false}
use Rattle.std.proofs.lemmas.Bool.Decides.{nat_tests}
use Rattle.prolog_lexer.specs.Classes.{is_word, is_symbol, in_line}
use Rattle.prolog_lexer.specs.Digits.{digit, is_digit_of, value, value_from}
use Rattle.prolog_lexer.specs.Escapes.{AreAll, AreDigits, Escape, letter, number, hexadecimal, tab, new_line, backslash, single_quote, Inside, nothing, itself, escaped as by_escape}
use Rattle.prolog_lexer.specs.Pieces.{begins_comment}
use Rattle.prolog_lexer.specs.declared.token.TokenKind.TheVariants.{Name, Variable, Integer}
use Rattle.prolog_writer.specs.Spelling.{is_small, is_alphanumeric, is_symbol as is_symbol_byte, is_word as is_word_name, is_symbolic, is_reserved, same_text, stands_alone, is_brackets, is_solo, escaped, hex_digit, in_quotes, name_text, variable_text}
use Rattle.std.specs.Fmt.{decimal}
use Rattle.std.proofs.lemmas.Fmt.{decimal_by_steps_wide}
use Rattle.std.proofs.lemmas.List.Sums.{sum_by-cons}
use Rattle.prolog_writer.specs.Lexemes.{lexeme, Spells, word, symbols, solo, quoted, pair, named, negative, digits as digits_of, lexemes_of_name}
use Rattle.prolog_writer.proofs.Bytes.{small-class, alphanumeric-word, symbol-symbol, digit-word, underscore, solo_cut, solo_semicolon, mark_open, mark_close, mark_left, mark_right}

-- ---- between quotes

digit-hex : (d : ℕ) → d < 16 → digit (hex_digit d) ≡ d
unfolding digit
digit-hex d low = grind (arith, nat_tests)

is_hex : (d : ℕ) → d < 16 → is_digit_of 16 (hex_digit d) ≡ true
is_hex d low = let e = digit-hex d low in rw e (grind (arith, nat_tests))

two_digits : (b : ℕ) → b < 256 → value 16 (hex_digit (b / 16) ∷ hex_digit (b % 16) ∷ []) ≡ b
two_digits b low =
    let h : b / 16 < 16 = omega arith in
    let l : b % 16 < 16 = omega arith in
    rw (digit-hex (b / 16) h, digit-hex (b % 16) l) (omega arith)

by_number : (b : ℕ) → b < 128 → Escape (120 ∷ hex_digit (b / 16) ∷ hex_digit (b % 16) ∷ 92 ∷ []) b
by_number b low =
    let h : b / 16 < 16 = omega arith in
    let l : b % 16 < 16 = omega arith in
    let small : b < 256 = omega arith in
    let v = two_digits b small in
    let few : value 16 (hex_digit (b / 16) ∷ hex_digit (b % 16) ∷ []) ≤ 255 = rw v (omega arith) in
    subst (Escape (120 ∷ hex_digit (b / 16) ∷ hex_digit (b % 16) ∷ 92 ∷ [])) v
    (number (120 ∷ []) (hex_digit (b / 16) ∷ hex_digit (b % 16) ∷ []) hexadecimal (is_hex (b / 16) h, (is_hex (b % 16) l, tt)) few)

not_equal : (b k : ℕ) → b == k ≡ false → b ≢ k
not_equal b k e h = absurd (grind (arith, nat_tests))

is_control : (b : ℕ) → (nat_lt b 32 || b == 127) ≡ true → b < 128
is_control b e = grind (arith, nat_tests)

-- one byte, by the tests of its escape
one_byte : (b : ℕ) (text rest : List ℕ) → Inside 39 text rest → (p q r s t : Bool) → b == 92 ≡ p → b == 39 ≡ q → b == 10 ≡ r → b == 9 ≡ s → (nat_lt b 32 || b == 127) ≡ t
    → Inside 39 (escaped b ++ text) (b ∷ rest)
unfolding escaped
one_byte b text rest i true q r s t e1 e2 e3 e4 e5 = let k = eqb-true b 92 e1 in rw k (by_escape (92 ∷ []) (letter 92 backslash) i)
one_byte b text rest i false true r s t e1 e2 e3 e4 e5 = let k = eqb-true b 39 e2 in rw k (by_escape (39 ∷ []) (letter 39 single_quote) i)
one_byte b text rest i false false true s t e1 e2 e3 e4 e5 = let k = eqb-true b 10 e3 in rw k (by_escape (110 ∷ []) (letter 110 new_line) i)
one_byte b text rest i false false false true t e1 e2 e3 e4 e5 = let k = eqb-true b 9 e4 in rw k (by_escape (116 ∷ []) (letter 116 tab) i)
one_byte b text rest i false false false false true e1 e2 e3 e4 e5 =
    rw (e1, e2, e3, e4, e5) (by_escape (120 ∷ hex_digit (b / 16) ∷ hex_digit (b % 16) ∷ 92 ∷ []) (by_number b (is_control b e5)) i)
one_byte b text rest i false false false false false e1 e2 e3 e4 e5 =
    rw (e1, e2, e3, e4, e5) (itself b (not_equal b 39 e2) (not_equal b 92 e1) (not_equal b 10 e3) i)

-- a name between quotes means its bytes
pub means_its_bytes : (name : List ℕ) → Inside 39 (flat_map escaped name) name
means_its_bytes [] = nothing
means_its_bytes (b ∷ bs) = one_byte b (flat_map escaped bs) bs (means_its_bytes bs) (b == 92) (b == 39) (b == 10) (b == 9) (nat_lt b 32 || b == 127) refl refl refl refl refl

-- ---- without quotes

all_words : (bs : List ℕ) → list_all is_alphanumeric bs ≡ true → AreAll is_word bs
all_words [] e = tt
all_words (b ∷ bs) e = let p = and_parts (is_alphanumeric b) (list_all is_alphanumeric bs) e in (alphanumeric-word b p.0, all_words bs p.1)

pub word_spelled : (name : List ℕ) → is_word_name name ≡ true → Spells name (lexeme (Name name) (length name) ∷ [])
word_spelled [] e = absurd (true≢false (sym e))
word_spelled (b ∷ bs) e = let p = and_parts (is_small b) (list_all is_alphanumeric bs) e in word b bs (small-class b p.0) (all_words bs p.1)

-- ---- no byte between quotes ends a line

not_false : (x : Bool) → not x ≡ true → x ≡ false
not_false true e = sym e
not_false false e = refl

no_lines : (bs : List ℕ) → AreAll in_line bs → count_by (λ b. b == 10) bs ≡ 0
no_lines [] h = refl
no_lines (b ∷ bs) h =
    let e : (b == 10) ≡ false = not_false (b == 10) h.0 in
    sum_by-cons (λ x. cond (x == 10) 1 0) b bs ∙ rw (e, no_lines bs h.1) refl

all_both : (kind : ℕ → Bool) (xs ys : List ℕ) → AreAll kind xs → AreAll kind ys → AreAll kind (xs ++ ys)
all_both kind [] ys h g = g
all_both kind (x ∷ xs) ys h g = (h.0, all_both kind xs ys h.1 g)

hex_in_line : (d : ℕ) → in_line (hex_digit d) ≡ true
hex_in_line d = grind (arith, nat_tests)

byte_in_line : (b : ℕ) → (p q r s t : Bool) → b == 92 ≡ p → b == 39 ≡ q → b == 10 ≡ r → b == 9 ≡ s → (nat_lt b 32 || b == 127) ≡ t → AreAll in_line (escaped b)
unfolding escaped
byte_in_line b true q r s t e1 e2 e3 e4 e5 = rw e1 (refl, (refl, tt))
byte_in_line b false true r s t e1 e2 e3 e4 e5 = rw (e1, e2) (refl, (refl, tt))
byte_in_line b false false true s t e1 e2 e3 e4 e5 = rw (e1, e2, e3) (refl, (refl, tt))
byte_in_line b false false false true t e1 e2 e3 e4 e5 = rw (e1, e2, e3, e4) (refl, (refl, tt))
byte_in_line b false false false false true e1 e2 e3 e4 e5 = rw (e1, e2, e3, e4, e5) (refl, (refl, (hex_in_line (b / 16), (hex_in_line (b % 16), (refl, tt)))))
byte_in_line b false false false false false e1 e2 e3 e4 e5 = rw (e1, e2, e3, e4, e5) (ap not e3, tt)

in_one_line : (name : List ℕ) → AreAll in_line (flat_map escaped name)
in_one_line [] = tt
in_one_line (b ∷ bs) =
    all_both in_line (escaped b) (flat_map escaped bs) (byte_in_line b (b == 92) (b == 39) (b == 10) (b == 9) (nat_lt b 32 || b == 127) refl refl refl refl refl) (in_one_line bs)

pub quoted_spelled : (name : List ℕ) → Spells (in_quotes name) (lexemes_of_name true name)
quoted_spelled name = quoted (flat_map escaped name) name (means_its_bytes name) (no_lines (flat_map escaped name) (in_one_line name))

-- ---- symbols, brackets and solo bytes

all_symbols : (bs : List ℕ) → list_all is_symbol_byte bs ≡ true → AreAll is_symbol bs
all_symbols [] e = tt
all_symbols (b ∷ bs) e = let p = and_parts (is_symbol_byte b) (list_all is_symbol_byte bs) e in (symbol-symbol b p.0, all_symbols bs p.1)

neither : (a b : Bool) → (a || b) ≡ false → (a ≡ false) × (b ≡ false)
neither true b e = (e, absurd (true≢false e))
neither false b e = (refl, e)

no_point : (n : List ℕ) → same_text n (codes ".") ≡ false → n ≡ codes "." → ⊥
no_point n e h = true≢false (sym ((bytes_decides n (codes ".")).1 h) ∙ e)

no_comment : (n : List ℕ) → starts_with nat_eq n (codes "/*") ≡ false → begins_comment n ≡ false
no_comment [] e = refl
no_comment (a ∷ []) e = refl
no_comment (a ∷ b ∷ bs) e = grind (arith, nat_tests)

first_differs : (b k : ℕ) (bs cs : List ℕ) → nat_eq b k ≡ false → same_text (b ∷ bs) (k ∷ cs) ≡ false
first_differs b k bs cs e = rw e refl

no_brackets : (b : ℕ) (bs : List ℕ) → nat_eq b 91 ≡ false → nat_eq b 123 ≡ false → is_brackets (b ∷ bs) ≡ false
no_brackets b bs e h = rw (e, h) refl

small_is_none : (b : ℕ) → is_small b ≡ true → (nat_eq b 91 ≡ false) × (nat_eq b 123 ≡ false)
small_is_none b e = (grind (arith, nat_tests), grind (arith, nat_tests))

symbol_is_none : (b : ℕ) → is_symbol_byte b ≡ true → (nat_eq b 91 ≡ false) × (nat_eq b 123 ≡ false)
symbol_is_none b e = (grind (arith, nat_tests), grind (arith, nat_tests))

word_plain : (name : List ℕ) → is_word_name name ≡ true → Spells name (lexemes_of_name false name)
word_plain [] e = absurd (true≢false (sym e))
word_plain (b ∷ bs) e =
    let h = small_is_none b (and_parts (is_small b) (list_all is_alphanumeric bs) e).0 in
    rw (no_brackets b bs h.0 h.1) (word_spelled (b ∷ bs) e)

symbols_plain : (name : List ℕ) → is_symbolic name ≡ true → Spells name (lexemes_of_name false name)
symbols_plain [] e = absurd (true≢false (sym e))
symbols_plain (b ∷ bs) e =
    let p = and_parts (not (is_reserved (b ∷ bs))) (list_all is_symbol_byte (b ∷ bs)) e in
    let r = neither (same_text (b ∷ bs) (codes ".")) (starts_with nat_eq (b ∷ bs) (codes "/*")) (not_false (is_reserved (b ∷ bs)) p.0) in
    let h = symbol_is_none b (and_parts (is_symbol_byte b) (list_all is_symbol_byte bs) p.1).0 in
    rw (no_brackets b bs h.0 h.1) (symbols b bs (all_symbols (b ∷ bs) p.1) (no_comment (b ∷ bs) r.1) (no_point (b ∷ bs) r.0))

same : (n m : List ℕ) → same_text n m ≡ true → m ≡ n
same n m e = sym ((bytes_decides n m).0 e)

solo_plain : (name : List ℕ) (a b c d : Bool) → same_text name (codes "[]") ≡ a → same_text name (codes "{}") ≡ b → same_text name (codes "!") ≡ c → same_text name (codes ";") ≡ d
    → ((a || b) || (c || d)) ≡ true → Spells name (lexemes_of_name false name)
solo_plain name true b c d e1 e2 e3 e4 e = subst (λ n. Spells n (lexemes_of_name false n)) (same name (codes "[]") e1) (pair 91 93 mark_open mark_close)
solo_plain name false true c d e1 e2 e3 e4 e = subst (λ n. Spells n (lexemes_of_name false n)) (same name (codes "{}") e2) (pair 123 125 mark_left mark_right)
solo_plain name false false true d e1 e2 e3 e4 e = subst (λ n. Spells n (lexemes_of_name false n)) (same name (codes "!") e3) (solo 33 solo_cut)
solo_plain name false false false true e1 e2 e3 e4 e = subst (λ n. Spells n (lexemes_of_name false n)) (same name (codes ";") e4) (solo 59 solo_semicolon)
solo_plain name false false false false e1 e2 e3 e4 e = absurd (true≢false (sym e))

alone_by : (name : List ℕ) (a b : Bool) → is_word_name name ≡ a → is_symbolic name ≡ b → (a || (b || is_solo name)) ≡ true → Spells name (lexemes_of_name false name)
alone_by name true b e1 e2 e = word_plain name e1
alone_by name false true e1 e2 e = symbols_plain name e2
alone_by name false false e1 e2 e =
    solo_plain name (same_text name (codes "[]")) (same_text name (codes "{}")) (same_text name (codes "!")) (same_text name (codes ";")) refl refl refl refl e

-- a name that needs no quotes stands without
pub name_spelled : (q : Bool) (name : List ℕ) → (q ≡ false → stands_alone name ≡ true) → Spells (name_text q name) (lexemes_of_name q name)
unfolding name_text
name_spelled true name h = quoted_spelled name
name_spelled false name h = alone_by name (is_word_name name) (is_symbolic name) refl refl (h refl)

-- ---- numbers

digit-of : (n : ℕ) → n < 10 → digit (48 + n) ≡ n
unfolding digit
digit-of n low = grind (arith, nat_tests)

is_digit : (n : ℕ) → n < 10 → is_digit_of 10 (48 + n) ≡ true
is_digit n low = let e = digit-of n low in rw e (grind (arith, nat_tests))

value-append : (v : ℕ) (ds : List ℕ) (d : ℕ) → value_from 10 v (ds ++ d ∷ []) ≡ 10 * value_from 10 v ds + digit d
value-append v [] d = refl
value-append v (c ∷ cs) d = value-append (10 * v + digit c) cs d

digits_more : (ds : List ℕ) (d : ℕ) → AreDigits 10 ds → is_digit_of 10 d ≡ true → AreDigits 10 (ds ++ d ∷ [])
digits_more [] d h g = absurd h
digits_more (c ∷ cs) d h g = all_both (is_digit_of 10) (c ∷ cs) (d ∷ []) h (g, tt)

abbrev Writes : ℕ → List ℕ → Type 0
Writes n ds = AreDigits 10 ds × (value 10 ds ≡ n)

one_digit : (n : ℕ) → n < 10 → Writes n ((48 + n) ∷ [])
one_digit n low = ((is_digit n low, tt), omega (arith, digit-of n low))

more_digits : (n : ℕ) (ds : List ℕ) → 10 ≤ n → Writes (n / 10) ds → Writes n (ds ++ ((48 + n % 10) ∷ []))
more_digits n ds high h =
    let low : n % 10 < 10 = omega arith in
    (digits_more ds (48 + n % 10) h.0 (is_digit (n % 10) low), value-append 0 ds (48 + n % 10) ∙ rw (h.1, digit-of (n % 10) low) (omega arith))

pub decimal_writes : (n : ℕ) → n < 10 ^ 64 → Writes n (decimal n)
decimal_writes n low = decimal_by_steps_wide Writes one_digit more_digits n low

words_of_digits : (ds : List ℕ) → AreAll (is_digit_of 10) ds → AreAll is_word ds
words_of_digits [] h = tt
words_of_digits (d ∷ ds) h = (digit-word d h.0, words_of_digits ds h.1)

all_digits : (ds : List ℕ) → AreDigits 10 ds → AreAll (is_digit_of 10) ds
all_digits [] h = absurd h
all_digits (d ∷ ds) h = h

pub number_spelled : (n : ℕ) → n ≤ 0x8000_0000_0000_0000 → Spells (decimal n) (lexeme (Integer n) (length (decimal n)) ∷ [])
number_spelled n few =
    let low : n < 10 ^ 64 = omega arith in
    let w = decimal_writes n low in
    subst (λ k. Spells (decimal n) (lexeme (Integer k) (length (decimal n)) ∷ [])) w.1 (digits_of (decimal n) w.0 (rw w.1 few))

pub negative_spelled : (n : ℕ) → n ≤ 0x8000_0000_0000_0000 → Spells (45 ∷ decimal n) (lexeme (Name (codes "-")) 1 ∷ lexeme (Integer n) (length (decimal n)) ∷ [])
negative_spelled n few =
    let low : n < 10 ^ 64 = omega arith in
    let w = decimal_writes n low in
    subst (λ k. Spells (45 ∷ decimal n) (lexeme (Name (codes "-")) 1 ∷ lexeme (Integer k) (length (decimal n)) ∷ [])) w.1 (negative (decimal n) w.0 (rw w.1 few))

pub variable_spelled : (n : ℕ) → n < 2 ^ 64 → Spells (variable_text n) (lexeme (Variable (variable_text n)) (length (variable_text n)) ∷ [])
variable_spelled n few =
    let low : n + 1 < 10 ^ 64 = omega arith in
    named 95 (decimal (n + 1)) underscore (words_of_digits (decimal (n + 1)) (all_digits (decimal (n + 1)) (decimal_writes (n + 1) low).0))
