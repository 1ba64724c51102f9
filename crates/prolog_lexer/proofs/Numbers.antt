-- Integers by cases are those of the function.
use Rattle.std.proofs.Common.{◌≡◌, ℕ, ◌+◌, ◌≤◌, ◌==◌, ◌&&◌, ◌||◌, List, [], ◌∷◌, ◌++◌, take, length, refl, ap, ◌∙◌, arith, cond, Bool, true, false}
use Rattle.std.specs.List.{prefix_len}
use Rattle.std.proofs.lemmas.Bool.{ne_eqb}
use Rattle.std.proofs.lemmas.Bool.Decides.{nat_tests}
use Rattle.prolog_lexer.specs.Classes.{class}
use Rattle.prolog_lexer.specs.Digits.{digit, is_digit_of, begins_with_digit, value, value_from, at_most}
use Rattle.prolog_lexer.specs.Pieces as pieces
use Rattle.prolog_lexer.specs.Pieces.{piece, piece_of, number, integer}
use Rattle.prolog_lexer.specs.Escapes.{EndsRun, AreDigits, Character, plain, quote, escape, BadCharacter, text_end, line_end, one_quote, bad_escape, continuation}
use Rattle.prolog_lexer.specs.Tokens.{goes_on, Radix, hexadecimal, octal, binary}
use Rattle.prolog_lexer.proofs.Runs.{prefix_len-run, take-run, digits_all, digit_class}
use Rattle.prolog_lexer.proofs.Escaped.{escape_is, bad_escape_is, continuation_escape}
use Rattle.prolog_lexer.specs.declared.class.Class.{Class}
use Rattle.prolog_lexer.specs.declared.class.Class.TheVariants.{Digit}
use Rattle.prolog_lexer.specs.declared.piece.Piece.{Piece}
use Rattle.prolog_lexer.specs.declared.piece.Piece.TheVariants.{Lexeme, Refused}
use Rattle.prolog_lexer.specs.declared.token.TokenKind.TheVariants.{Integer}

abbrev pub most : ℕ
most = 0x8000_0000_0000_0000

pub piece-class : (b : ℕ) (bs : List ℕ) (k : Class) → class b ≡ k → piece (b ∷ bs) ≡ piece_of k b (b ∷ bs)
unfolding piece
piece-class b bs k e = ap (λ x. piece_of x b (b ∷ bs)) e

-- ---- digits of a base

pub decimal_is : (digits rest : List ℕ) → AreDigits 10 digits → EndsRun (is_digit_of 10) rest → pieces.decimal (digits ++ rest) ≡ integer (at_most most (value 10 digits)) (length digits)
unfolding pieces.decimal
decimal_is digits rest h k =
    let n : prefix_len (is_digit_of 10) (digits ++ rest) ≡ length digits = prefix_len-run (is_digit_of 10) digits rest (digits_all 10 digits h) k in
    ap (λ m. integer (at_most most (value_from 10 0 (take m (digits ++ rest)))) m) n
    ∙ ap (λ l. integer (at_most most (value_from 10 0 l)) (length digits)) (take-run digits rest)

based_is : (base a b : ℕ) (digits rest : List ℕ) → AreDigits base digits → EndsRun (is_digit_of base) rest
    → pieces.based base (a ∷ b ∷ (digits ++ rest)) ≡ integer (at_most most (value base digits)) (2 + length digits)
unfolding pieces.based
based_is base a b digits rest h k =
    let n : prefix_len (is_digit_of base) (digits ++ rest) ≡ length digits = prefix_len-run (is_digit_of base) digits rest (digits_all base digits h) k in
    ap (λ m. integer (at_most most (value_from base 0 (take m (digits ++ rest)))) (2 + m)) n
    ∙ ap (λ l. integer (at_most most (value_from base 0 l)) (2 + length digits)) (take-run digits rest)

-- ---- which of the forms it is

first_choice : (x p q r : Bool) (a b c d e : Piece) → x || (p || (q || r)) ≡ false → cond x a (cond p b (cond q c (cond r d e))) ≡ e
first_choice true p q r a b c d e h = cc
first_choice false true q r a b c d e h = cc
first_choice false false true r a b c d e h = cc
first_choice false false false true a b c d e h = cc
first_choice false false false false a b c d e h = refl

zero_choice : (z x p s q t r u : Bool) (a b c d e : Piece) → z && (x || (p && s || (q && t || r && u))) ≡ false
    → cond (z && x) a (cond ((z && p) && s) b (cond ((z && q) && t) c (cond ((z && r) && u) d e))) ≡ e
zero_choice false x p s q t r u a b c d e h = refl
zero_choice true x p s q t r u a b c d e h = first_choice x (p && s) (q && t) (r && u) a b c d e h

no_choice : (z s t u : Bool) (a b c d e : Piece)
    → cond (z && false) a (cond ((z && false) && s) b (cond ((z && false) && t) c (cond ((z && false) && u) d e))) ≡ e
no_choice false s t u a b c d e = refl
no_choice true s t u a b c d e = refl

decimal_least : (b : ℕ) → is_digit_of 10 b ≡ true → 48 ≤ b
unfolding digit
decimal_least b e = grind (arith, nat_tests)

decimal_most : (b : ℕ) → is_digit_of 10 b ≡ true → b ≤ 57
unfolding digit
decimal_most b e = grind (arith, nat_tests)

number_decimal : (digits rest : List ℕ) → AreDigits 10 digits → goes_on digits rest ≡ false → number (digits ++ rest) ≡ pieces.decimal (digits ++ rest)
unfolding number
number_decimal [] rest h e = absurd h
number_decimal (d ∷ []) [] h e = refl
number_decimal (d ∷ []) (b ∷ bs) h e =
    zero_choice (d == 48) (b == 39) (b == 120) (begins_with_digit 16 bs) (b == 111) (begins_with_digit 8 bs) (b == 98) (begins_with_digit 2 bs)
    (pieces.character bs) (pieces.based 16 (d ∷ b ∷ bs)) (pieces.based 8 (d ∷ b ∷ bs)) (pieces.based 2 (d ∷ b ∷ bs)) (pieces.decimal (d ∷ b ∷ bs)) e
number_decimal (d ∷ c ∷ ds) rest h e =
    let l : 48 ≤ c = decimal_least c h.1.0 in
    let m : c ≤ 57 = decimal_most c h.1.0 in
    let h1 : (c == 39) ≡ false = ne_eqb c 39 (λ f. omega arith) in
    let h2 : (c == 120) ≡ false = ne_eqb c 120 (λ f. omega arith) in
    let h3 : (c == 111) ≡ false = ne_eqb c 111 (λ f. omega arith) in
    let h4 : (c == 98) ≡ false = ne_eqb c 98 (λ f. omega arith) in
    let bs = ds ++ rest in
    rw (h1, h2, h3, h4)
    (no_choice (d == 48) (begins_with_digit 16 bs) (begins_with_digit 8 bs) (begins_with_digit 2 bs)
    (pieces.character bs) (pieces.based 16 (d ∷ c ∷ bs)) (pieces.based 8 (d ∷ c ∷ bs)) (pieces.based 2 (d ∷ c ∷ bs)) (pieces.decimal (d ∷ c ∷ bs)))

begins_digit : (base : ℕ) (digits rest : List ℕ) → AreDigits base digits → begins_with_digit base (digits ++ rest) ≡ true
begins_digit base [] rest h = absurd h
begins_digit base (d ∷ ds) rest h = h.0

number_based : {letter base : ℕ} (digits rest : List ℕ) → Radix letter base → begins_with_digit base (digits ++ rest) ≡ true
    → number (48 ∷ letter ∷ (digits ++ rest)) ≡ pieces.based base (48 ∷ letter ∷ (digits ++ rest))
unfolding number
number_based digits rest hexadecimal e = rw e refl
number_based digits rest octal e = rw e refl
number_based digits rest binary e = rw e refl

class_zero : class 48 ≡ Digit
unfolding class
class_zero = refl

pub decimal_piece : (digits rest : List ℕ) → AreDigits 10 digits → EndsRun (is_digit_of 10) rest → goes_on digits rest ≡ false
    → piece (digits ++ rest) ≡ integer (at_most most (value 10 digits)) (length digits)
decimal_piece [] rest h k e = absurd h
decimal_piece (d ∷ ds) rest h k e =
    piece-class d (ds ++ rest) Digit (digit_class d h.0) ∙ number_decimal (d ∷ ds) rest h e ∙ decimal_is (d ∷ ds) rest h k

pub based_piece : {letter base : ℕ} (digits rest : List ℕ) → Radix letter base → AreDigits base digits → EndsRun (is_digit_of base) rest
    → piece (48 ∷ letter ∷ (digits ++ rest)) ≡ integer (at_most most (value base digits)) (2 + length digits)
based_piece {letter = letter} {base = base} digits rest r h k =
    piece-class 48 (letter ∷ (digits ++ rest)) Digit class_zero ∙ number_based digits rest r (begins_digit base digits rest h) ∙ based_is base 48 letter digits rest h k

-- ---- characters

number_character : (bs : List ℕ) → piece (48 ∷ 39 ∷ bs) ≡ pieces.character bs
unfolding number
number_character bs = piece-class 48 (39 ∷ bs) Digit class_zero

character_is : {spelling : List ℕ} {v : ℕ} (rest : List ℕ) → Character spelling v → pieces.character (spelling ++ rest) ≡ Lexeme (Integer v) (2 + length spelling)
unfolding pieces.character
character_is rest (plain b h k l) = rw (ne_eqb b 39 h, ne_eqb b 10 l, ne_eqb b 92 k) refl
character_is rest quote = refl
character_is rest (escape {v = v} spelling e) =
    let n : 3 + length spelling ≡ 2 + length (92 ∷ spelling) = omega arith in
    ap pieces.by_escape (escape_is rest e) ∙ ap (Lexeme (Integer v)) n

bad_character_is : {rest : List ℕ} → BadCharacter rest → pieces.character rest ≡ Refused 3
unfolding pieces.character
bad_character_is text_end = refl
bad_character_is line_end = refl
bad_character_is (one_quote e) = rw e refl
bad_character_is (bad_escape e) = ap pieces.by_escape (bad_escape_is e)
bad_character_is (continuation {rest = rest}) = ap pieces.by_escape (continuation_escape rest)

pub character_piece : {spelling : List ℕ} {v : ℕ} (rest : List ℕ) → Character spelling v → piece (48 ∷ 39 ∷ (spelling ++ rest)) ≡ Lexeme (Integer v) (2 + length spelling)
character_piece {spelling = spelling} rest c = number_character (spelling ++ rest) ∙ character_is rest c

pub bad_character_piece : (rest : List ℕ) → BadCharacter rest → piece (48 ∷ 39 ∷ rest) ≡ Refused 3
bad_character_piece rest c = number_character rest ∙ bad_character_is c
