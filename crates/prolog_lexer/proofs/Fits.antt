-- A piece takes at least one byte, and no more than there are.
use Rattle.std.proofs.Common.{◌≡◌, ℕ, zero, suc, ◌+◌, ◌-◌, ◌<◌, ◌≤◌, List, [], ◌∷◌, take, drop, length, length-drop, refl, sym, ap, subst, arith, cond, Bool, true, false, not, ◌&&◌, ◌==◌, Option, None, Some, nat_lt}
use Rattle.std.specs.List.{prefix_len}
use Rattle.std.proofs.lemmas.List.Sums.{prefix_len-le-length}
use Rattle.prolog_lexer.specs.Classes.{class, is_word, is_symbol, in_line}
use Rattle.prolog_lexer.specs.Pieces.{piece, piece_of, symbolic, comment, decimal, closed, before_close, begins_comment, is_stop, integer, cut}
use Rattle.prolog_lexer.specs.Pieces.{by_escape, character, begins_with_two, is_based, based, number, quoted}
use Rattle.prolog_lexer.specs.Quotes.{begins_with, numeric, coded_by, letter, by_letter, escape, bit, skip_of, lead, with_bit, inside}
use Rattle.prolog_lexer.specs.Digits.{digit, is_digit_of, begins_with_digit, at_most, value_from}
use Rattle.prolog_lexer.specs.declared.quote.Bit.{Bit}
use Rattle.prolog_lexer.specs.declared.quote.Bit.TheVariants.{Closed, Broken, Stands, Skips}
use Rattle.prolog_lexer.specs.declared.quote.Contents.{Contents}
use Rattle.prolog_lexer.specs.declared.quote.Contents.TheVariants.{Text, Open}
use Rattle.prolog_lexer.specs.Streams.{stream, ahead, rest_of, Place, token, refused, ended}
use Rattle.prolog_lexer.proofs.Skips.{skipped, newlines}
use Rattle.prolog_lexer.proofs.Comments.{close_within}
use Rattle.prolog_lexer.specs.declared.class.Class.{Class}
use Rattle.prolog_lexer.specs.declared.class.Class.TheVariants.{Layout, Small, Capital, Digit, Symbol, Solo, Punctuation, Percent, Quote, DoubleQuote, Foreign}
use Rattle.prolog_lexer.specs.declared.piece.Piece.{Piece}
use Rattle.prolog_lexer.specs.declared.piece.Piece.TheVariants.{Blank, Lexeme, Refused}
use Rattle.prolog_lexer.specs.declared.token.TokenKind.{TokenKind}
use Rattle.prolog_lexer.specs.declared.token.TokenKind.TheVariants.{Name, Quoted, Codes, Integer, Stop}
use Rattle.std.proofs.lemmas.Bool.{eqb-true, and_parts}
use Rattle.std.proofs.lemmas.Bool.Decides.{nat_tests}
use Rattle.std.proofs.lemmas.List.{drop-drop, drop_all}

abbrev pub PieceFits : Piece → ℕ → Type 0
PieceFits (Blank n) len = (0 < n) × (n ≤ len)
PieceFits (Lexeme kind n) len = (0 < n) × (n ≤ len)
PieceFits (Refused n) len = Unit {0}

run_fits : (p : ℕ → Bool) (b : ℕ) (bs : List ℕ) → p b ≡ true → (0 < prefix_len p (b ∷ bs)) × (prefix_len p (b ∷ bs) ≤ length (b ∷ bs))
run_fits p b bs e = (rw e (omega arith), prefix_len-le-length p (b ∷ bs))

one_fits : (b : ℕ) (bs : List ℕ) → (0 < 1) × (1 ≤ length (b ∷ bs))
one_fits b bs = (omega arith, omega arith)

choose : (t : Bool) (x y : Piece) (n : ℕ) → (t ≡ true → PieceFits x n) → PieceFits y n → PieceFits (cond t x y) n
choose true x y n p q = p refl
choose false x y n p q = q

integer_fits : (v : Option ℕ) (n len : ℕ) → (0 < n) × (n ≤ len) → PieceFits (integer v n) len
integer_fits None n len h = tt
integer_fits (Some v) n len h = h

closed_lemma : (bs : List ℕ) (x : Option ℕ) → before_close bs ≡ x → PieceFits (closed x) (suc (suc (length bs)))
closed_lemma bs None e = tt
closed_lemma bs (Some n) e = (omega arith, omega (arith, close_within bs n e))

closed_fits : (bytes : List ℕ) → begins_comment bytes ≡ true → PieceFits (comment (drop 2 bytes)) (length bytes)
unfolding comment
closed_fits [] e = cc
closed_fits (a ∷ []) e = cc
closed_fits (a ∷ b ∷ bs) e = closed_lemma bs (before_close bs) refl

symbolic_fits : (b : ℕ) (bs : List ℕ) → is_symbol b ≡ true → PieceFits (symbolic (b ∷ bs)) (length (b ∷ bs))
unfolding symbolic
symbolic_fits b bs e =
    choose (begins_comment (b ∷ bs)) (comment (drop 2 (b ∷ bs))) (cond (prefix_len is_symbol (b ∷ bs) == 1 && is_stop (b ∷ bs)) (Lexeme Stop 1) (cut Name (prefix_len is_symbol (b ∷ bs)) (b ∷ bs))) (length (b ∷ bs))
    (closed_fits (b ∷ bs))
    (choose (prefix_len is_symbol (b ∷ bs) == 1 && is_stop (b ∷ bs)) (Lexeme Stop 1) (cut Name (prefix_len is_symbol (b ∷ bs)) (b ∷ bs)) (length (b ∷ bs))
    (λ _. one_fits b bs) (run_fits is_symbol b bs e))

decimal_fits : (b : ℕ) (bs : List ℕ) → is_digit_of 10 b ≡ true → PieceFits (decimal (b ∷ bs)) (length (b ∷ bs))
unfolding decimal
decimal_fits b bs e =
    integer_fits (at_most 0x8000_0000_0000_0000 (value_from 10 0 (take (prefix_len (is_digit_of 10) (b ∷ bs)) (b ∷ bs)))) (prefix_len (is_digit_of 10) (b ∷ bs)) (length (b ∷ bs))
    (run_fits (is_digit_of 10) b bs e)

percent_in_line : (b : ℕ) → class b ≡ Percent → in_line b ≡ true
unfolding class
percent_in_line b e = elim (b == 10) as (λ v. b == 10 ≡ v → not v ≡ true) [ true ↦ λ f. let g : b ≡ 10 = eqb-true b 10 f in let h : class 10 ≡ Percent = subst (λ x. class x ≡ Percent) g e in cc | false ↦ λ f. refl ] refl

-- the bytes of class Digit are the decimal digits
pub digit_first : (b : ℕ) → class b ≡ Digit → is_digit_of 10 b ≡ true
unfolding class digit
digit_first b e = grind (arith, nat_tests)

-- ---- quotes and escapes

ContentsWithin : Contents → ℕ → Type 0
ContentsWithin (Text ys n) len = n ≤ len
ContentsWithin (Open f) len = Unit {0}

lead_within : (xs : List ℕ) (x : Contents) (len : ℕ) → ContentsWithin x len → ContentsWithin (lead xs 1 x) (suc len)
unfolding ContentsWithin
lead_within xs (Text ys n) len h = omega arith
lead_within xs (Open f) len h = tt

with_bit_within : (b : Bit) (x : Contents) (len : ℕ) → ContentsWithin x len → ContentsWithin (with_bit b x) (suc len)
unfolding ContentsWithin
with_bit_within Closed x len h = omega arith
with_bit_within (Broken f) x len h = tt
with_bit_within (Stands b k) x len h = lead_within (b ∷ []) x len h
with_bit_within (Skips k) x len h = lead_within [] x len h

inside_within : (q k : ℕ) (bs : List ℕ) → ContentsWithin (inside q k bs) (length bs)
unfolding ContentsWithin
inside_within q zero [] = tt
inside_within q (suc k) [] = tt
inside_within q (suc k) (b ∷ bs) = lead_within [] (inside q k bs) (length bs) (inside_within q k bs)
inside_within q zero (b ∷ bs) = with_bit_within (bit q b bs) (inside q (skip_of (bit q b bs)) bs) (length bs) (inside_within q (skip_of (bit q b bs)) bs)

pub text_within : (q : ℕ) (bs ys : List ℕ) (n : ℕ) → inside q 0 bs ≡ Text ys n → n ≤ length bs
unfolding ContentsWithin
text_within q bs ys n e = subst (λ x. ContentsWithin x (length bs)) e (inside_within q 0 bs)

quoted_fits : (kind : List ℕ → TokenKind) (x : Contents) (len : ℕ) → ContentsWithin x len → PieceFits (quoted kind x) (suc len)
unfolding ContentsWithin
quoted_fits kind (Text ys n) len h = (omega arith, omega arith)
quoted_fits kind (Open f) len h = tt

BitWithin : Bit → ℕ → Type 0
BitWithin (Stands b k) len = k ≤ len
BitWithin _ len = Unit {0}

choose_bit : (t : Bool) (x y : Bit) (n : ℕ) → (t ≡ true → BitWithin x n) → BitWithin y n → BitWithin (cond t x y) n
choose_bit true x y n p q = p refl
choose_bit false x y n p q = q

some_left : (q n : ℕ) (bs : List ℕ) → begins_with q (drop n bs) ≡ true → n < length bs
some_left q zero [] e = cc
some_left q (suc n) [] e = cc
some_left q zero (b ∷ bs) e = omega arith
some_left q (suc n) (b ∷ bs) e = omega (arith, some_left q n bs e)

numeric_within : (x : Option ℕ) (n len : ℕ) (shut : Bool) → (shut ≡ true → n ≤ len) → BitWithin (numeric x n shut) len
unfolding BitWithin
numeric_within None n len shut h = tt
numeric_within (Some v) n len false h = tt
numeric_within (Some v) n len true h = h refl

coded_within : (base before : ℕ) (bs : List ℕ) → BitWithin (coded_by base before bs) (before + length bs)
unfolding coded_by
coded_within base before bs =
    let n = prefix_len (is_digit_of base) bs in
    numeric_within (at_most 255 (value_from base 0 (take n bs))) (before + n + 1) (before + length bs) (nat_lt 0 n && begins_with 92 (drop n bs))
    (λ e. let f = some_left 92 n bs (and_parts (nat_lt 0 n) (begins_with 92 (drop n bs)) e).1 in omega arith)

by_letter_within : (x : Option ℕ) (other : Bit) (len : ℕ) → BitWithin other (suc len) → BitWithin (by_letter x other) (suc len)
unfolding BitWithin
by_letter_within None other len h = h
by_letter_within (Some v) other len h = omega arith

escape_within : (bs : List ℕ) → BitWithin (escape bs) (length bs)
unfolding escape BitWithin
escape_within [] = tt
escape_within (b ∷ bs) =
    let hex : BitWithin (coded_by 16 1 bs) (suc (length bs)) = let e : 1 + length bs ≡ suc (length bs) = omega arith in subst (λ n. BitWithin (coded_by 16 1 bs) n) e (coded_within 16 1 bs) in
    let octal : BitWithin (coded_by 8 0 (b ∷ bs)) (suc (length bs)) = let e : 0 + suc (length bs) ≡ suc (length bs) = omega arith in subst (λ n. BitWithin (coded_by 8 0 (b ∷ bs)) n) e (coded_within 8 0 (b ∷ bs)) in
    by_letter_within (letter b) (cond (b == 10) (Skips 1) (cond (b == 120) (coded_by 16 1 bs) (cond (is_digit_of 8 b) (coded_by 8 0 (b ∷ bs)) (Broken 3)))) (length bs)
    (choose_bit (b == 10) (Skips 1) (cond (b == 120) (coded_by 16 1 bs) (cond (is_digit_of 8 b) (coded_by 8 0 (b ∷ bs)) (Broken 3))) (suc (length bs)) (λ _. tt)
    (choose_bit (b == 120) (coded_by 16 1 bs) (cond (is_digit_of 8 b) (coded_by 8 0 (b ∷ bs)) (Broken 3)) (suc (length bs)) (λ _. hex)
    (choose_bit (is_digit_of 8 b) (coded_by 8 0 (b ∷ bs)) (Broken 3) (suc (length bs)) (λ _. octal) tt)))

pub stands_within : (bs : List ℕ) (v k : ℕ) → escape bs ≡ Stands v k → k ≤ length bs
unfolding BitWithin
stands_within bs v k e = subst (λ x. BitWithin x (length bs)) e (escape_within bs)

by_escape_fits : (x : Bit) (len : ℕ) → BitWithin x len → PieceFits (by_escape x) (suc (suc (suc len)))
unfolding BitWithin
by_escape_fits (Stands v k) len h = (omega arith, omega arith)
by_escape_fits Closed len h = tt
by_escape_fits (Broken f) len h = tt
by_escape_fits (Skips k) len h = tt

character_fits : (bs : List ℕ) → PieceFits (character bs) (suc (suc (length bs)))
unfolding character
character_fits [] = tt
character_fits (b ∷ []) =
    choose (b == 39) (Refused 3) (cond (b == 10) (Refused 3) (cond (b == 92) (by_escape (escape [])) (Lexeme (Integer b) 3))) 3 (λ _. tt)
    (choose (b == 10) (Refused 3) (cond (b == 92) (by_escape (escape [])) (Lexeme (Integer b) 3)) 3 (λ _. tt)
    (choose (b == 92) (by_escape (escape [])) (Lexeme (Integer b) 3) 3 (λ _. by_escape_fits (escape []) 0 (escape_within [])) (omega arith, omega arith)))
character_fits (b ∷ c ∷ bs) =
    choose (b == 39) (cond (c == 39) (Lexeme (Integer 39) 4) (Refused 3)) (cond (b == 10) (Refused 3) (cond (b == 92) (by_escape (escape (c ∷ bs))) (Lexeme (Integer b) 3))) (suc (suc (suc (suc (length bs)))))
    (λ _. choose (c == 39) (Lexeme (Integer 39) 4) (Refused 3) (suc (suc (suc (suc (length bs))))) (λ _. (omega arith, omega arith)) tt)
    (choose (b == 10) (Refused 3) (cond (b == 92) (by_escape (escape (c ∷ bs))) (Lexeme (Integer b) 3)) (suc (suc (suc (suc (length bs))))) (λ _. tt)
    (choose (b == 92) (by_escape (escape (c ∷ bs))) (Lexeme (Integer b) 3) (suc (suc (suc (suc (length bs))))) (λ _. by_escape_fits (escape (c ∷ bs)) (suc (length bs)) (escape_within (c ∷ bs))) (omega arith, omega arith)))

two_long : (a b : ℕ) (bytes : List ℕ) → begins_with_two a b bytes ≡ true → length (drop 2 bytes) + 2 ≡ length bytes
two_long a b [] e = cc
two_long a b (x ∷ []) e = cc
two_long a b (x ∷ y ∷ bs) e = omega arith

zero_quote_fits : (bytes : List ℕ) → begins_with_two 48 39 bytes ≡ true → PieceFits (character (drop 2 bytes)) (length bytes)
zero_quote_fits [] e = cc
zero_quote_fits (x ∷ []) e = cc
zero_quote_fits (x ∷ y ∷ bs) e = character_fits bs

based_fits : (letter base : ℕ) (bytes : List ℕ) → is_based letter base bytes ≡ true → PieceFits (based base bytes) (length bytes)
unfolding based
based_fits letter base bytes e =
    let n = prefix_len (is_digit_of base) (drop 2 bytes) in
    let w : n ≤ length (drop 2 bytes) = prefix_len-le-length (is_digit_of base) (drop 2 bytes) in
    let two : length (drop 2 bytes) + 2 ≡ length bytes = two_long 48 letter bytes (and_parts (begins_with_two 48 letter bytes) (begins_with_digit base (drop 2 bytes)) e).0 in
    integer_fits (at_most 0x8000_0000_0000_0000 (value_from base 0 (take n (drop 2 bytes)))) (2 + n) (length bytes) (omega arith, omega arith)

number_fits : (b : ℕ) (bs : List ℕ) → is_digit_of 10 b ≡ true → PieceFits (number (b ∷ bs)) (length (b ∷ bs))
unfolding number
number_fits b bs e =
    let bytes = b ∷ bs in
    choose (begins_with_two 48 39 bytes) (character (drop 2 bytes)) (cond (is_based 120 16 bytes) (based 16 bytes) (cond (is_based 111 8 bytes) (based 8 bytes) (cond (is_based 98 2 bytes) (based 2 bytes) (decimal bytes)))) (length bytes) (zero_quote_fits bytes)
    (choose (is_based 120 16 bytes) (based 16 bytes) (cond (is_based 111 8 bytes) (based 8 bytes) (cond (is_based 98 2 bytes) (based 2 bytes) (decimal bytes))) (length bytes) (based_fits 120 16 bytes)
    (choose (is_based 111 8 bytes) (based 8 bytes) (cond (is_based 98 2 bytes) (based 2 bytes) (decimal bytes)) (length bytes) (based_fits 111 8 bytes)
    (choose (is_based 98 2 bytes) (based 2 bytes) (decimal bytes) (length bytes) (based_fits 98 2 bytes) (decimal_fits b bs e))))

class_fits : (k : Class) (b : ℕ) (bs : List ℕ) → class b ≡ k → PieceFits (piece_of k b (b ∷ bs)) (length (b ∷ bs))
class_fits Layout b bs e = one_fits b bs
class_fits Percent b bs e = run_fits in_line b bs (percent_in_line b e)
class_fits Small b bs e = run_fits is_word b bs (rw e refl)
class_fits Capital b bs e = run_fits is_word b bs (rw e refl)
class_fits Solo b bs e = one_fits b bs
class_fits Punctuation b bs e = one_fits b bs
class_fits Symbol b bs e = symbolic_fits b bs (rw e refl)
class_fits Digit b bs e = number_fits b bs (digit_first b e)
class_fits Quote b bs e = quoted_fits Quoted (inside 39 0 bs) (length bs) (inside_within 39 0 bs)
class_fits DoubleQuote b bs e = quoted_fits Codes (inside 34 0 bs) (length bs) (inside_within 34 0 bs)
class_fits Foreign b bs e = tt

pub piece_fits : (bs : List ℕ) → 0 < length bs → PieceFits (piece bs) (length bs)
unfolding piece
piece_fits [] h = absurd (omega arith)
piece_fits (b ∷ bs) h = class_fits (class b) b bs refl

pub blank_step : (at line n : ℕ) (bs : List ℕ) → 0 < length bs → 0 < n → piece bs ≡ Blank n
    → stream 0 at line bs ≡ stream 0 (at + n) (line + newlines (take n bs)) (drop n bs)
blank_step at line n [] h k e = absurd (omega arith)
blank_step at line zero (b ∷ bs) h k e = absurd (omega arith)
blank_step at line (suc n) (b ∷ bs) h k e =
    let one : suc n - 1 ≡ n = omega arith in
    rw (e, one) (skipped (suc n) at line (b ∷ bs))

pub lexeme_step : (at line n : ℕ) (kind : TokenKind) (bs : List ℕ) → 0 < length bs → 0 < n → piece bs ≡ Lexeme kind n
    → stream 0 at line bs ≡ token (record { kind = kind; from = at; to = at + n; line = line }) (stream 0 (at + n) (line + newlines (take n bs)) (drop n bs))
lexeme_step at line n kind [] h k e = absurd (omega arith)
lexeme_step at line zero kind (b ∷ bs) h k e = absurd (omega arith)
lexeme_step at line (suc n) kind (b ∷ bs) h k e =
    let one : suc n - 1 ≡ n = omega arith in
    rw (e, one) (ap (token (record { kind = kind; from = at; to = at + suc n; line = line })) (skipped (suc n) at line (b ∷ bs)))

pub refused_step : (at line n : ℕ) (bs : List ℕ) → 0 < length bs → piece bs ≡ Refused n → stream 0 at line bs ≡ refused (record { number = n; line = line })
refused_step at line n [] h e = absurd (omega arith)
refused_step at line n (b ∷ bs) h e = rw e refl

-- ---- the same, over what the lexer has

pub blank_within : (p : Place) (n : ℕ) → 0 < length (rest_of p) → piece (rest_of p) ≡ Blank n → (0 < n) × (p.at + n ≤ length p.text)
unfolding rest_of
blank_within p n h e =
    let f : PieceFits (Blank n) (length (drop p.at p.text)) = subst (λ x. PieceFits x (length (drop p.at p.text))) e (piece_fits (drop p.at p.text) h) in
    let g : n ≤ length p.text - p.at = simp length-drop at f.1 in
    let k : 0 < length p.text - p.at = simp length-drop at h in
    (f.0, omega arith)

pub lexeme_within : (p : Place) (kind : TokenKind) (n : ℕ) → 0 < length (rest_of p) → piece (rest_of p) ≡ Lexeme kind n → (0 < n) × (p.at + n ≤ length p.text)
unfolding rest_of
lexeme_within p kind n h e =
    let f : PieceFits (Lexeme kind n) (length (drop p.at p.text)) = subst (λ x. PieceFits x (length (drop p.at p.text))) e (piece_fits (drop p.at p.text) h) in
    let g : n ≤ length p.text - p.at = simp length-drop at f.1 in
    let k : 0 < length p.text - p.at = simp length-drop at h in
    (f.0, omega arith)

pub ahead_blank : (p q : Place) (n : ℕ) → 0 < length (rest_of p) → piece (rest_of p) ≡ Blank n
    → q.text ≡ p.text → q.at ≡ p.at + n → q.line ≡ p.line + newlines (take n (drop p.at p.text)) → ahead q ≡ ahead p
unfolding ahead rest_of
ahead_blank p q n h e t a l =
    let k = blank_within p n h e in
    rw (t, a, l, ← drop-drop n p.at p.text) (sym (blank_step p.at p.line n (drop p.at p.text) h k.0 e))

pub rest_less : (p q : Place) (n : ℕ) → 0 < length (rest_of p) → piece (rest_of p) ≡ Blank n
    → q.text ≡ p.text → q.at ≡ p.at + n → length (rest_of q) < length (rest_of p)
unfolding rest_of
rest_less p q n h e t a =
    let k = blank_within p n h e in
    rw (t, a, length-drop, length-drop) (omega arith)

pub ahead_lexeme : (p q : Place) (kind : TokenKind) (n : ℕ) → 0 < length (rest_of p) → piece (rest_of p) ≡ Lexeme kind n
    → q.text ≡ p.text → q.at ≡ p.at + n → q.line ≡ p.line + newlines (take n (drop p.at p.text))
    → ahead p ≡ token (record { kind = kind; from = p.at; to = q.at; line = p.line }) (ahead q)
unfolding ahead rest_of
ahead_lexeme p q kind n h e t a l =
    let k = lexeme_within p kind n h e in
    rw (t, a, l, ← drop-drop n p.at p.text) (lexeme_step p.at p.line n kind (drop p.at p.text) h k.0 e)

pub ahead_refused : (p : Place) (n : ℕ) → 0 < length (rest_of p) → piece (rest_of p) ≡ Refused n → ahead p ≡ refused (record { number = n; line = p.line })
unfolding ahead rest_of
ahead_refused p n h e = refused_step p.at p.line n (drop p.at p.text) h e

pub ahead_ended : (p : Place) → p.at ≡ length p.text → ahead p ≡ ended
unfolding ahead
ahead_ended p e = rw (drop_all p.at p.text (omega arith)) refl

pub rest_some : (p : Place) → p.at < length p.text → 0 < length (rest_of p)
unfolding rest_of
rest_some p e = rw length-drop (omega arith)
