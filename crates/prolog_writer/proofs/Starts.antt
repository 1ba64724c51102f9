-- What the tokens of a term begin with.
use Rattle.std.proofs.Common.{◌≡◌, ℕ, ◌+◌, ◌<◌, ◌^◌, length, List, [], ◌∷◌, Bool, true, false, Option, Some, refl, sym, ◌∙◌, ap, arith}
use Rattle.std.specs.Prelude.{codes, pos, not, ◌==◌, ◌&&◌, ◌||◌, if◌then◌else◌}
use Rattle.std.specs.Fmt.{decimal}
use Rattle.std.proofs.lemmas.Bool.{true≢false}
use Rattle.std.proofs.lemmas.Bool.Decides.{nat_tests}
use Rattle.prolog_terms.specs.Operators.{Table}
use Rattle.prolog_lexer.specs.Escapes.{AreDigits}
use Rattle.prolog_lexer.specs.Digits.{digit, is_digit_of}
use Rattle.prolog_lexer.specs.declared.token.Token.{Token}
use Rattle.prolog_lexer.specs.declared.token.TokenKind.{TokenKind}
use Rattle.prolog_lexer.specs.declared.token.TokenKind.TheVariants.{Name, Quoted, Variable, Integer, Codes, Punct, Stop}
use Rattle.prolog_lexer.specs.Tokens.{token_at}
use Rattle.prolog_reader.specs.Grammar.{touches, calls, is_minus, negates, begins, bars, takes_operand, next_is, is_punct}
use Rattle.prolog_writer.specs.declared.kind.Kind.{Kind}
use Rattle.prolog_writer.specs.declared.kind.Kind.TheVariants.{Minus, Paren}
use Rattle.prolog_writer.specs.declared.kind.Edge.{Edge}
use Rattle.prolog_writer.specs.Spelling as writer
use Rattle.prolog_writer.specs.Spaces.{Piece, piece, is_wordy, is_named, gap}
use Rattle.prolog_writer.specs.Pieces.{mark}
use Rattle.prolog_writer.specs.Lexemes.{Lexeme, lexeme}
use Rattle.prolog_writer.specs.Tokens.{mark_lexemes, integer_lexemes}
use Rattle.prolog_writer.proofs.Names.{decimal_writes}
use Rattle.prolog_writer.proofs.Behind.{and_no, no_and, ends_name, no_call, no_sign}
use Rattle.prolog_writer.proofs.Laid.{laid}

-- ---- numbers

pub same_number : (a b : ℕ) → a ≡ b → a == b ≡ true
same_number a b e = grind (arith, nat_tests)

pub other_number : (a b : ℕ) → a < b → a == b ≡ false
other_number a b e = grind (arith, nat_tests)

-- ---- the first token begins a term

abbrev pub begins_term : List Token → Bool
begins_term [] = false
begins_term (n ∷ rest) = begins n.kind

pub operand-begins : (ops : Table) (ts : List Token) → takes_operand ops ts ≡ true → begins_term ts ≡ true
operand-begins ops [] e = e
operand-begins ops (n ∷ rest) e = first_true (begins n.kind) (not (bars ops n.kind && not (calls n rest || negates n rest))) e
  where
    first_true : (a b : Bool) → (a && b) ≡ true → a ≡ true
    first_true true b e = refl
    first_true false b e = e

no_close : (b : ℕ) → begins (Punct b) ≡ true → (b == 93 ≡ false) × (b == 125 ≡ false)
no_close b e = (grind (arith, nat_tests), grind (arith, nat_tests))

next_kind : (k : TokenKind) → begins k ≡ true → (is_punct 93 k ≡ false) × (is_punct 125 k ≡ false)
next_kind (Name f) e = (refl, refl)
next_kind (Quoted f) e = (refl, refl)
next_kind (Variable v) e = (refl, refl)
next_kind (Integer n) e = (refl, refl)
next_kind (Codes bs) e = (refl, refl)
next_kind (Punct b) e = no_close b e
next_kind Stop e = (refl, refl)

pub no_bracket_next : (ts : List Token) → begins_term ts ≡ true → next_is 93 ts ≡ false
no_bracket_next [] e = refl
no_bracket_next (n ∷ rest) e = (next_kind n.kind e).0

pub no_brace_next : (ts : List Token) → begins_term ts ≡ true → next_is 125 ts ≡ false
no_brace_next [] e = refl
no_brace_next (n ∷ rest) e = (next_kind n.kind e).1

-- ---- the tokens begin an operand, and the prefix operator before them doesn't take them as its arguments or its digits

pub record Starts (ops : Table) (before : Option Edge) (at : ℕ) (ts : List Token) : Type 0 where
  pub operand : takes_operand ops ts ≡ true
  pub no_call : (k : Kind) (z : ℕ) → before ≡ Some (record { kind = k; byte = z }) → is_named k ≡ true → (a : Token) → a.to ≡ at → calls a ts ≡ false
  pub no_sign : (z : ℕ) → before ≡ Some (record { kind = Minus; byte = z }) → (a : Token) → a.to ≡ at → negates a ts ≡ false

-- no ( and no integer
pub plain_starts : {ops : Table} {before : Option Edge} {at : ℕ} (ts : List Token) → takes_operand ops ts ≡ true → ends_name ts ≡ true → Starts ops before at ts
plain_starts ts o e = record { operand = o; no_call = λ k z is h a to. no_call a ts e; no_sign = λ z is a to. no_sign a ts e }

-- a space stands between a place and what begins behind it
apart : (a b : Token) (at : ℕ) (text : List ℕ) → a.to ≡ at → text ≡ codes " " → b.from ≡ at + length text → touches a b ≡ false
apart a b at text to gap from =
    let n : length text ≡ 1 = ap length gap in
    let low : a.to < b.from = omega (arith, to, from, n) in
    other_number a.to b.from low

third : (a b c d : Bool) → c ≡ true → ((a && false) || ((b && false) || ((c && true) || d))) ≡ true
third true true c d e = rw e refl
third true false c d e = rw e refl
third false true c d e = rw e refl
third false false c d e = rw e refl

paren_gap : (k : Kind) (z : ℕ) → is_named k ≡ true → gap (Some (record { kind = k; byte = z })) (piece Paren (codes "(")) ≡ codes " "
paren_gap k z h = ap (λ b. if b then codes " " else []) (third (is_wordy z) (writer.is_symbol z) (is_named k) _ h)

-- a parenthesis
pub paren_starts : (ops : Table) (e : Option Edge) (at : ℕ) (ps : List Piece) (xss : List (List Lexeme)) (rest : List Token)
    → Starts ops e at (laid e at (piece Paren (codes "(") ∷ ps) (mark_lexemes 40 ∷ xss) rest)
paren_starts ops e at ps xss rest = record {
  operand = refl;
  no_call = λ k z is h a to.
      no_and (touches a b) true (apart a b at (gap e (piece Paren (codes "("))) to (ap (λ x. gap x (piece Paren (codes "("))) is ∙ paren_gap k z h) refl);
  no_sign = λ z is a to. no_and (touches a b && false) (is_minus a.kind) (and_no (touches a b) false refl);
}
  where
    b : Token
    b = token_at (at + length (gap e (piece Paren (codes "(")))) 1 1 (Punct 40)

fourth : (a b c d : Bool) → d ≡ true → (a || (b || (c || d))) ≡ true
fourth true b c d e = refl
fourth false true c d e = refl
fourth false false true d e = refl
fourth false false false d e = e

digit-digit : (b : ℕ) → is_digit_of 10 b ≡ true → writer.is_digit b ≡ true
unfolding digit
digit-digit b e = grind (arith, nat_tests)

digits_gap : (z : ℕ) (ds : List ℕ) → AreDigits 10 ds → gap (Some (record { kind = Minus; byte = z })) (mark ds) ≡ codes " "
digits_gap z [] h = absurd h
digits_gap z (d ∷ ds) h =
    ap (λ b. if b then codes " " else []) (fourth (is_wordy z && is_wordy d) (writer.is_symbol z && writer.is_symbol d) false (writer.is_digit d) (digit-digit d h.0))

-- an integer
pub digits_starts : (ops : Table) (e : Option Edge) (at n : ℕ) (rest : List Token) → n < 10 ^ 64
    → Starts ops e at (laid e at (mark (decimal n) ∷ []) (integer_lexemes (pos n) ∷ []) rest)
digits_starts ops e at n rest low = record {
  operand = refl;
  no_call = λ k z is h a to. and_no (touches a b) false refl;
  no_sign = λ z is a to.
      no_and (touches a b && true) (is_minus a.kind)
      (no_and (touches a b) true (apart a b at (gap e (mark (decimal n))) to (ap (λ x. gap x (mark (decimal n))) is ∙ digits_gap z (decimal n) (decimal_writes n low).0) refl));
}
  where
    b : Token
    b = token_at (at + length (gap e (mark (decimal n)))) 1 (length (decimal n)) (Integer n)

taken : (b : Bool) (c : Bool) (d : Bool) → d ≡ true → not (b && not (c || d)) ≡ true
taken true true d e = refl
taken true false true e = refl
taken true false false e = absurd (true≢false (sym e))
taken false c d e = refl

-- the two tokens of a negative integer
pub negative_starts : (ops : Table) (e : Option Edge) (at n : ℕ) (text : List ℕ) (rest : List Token)
    → Starts ops e at (laid e at (mark text ∷ []) ((lexeme (Name (codes "-")) 1 ∷ lexeme (Integer n) (length (decimal n)) ∷ []) ∷ []) rest)
negative_starts ops e at n text rest =
    plain_starts (a ∷ b ∷ rest) (taken (bars ops (Name (codes "-"))) (calls a (b ∷ rest)) (negates a (b ∷ rest)) signs) refl
  where
    x : ℕ
    x = at + length (gap e (mark text))

    a : Token
    a = token_at x 1 1 (Name (codes "-"))

    b : Token
    b = token_at (x + 1) 1 (length (decimal n)) (Integer n)

    signs : negates a (b ∷ rest) ≡ true
    signs = let k = same_number (x + 1) (x + 1) refl in rw k refl
