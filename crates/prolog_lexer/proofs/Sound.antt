-- The tokens that a text has by cases are those of its stream.
use Rattle.std.proofs.Common.{◌≡◌, ℕ, ◌+◌, ◌≤◌, ◌<◌, ◌==◌, List, [], ◌∷◌, ◌++◌, length, take, drop, Bool, true, false, refl, sym, ap, ◌∙◌, arith, append_assoc, append-nil, length-append}
use Rattle.std.specs.List.{prefix_len}
use Rattle.std.proofs.lemmas.Bool.{ne_eqb}
use Rattle.prolog_lexer.specs.Classes.{class, is_word, is_symbol, in_line}
use Rattle.prolog_lexer.specs.Digits.{is_digit_of, value}
use Rattle.prolog_lexer.specs.Quotes.{inside, lead, begins_with}
use Rattle.prolog_lexer.specs.Pieces as pieces
use Rattle.prolog_lexer.specs.Pieces.{piece, integer}
use Rattle.prolog_lexer.specs.Streams.{stream, token}
use Rattle.prolog_lexer.specs.Escapes as escapes
use Rattle.prolog_lexer.specs.Escapes.{AreAll, EndsRun, AreDigits, Inside, nothing, itself, twice, escaped, continued, Character, plain, quote}
use Rattle.prolog_lexer.specs.Tokens.{Tokens, Ending, token_at, Radix, hexadecimal, octal, binary, Quoting, names, texts, quoting, stream_of, text_ends, layout, line_comment, closed_comment, open_comment, name, variable, solo, symbols, stop, punctuation, decimal, decimal_too_large, based, based_too_large, character, no_character, quoted, open_quote, bad_escape, no_token}
use Rattle.prolog_lexer.proofs.Skips.{newlines, newlines-cons}
use Rattle.prolog_lexer.proofs.Fits.{blank_step, lexeme_step, refused_step}
use Rattle.prolog_lexer.proofs.Runs.{prefix_len-run, take-run, drop-run, digits_all, same_line, word_line, symbol_line, digit_line, in_line_line, newlines-run, newlines-append}
use Rattle.prolog_lexer.proofs.Escaped.{escape_line, at_most-some, at_most-none}
use Rattle.prolog_lexer.proofs.Between.{IsQuote, inside_is, closes_is, opens_is, breaks_is}
use Rattle.prolog_lexer.proofs.Numbers.{most, piece-class, decimal_piece, based_piece, character_piece, bad_character_piece}
use Rattle.prolog_lexer.proofs.Symbols.{closed_piece, open_piece, line_piece, symbols_piece, stop_piece}
use Rattle.prolog_lexer.specs.declared.class.Class.{Class}
use Rattle.prolog_lexer.specs.declared.class.Class.TheVariants.{Layout, Small, Capital, Solo, Punctuation, Foreign}
use Rattle.prolog_lexer.specs.declared.piece.Piece.TheVariants.{Blank, Lexeme}
use Rattle.prolog_lexer.specs.declared.token.Token.{Token}
use Rattle.prolog_lexer.specs.declared.token.TokenKind.{TokenKind}
use Rattle.prolog_lexer.specs.declared.token.TokenKind.TheVariants.{Name, Variable, Integer, Punct, Stop}

-- ---- one piece, of the bytes in front of a rest

module _ (at line n lines : ℕ) (bs front rest : List ℕ) (all : front ++ rest ≡ bs) (len : length front ≡ n) (some : 0 < n) (count : newlines front ≡ lines) where
  taken : take n bs ≡ front
  taken = ap (take n) (sym all) ∙ ap (λ m. take m (front ++ rest)) (sym len) ∙ take-run front rest

  dropped : drop n bs ≡ rest
  dropped = ap (drop n) (sym all) ∙ ap (λ m. drop m (front ++ rest)) (sym len) ∙ drop-run front rest

  some_bytes : 0 < length bs
  some_bytes = let e : length front + length rest ≡ length bs = sym (length-append front rest) ∙ ap length all in omega arith

  token_step : (kind : TokenKind) → piece bs ≡ Lexeme kind n → stream 0 at line bs ≡ token (token_at at line n kind) (stream 0 (at + n) (line + lines) rest)
  token_step kind p =
      lexeme_step at line n kind bs some_bytes some p
      ∙ ap (λ l. token (token_at at line n kind) (stream 0 (at + n) (line + newlines l) (drop n bs))) taken
      ∙ ap (λ l. token (token_at at line n kind) (stream 0 (at + n) (line + l) (drop n bs))) count
      ∙ ap (λ l. token (token_at at line n kind) (stream 0 (at + n) (line + lines) l)) dropped

  passed_step : piece bs ≡ Blank n → stream 0 at line bs ≡ stream 0 (at + n) (line + lines) rest
  passed_step p =
      blank_step at line n bs some_bytes some p
      ∙ ap (λ l. stream 0 (at + n) (line + newlines l) (drop n bs)) taken
      ∙ ap (λ l. stream 0 (at + n) (line + l) (drop n bs)) count
      ∙ ap (λ l. stream 0 (at + n) (line + lines) l) dropped

-- a token without an end of a line
flat_token : (at line n : ℕ) (front rest : List ℕ) (kind : TokenKind) → length front ≡ n → 0 < n → newlines front ≡ 0 → piece (front ++ rest) ≡ Lexeme kind n
    → stream 0 at line (front ++ rest) ≡ token (token_at at line n kind) (stream 0 (at + n) line rest)
flat_token at line n front rest kind len some count p =
    let z : line + 0 ≡ line = omega arith in
    token_step at line n 0 (front ++ rest) front rest refl len some count kind p ∙ ap (λ l. token (token_at at line n kind) (stream 0 (at + n) l rest)) z

run_token : (at line : ℕ) (p : ℕ → Bool) (b : ℕ) (word rest : List ℕ) (kind : TokenKind) → ((c : ℕ) → p c ≡ true → (c == 10) ≡ false) → AreAll p (b ∷ word)
    → piece (b ∷ (word ++ rest)) ≡ Lexeme kind (length (b ∷ word))
    → stream 0 at line (b ∷ (word ++ rest)) ≡ token (token_at at line (length (b ∷ word)) kind) (stream 0 (at + length (b ∷ word)) line rest)
run_token at line p b word rest kind lines h e = flat_token at line (length (b ∷ word)) (b ∷ word) rest kind refl (omega arith) (newlines-run p (b ∷ word) lines h) e

one_token : (at line b : ℕ) (rest : List ℕ) (kind : TokenKind) (k : Class) → class b ≡ k → (k ≡ Layout → ⊥) → piece (b ∷ rest) ≡ Lexeme kind 1
    → stream 0 at line (b ∷ rest) ≡ token (token_at at line 1 kind) (stream 0 (at + 1) line rest)
one_token at line b rest kind k e h p = rw p (ap (λ l. token (token_at at line 1 kind) (stream 0 (at + 1) l rest)) (same_line b line k e h))

word_piece : (kind : List ℕ → TokenKind) (b : ℕ) (word rest : List ℕ) → is_word b ≡ true → AreAll is_word word → EndsRun is_word rest
    → pieces.cut kind (prefix_len is_word (b ∷ (word ++ rest))) (b ∷ (word ++ rest)) ≡ Lexeme (kind (b ∷ word)) (length (b ∷ word))
word_piece kind b word rest e h k =
    ap (λ m. Lexeme (kind (take m (b ∷ (word ++ rest)))) m) (prefix_len-run is_word (b ∷ word) rest (e, h) k)
    ∙ ap (λ l. Lexeme (kind l) (length (b ∷ word))) (take-run (b ∷ word) rest)

pub some_length : (base : ℕ) (digits : List ℕ) → AreDigits base digits → 0 < length digits
some_length base [] h = absurd h
some_length base (d ∷ ds) h = omega arith

digits_line : (base : ℕ) (digits : List ℕ) → base ≤ 16 → AreDigits base digits → newlines digits ≡ 0
digits_line base digits few h = newlines-run (is_digit_of base) digits (digit_line base few) (digits_all base digits h)

radix_line : {letter base : ℕ} (digits : List ℕ) → Radix letter base → AreDigits base digits → newlines (48 ∷ letter ∷ digits) ≡ 0
radix_line digits hexadecimal h = newlines-cons 48 (120 ∷ digits) ∙ rw (newlines-cons 120 digits, digits_line 16 digits (omega arith) h) refl
radix_line digits octal h = newlines-cons 48 (111 ∷ digits) ∙ rw (newlines-cons 111 digits, digits_line 8 digits (omega arith) h) refl
radix_line digits binary h = newlines-cons 48 (98 ∷ digits) ∙ rw (newlines-cons 98 digits, digits_line 2 digits (omega arith) h) refl

character_line : {spelling : List ℕ} {v : ℕ} → Character spelling v → newlines spelling ≡ 0
character_line (plain b h k l) = newlines-cons b [] ∙ rw (ne_eqb b 10 l) refl
character_line quote = refl
character_line (escapes.escape spelling e) = newlines-cons 92 spelling ∙ rw (escape_line e) refl

-- ---- quotes

is_quote : {q : ℕ} → Quoting q → IsQuote q
is_quote names = record { no_line = λ e. omega arith; no_escape = λ e. omega arith }
is_quote texts = record { no_line = λ e. omega arith; no_escape = λ e. omega arith }

quote_piece : {q : ℕ} (k : Quoting q) (bs : List ℕ) → piece (q ∷ bs) ≡ pieces.quoted (quoting k) (inside q 0 bs)
unfolding piece class
quote_piece names bs = refl
quote_piece texts bs = refl

quote_line : {q : ℕ} → Quoting q → (q == 10) ≡ false
quote_line names = refl
quote_line texts = refl

quoted_piece : {q : ℕ} {meaning : List ℕ} (spelling rest : List ℕ) (k : Quoting q) → Inside q spelling meaning → begins_with q rest ≡ false
    → piece (q ∷ (spelling ++ q ∷ rest)) ≡ Lexeme (quoting k meaning) (1 + length spelling + 1)
quoted_piece {q = q} {meaning = meaning} spelling rest k i e =
    let n : 1 + (length spelling + 1) ≡ 1 + length spelling + 1 = omega arith in
    quote_piece k (spelling ++ q ∷ rest)
    ∙ ap (pieces.quoted (quoting k)) (inside_is q (is_quote k) (q ∷ rest) i ∙ ap (lead meaning (length spelling)) (closes_is q (is_quote k) rest e))
    ∙ ap (λ l. Lexeme (quoting k l) (1 + (length spelling + 1))) (append-nil meaning)
    ∙ ap (Lexeme (quoting k meaning)) n

quoted_line : {q : ℕ} (spelling : List ℕ) → Quoting q → newlines (q ∷ (spelling ++ q ∷ [])) ≡ newlines spelling
quoted_line {q = q} spelling k =
    let z : 0 + (newlines spelling + 0) ≡ newlines spelling = omega arith in
    newlines-cons q (spelling ++ q ∷ []) ∙ rw (newlines-append spelling (q ∷ []), newlines-cons q [], quote_line k) z

comment_newlines : (comment : List ℕ) → newlines (47 ∷ 42 ∷ (comment ++ 42 ∷ 47 ∷ [])) ≡ newlines comment
comment_newlines comment =
    let z : 0 + (0 + (newlines comment + 0)) ≡ newlines comment = omega arith in
    newlines-cons 47 (42 ∷ (comment ++ 42 ∷ 47 ∷ [])) ∙ rw (newlines-cons 42 (comment ++ 42 ∷ 47 ∷ []), newlines-append comment (42 ∷ 47 ∷ [])) z

-- ---- all cases

pub stream_is : {at line : ℕ} {bs : List ℕ} {ts : List Token} {e : Ending} → Tokens at line bs ts e → stream 0 at line bs ≡ stream_of ts e
stream_is text_ends = refl
stream_is (layout {rest = rest} b k t) = let p : piece (b ∷ rest) ≡ Blank 1 = piece-class b rest Layout k in rw p (stream_is t)
stream_is (line_comment {at = at} {line = line} comment rest h k t) =
    let z : line + 0 ≡ line = omega arith in
    passed_step at line (length (37 ∷ comment)) 0 (37 ∷ (comment ++ rest)) (37 ∷ comment) rest refl refl (omega arith) (newlines-run in_line (37 ∷ comment) in_line_line (refl, h))
    (line_piece comment rest h k)
    ∙ ap (λ l. stream 0 (at + length (37 ∷ comment)) l rest) z ∙ stream_is t
stream_is (closed_comment {at = at} {line = line} comment rest h t) =
    let a : (47 ∷ 42 ∷ (comment ++ 42 ∷ 47 ∷ [])) ++ rest ≡ 47 ∷ 42 ∷ (comment ++ 42 ∷ 47 ∷ rest) = ap (λ l. 47 ∷ 42 ∷ l) (append_assoc comment (42 ∷ 47 ∷ []) rest) in
    let n : length (47 ∷ 42 ∷ (comment ++ 42 ∷ 47 ∷ [])) ≡ 2 + length comment + 2 = omega (arith, length-append comment (42 ∷ 47 ∷ [])) in
    passed_step at line (2 + length comment + 2) (newlines comment) (47 ∷ 42 ∷ (comment ++ 42 ∷ 47 ∷ rest)) (47 ∷ 42 ∷ (comment ++ 42 ∷ 47 ∷ [])) rest a n (omega arith) (comment_newlines comment)
    (closed_piece comment rest h)
    ∙ stream_is t
stream_is (open_comment {at = at} {line = line} rest h) = refused_step at line 4 (47 ∷ 42 ∷ rest) (omega arith) (open_piece rest h)
stream_is (name {at = at} {line = line} b word rest k h r t) =
    let first : is_word b ≡ true = rw k refl in
    run_token at line is_word b word rest (Name (b ∷ word)) word_line (first, h) (piece-class b (word ++ rest) Small k ∙ word_piece Name b word rest first h r)
    ∙ ap (token (token_at at line (length (b ∷ word)) (Name (b ∷ word)))) (stream_is t)
stream_is (variable {at = at} {line = line} b word rest k h r t) =
    let first : is_word b ≡ true = rw k refl in
    run_token at line is_word b word rest (Variable (b ∷ word)) word_line (first, h) (piece-class b (word ++ rest) Capital k ∙ word_piece Variable b word rest first h r)
    ∙ ap (token (token_at at line (length (b ∷ word)) (Variable (b ∷ word)))) (stream_is t)
stream_is (solo {at = at} {line = line} {rest = rest} b k t) =
    one_token at line b rest (Name (b ∷ [])) Solo k (λ h. cc) (piece-class b rest Solo k) ∙ ap (token (token_at at line 1 (Name (b ∷ [])))) (stream_is t)
stream_is (symbols {at = at} {line = line} b run rest h r c n t) =
    run_token at line is_symbol b run rest (Name (b ∷ run)) symbol_line h (symbols_piece b run rest h r c n)
    ∙ ap (token (token_at at line (length (b ∷ run)) (Name (b ∷ run)))) (stream_is t)
stream_is (stop {at = at} {line = line} {rest = rest} h t) =
    flat_token at line 1 (46 ∷ []) rest Stop refl (omega arith) refl (stop_piece rest h) ∙ ap (token (token_at at line 1 Stop)) (stream_is t)
stream_is (punctuation {at = at} {line = line} {rest = rest} b k t) =
    one_token at line b rest (Punct b) Punctuation k (λ h. cc) (piece-class b rest Punctuation k) ∙ ap (token (token_at at line 1 (Punct b))) (stream_is t)
stream_is (decimal {at = at} {line = line} digits rest h r g few t) =
    flat_token at line (length digits) digits rest (Integer (value 10 digits)) refl (some_length 10 digits h) (digits_line 10 digits (omega arith) h)
    (decimal_piece digits rest h r g ∙ ap (λ x. integer x (length digits)) (at_most-some most (value 10 digits) few))
    ∙ ap (token (token_at at line (length digits) (Integer (value 10 digits)))) (stream_is t)
stream_is (decimal_too_large {at = at} {line = line} digits rest h r g big) =
    refused_step at line 5 (digits ++ rest) (omega (arith, some_length 10 digits h, length-append digits rest))
    (decimal_piece digits rest h r g ∙ ap (λ x. integer x (length digits)) (at_most-none most (value 10 digits) big))
stream_is (based {at = at} {line = line} {base = base} letter digits rest x h r few t) =
    flat_token at line (2 + length digits) (48 ∷ letter ∷ digits) rest (Integer (value base digits)) (omega arith) (omega arith) (radix_line digits x h)
    (based_piece digits rest x h r ∙ ap (λ x. integer x (2 + length digits)) (at_most-some most (value base digits) few))
    ∙ ap (token (token_at at line (2 + length digits) (Integer (value base digits)))) (stream_is t)
stream_is (based_too_large {at = at} {line = line} {base = base} letter digits rest x h r big) =
    refused_step at line 5 (48 ∷ letter ∷ (digits ++ rest)) (omega arith)
    (based_piece digits rest x h r ∙ ap (λ x. integer x (2 + length digits)) (at_most-none most (value base digits) big))
stream_is (character {at = at} {line = line} {v = v} spelling rest c t) =
    flat_token at line (2 + length spelling) (48 ∷ 39 ∷ spelling) rest (Integer v) (omega arith) (omega arith)
    (newlines-cons 48 (39 ∷ spelling) ∙ rw (newlines-cons 39 spelling, character_line c) refl)
    (character_piece rest c)
    ∙ ap (token (token_at at line (2 + length spelling) (Integer v))) (stream_is t)
stream_is (no_character {at = at} {line = line} rest c) = refused_step at line 3 (48 ∷ 39 ∷ rest) (omega arith) (bad_character_piece rest c)
stream_is (quoted {at = at} {line = line} {quote = q} {meaning = meaning} spelling rest k i e t) =
    let a : (q ∷ (spelling ++ q ∷ [])) ++ rest ≡ q ∷ (spelling ++ q ∷ rest) = ap (λ l. q ∷ l) (append_assoc spelling (q ∷ []) rest) in
    let n : length (q ∷ (spelling ++ q ∷ [])) ≡ 1 + length spelling + 1 = omega (arith, length-append spelling (q ∷ [])) in
    token_step at line (1 + length spelling + 1) (newlines spelling) (q ∷ (spelling ++ q ∷ rest)) (q ∷ (spelling ++ q ∷ [])) rest a n (omega arith) (quoted_line spelling k)
    (quoting k meaning) (quoted_piece spelling rest k i e)
    ∙ ap (token (token_at at line (1 + length spelling + 1) (quoting k meaning))) (stream_is t)
stream_is (open_quote {at = at} {line = line} {quote = q} {meaning = meaning} spelling rest k i e) =
    refused_step at line 2 (q ∷ (spelling ++ rest)) (omega arith)
    (quote_piece k (spelling ++ rest) ∙ ap (pieces.quoted (quoting k)) (inside_is q (is_quote k) rest i ∙ ap (lead meaning (length spelling)) (opens_is q (is_quote k) rest e)))
stream_is (bad_escape {at = at} {line = line} {quote = q} {meaning = meaning} spelling rest k i e) =
    refused_step at line 3 (q ∷ (spelling ++ 92 ∷ rest)) (omega arith)
    (quote_piece k (spelling ++ 92 ∷ rest) ∙ ap (pieces.quoted (quoting k)) (inside_is q (is_quote k) (92 ∷ rest) i ∙ ap (lead meaning (length spelling)) (breaks_is q (is_quote k) rest e)))
stream_is (no_token {at = at} {line = line} {rest = rest} b k) = refused_step at line 1 (b ∷ rest) (omega arith) (piece-class b rest Foreign k)
