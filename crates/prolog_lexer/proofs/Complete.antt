-- Every text has tokens by cases.
use Rattle.std.proofs.Common.{◌≡◌, ℕ, zero, suc, ◌+◌, ◌≤◌, ◌==◌, ◌&&◌, ◌||◌, List, [], ◌∷◌, ◌++◌, length, Bool, true, false, nat_le, refl, sym, ap, subst, ◌∙◌, arith, length-append}
use Rattle.std.proofs.lemmas.Bool.{eqb-true, eqb-false, leb-true, leb-false, and_parts}
use Rattle.prolog_lexer.specs.Classes.{class, is_word, is_symbol, in_line}
use Rattle.prolog_lexer.specs.Digits.{is_digit_of, begins_with_digit, value}
use Rattle.prolog_lexer.specs.Quotes.{begins_with}
use Rattle.prolog_lexer.specs.Pieces.{begins_comment, is_break}
use Rattle.prolog_lexer.specs.Streams.{stream, line_after}
use Rattle.prolog_lexer.specs.Escapes.{AreAll, EndsRun, AreDigits, Inside, BadEscape, Character, plain, quote, escape, BadCharacter, text_end, line_end, one_quote, continuation}
use Rattle.prolog_lexer.specs.Escapes as escapes
use Rattle.prolog_lexer.specs.Tokens.{Tokens, Ending, at_end, at_fault, line_past, is_end, goes_on, Radix, hexadecimal, octal, binary, Quoting, names, texts, stream_of, listed, ending, text_ends, layout, line_comment, closed_comment, open_comment, name, variable, solo, symbols, stop, punctuation, decimal, decimal_too_large, based, based_too_large, character, no_character, quoted, open_quote, bad_escape, no_token}
use Rattle.prolog_lexer.proofs.Fits.{digit_first}
use Rattle.prolog_lexer.proofs.Runs.{run_of, percent_is, quote_is, double_quote_is}
use Rattle.prolog_lexer.proofs.Escaped.{After, stands, ends, bad, after}
use Rattle.prolog_lexer.proofs.Between.{Ends, closes, opens, breaks, between_of}
use Rattle.prolog_lexer.proofs.Numbers.{most}
use Rattle.prolog_lexer.proofs.Symbols.{Comment, shut, unshut, comment_of, begins_parts}
use Rattle.prolog_lexer.proofs.Sound.{stream_is}
use Rattle.prolog_lexer.specs.declared.class.Class.{Class}
use Rattle.prolog_lexer.specs.declared.class.Class.TheVariants.{Layout, Small, Capital, Digit, Symbol, Solo, Punctuation, Percent, Quote, DoubleQuote, Foreign}
use Rattle.prolog_lexer.specs.declared.token.Token.{Token}

record HasTokens (at line : ℕ) (bs : List ℕ) : Type 0 where
  ts : List Token
  e : Ending
  have : Tokens at line bs ts e

has : {at line : ℕ} {bs : List ℕ} {ts : List Token} {e : Ending} → Tokens at line bs ts e → HasTokens at line bs
has {ts = ts} {e = e} t = record { ts = ts; e = e; have = t }

no_comment_before : (b : ℕ) (word rest : List ℕ) → begins_comment (b ∷ (word ++ rest)) ≡ false → begins_comment (b ∷ word) ≡ false
no_comment_before b [] rest e = refl
no_comment_before b (c ∷ word) rest e = e

-- the tokens of a text whose first byte stands before at most n others, where all shorter texts have tokens
module _ (at line n : ℕ) (later : (rest : List ℕ) (at line : ℕ) → length rest ≤ n → HasTokens at line rest) where
  -- ---- comments, names, symbols

  has_line_comment : (bs : List ℕ) → length bs ≤ n → HasTokens at line (37 ∷ bs)
  has_line_comment bs few =
      let r = run_of in_line bs in
      let l = later r.rest (at + length (37 ∷ r.word)) line (omega (arith, r.few)) in
      subst (λ l. HasTokens at line (37 ∷ l)) r.all (has (line_comment r.word r.rest r.are r.ends l.have))

  has_comment : {bs : List ℕ} → Comment bs → length bs ≤ n → HasTokens at line (47 ∷ 42 ∷ bs)
  has_comment (shut comment rest h) few =
      let l = later rest (at + (2 + length comment + 2)) (line_past comment line) (omega (arith, length-append comment (42 ∷ 47 ∷ rest))) in
      has (closed_comment comment rest h l.have)
  has_comment (unshut bytes h) few = has (open_comment bytes h)

  has_name : (b : ℕ) (bs : List ℕ) → length bs ≤ n → class b ≡ Small → HasTokens at line (b ∷ bs)
  has_name b bs few k =
      let r = run_of is_word bs in
      let l = later r.rest (at + length (b ∷ r.word)) line (omega (arith, r.few)) in
      subst (λ l. HasTokens at line (b ∷ l)) r.all (has (name b r.word r.rest k r.are r.ends l.have))

  has_variable : (b : ℕ) (bs : List ℕ) → length bs ≤ n → class b ≡ Capital → HasTokens at line (b ∷ bs)
  has_variable b bs few k =
      let r = run_of is_word bs in
      let l = later r.rest (at + length (b ∷ r.word)) line (omega (arith, r.few)) in
      subst (λ l. HasTokens at line (b ∷ l)) r.all (has (variable b r.word r.rest k r.are r.ends l.have))

  has_stop : (b : ℕ) (word rest : List ℕ) → length rest ≤ n → is_end (b ∷ word) rest ≡ true → HasTokens at line (b ∷ (word ++ rest))
  has_stop b (c ∷ word) rest few e = cc
  has_stop b [] rest few e =
      let p : (b == 46 ≡ true) × (is_break rest ≡ true) = and_parts (b == 46) (is_break rest) e in
      let l = later rest (at + 1) line few in
      subst (λ x. HasTokens at line (x ∷ rest)) (sym (eqb-true b 46 p.0)) (has (stop p.1 l.have))

  has_run : (b : ℕ) (word rest : List ℕ) → length rest ≤ n → AreAll is_symbol (b ∷ word) → EndsRun is_symbol rest → begins_comment (b ∷ (word ++ rest)) ≡ false
      → HasTokens at line (b ∷ (word ++ rest))
  has_run b word rest few h k c = elim (is_end (b ∷ word) rest) as (λ v. is_end (b ∷ word) rest ≡ v → HasTokens at line (b ∷ (word ++ rest))) [
    | true ↦ λ e. has_stop b word rest few e
    | false ↦ λ e. let l = later rest (at + length (b ∷ word)) line few in has (symbols b word rest h k (no_comment_before b word rest c) e l.have)
  ] refl

  has_symbols : (b : ℕ) (bs : List ℕ) → length bs ≤ n → class b ≡ Symbol → HasTokens at line (b ∷ bs)
  has_symbols b bs few k = elim (begins_comment (b ∷ bs)) as (λ v. begins_comment (b ∷ bs) ≡ v → HasTokens at line (b ∷ bs)) [
    | true ↦ λ e. begins_parts b bs e (HasTokens at line) (λ cs less. has_comment (comment_of cs) (omega arith))
    | false ↦ λ e.
        let r = run_of is_symbol bs in
        let first : is_symbol b ≡ true = rw k refl in
        subst (λ l. HasTokens at line (b ∷ l)) r.all
        (has_run b r.word r.rest (omega (arith, r.few)) (first, r.are) r.ends (subst (λ l. begins_comment (b ∷ l) ≡ false) (sym r.all) e))
  ] refl

  -- ---- integers

  has_decimal : (digits rest : List ℕ) → length rest ≤ n → AreDigits 10 digits → EndsRun (is_digit_of 10) rest → goes_on digits rest ≡ false → HasTokens at line (digits ++ rest)
  has_decimal digits rest few h r g = elim (nat_le (value 10 digits) most) as (λ v. nat_le (value 10 digits) most ≡ v → HasTokens at line (digits ++ rest)) [
    | true ↦ λ e. let l = later rest (at + length digits) line few in has (decimal digits rest h r g (leb-true _ _ e) l.have)
    | false ↦ λ e. has (decimal_too_large digits rest h r g (leb-false _ _ e))
  ] refl

  has_based_digits : {letter base : ℕ} (x : Radix letter base) (digits rest : List ℕ) → length rest ≤ n → AreDigits base digits → EndsRun (is_digit_of base) rest
      → HasTokens at line (48 ∷ letter ∷ (digits ++ rest))
  has_based_digits {letter = letter} {base = base} x digits rest few h r =
      elim (nat_le (value base digits) most) as (λ v. nat_le (value base digits) most ≡ v → HasTokens at line (48 ∷ letter ∷ (digits ++ rest))) [
        | true ↦ λ e. let l = later rest (at + (2 + length digits)) line few in has (based letter digits rest x h r (leb-true _ _ e) l.have)
        | false ↦ λ e. has (based_too_large letter digits rest x h r (leb-false _ _ e))
      ] refl

  has_based : {letter base : ℕ} (x : Radix letter base) (bs : List ℕ) → length bs ≤ n → begins_with_digit base bs ≡ true → HasTokens at line (48 ∷ letter ∷ bs)
  has_based x [] few e = cc
  has_based {letter = letter} {base = base} x (d ∷ ds) few e =
      let r = run_of (is_digit_of base) ds in
      subst (λ l. HasTokens at line (48 ∷ letter ∷ d ∷ l)) r.all (has_based_digits x (d ∷ r.word) r.rest (omega (arith, r.few)) (e, r.are) r.ends)

  has_character_of : {v : ℕ} (spelling rest : List ℕ) → length rest ≤ n → Character spelling v → HasTokens at line (48 ∷ 39 ∷ (spelling ++ rest))
  has_character_of spelling rest few c = let l = later rest (at + (2 + length spelling)) line few in has (character spelling rest c l.have)

  has_escape : {bs : List ℕ} → After bs → length bs ≤ n → HasTokens at line (48 ∷ 39 ∷ 92 ∷ bs)
  has_escape (stands spelling rest e) few = has_character_of (92 ∷ spelling) rest (omega (arith, length-append spelling rest)) (escape spelling e)
  has_escape (ends rest) few = has (no_character (92 ∷ 10 ∷ rest) continuation)
  has_escape (bad bytes e) few = has (no_character (92 ∷ bytes) (escapes.bad_escape e))

  has_quote : (bs : List ℕ) → length bs ≤ n → (t : Bool) → begins_with 39 bs ≡ t → HasTokens at line (48 ∷ 39 ∷ 39 ∷ bs)
  has_quote bs few false e = has (no_character (39 ∷ bs) (one_quote e))
  has_quote [] few true e = cc
  has_quote (b ∷ bs) few true e = subst (λ x. HasTokens at line (48 ∷ 39 ∷ 39 ∷ x ∷ bs)) (sym (eqb-true b 39 e)) (has_character_of (39 ∷ 39 ∷ []) bs (omega arith) quote)

  has_character : (bs : List ℕ) → length bs ≤ n → HasTokens at line (48 ∷ 39 ∷ bs)
  has_character [] few = has (no_character [] text_end)
  has_character (b ∷ bs) few = elim (b == 39) as (λ v. b == 39 ≡ v → HasTokens at line (48 ∷ 39 ∷ b ∷ bs)) [
    | true ↦ λ e. subst (λ x. HasTokens at line (48 ∷ 39 ∷ x ∷ bs)) (sym (eqb-true b 39 e)) (has_quote bs (omega arith) (begins_with 39 bs) refl)
    | false ↦ λ e. elim (b == 10) as (λ v. b == 10 ≡ v → HasTokens at line (48 ∷ 39 ∷ b ∷ bs)) [
      | true ↦ λ f. subst (λ x. HasTokens at line (48 ∷ 39 ∷ x ∷ bs)) (sym (eqb-true b 10 f)) (has (no_character (10 ∷ bs) line_end))
      | false ↦ λ f. elim (b == 92) as (λ v. b == 92 ≡ v → HasTokens at line (48 ∷ 39 ∷ b ∷ bs)) [
        | true ↦ λ g. subst (λ x. HasTokens at line (48 ∷ 39 ∷ x ∷ bs)) (sym (eqb-true b 92 g)) (has_escape (after bs) (omega arith))
        | false ↦ λ g. has_character_of (b ∷ []) bs (omega arith) (plain b (eqb-false b 39 e) (eqb-false b 92 g) (eqb-false b 10 f))
      ] refl
    ] refl
  ] refl

  -- 0 and what makes it longer
  one : (c letter base : ℕ) (cs : List ℕ) → length cs ≤ n → Radix letter base → c == letter && begins_with_digit base cs ≡ true → HasTokens at line (48 ∷ c ∷ cs)
  one c letter base cs few x e =
      let p : (c == letter ≡ true) × (begins_with_digit base cs ≡ true) = and_parts (c == letter) (begins_with_digit base cs) e in
      subst (λ y. HasTokens at line (48 ∷ y ∷ cs)) (sym (eqb-true c letter p.0)) (has_based x cs few p.1)

  either : (c letter base : ℕ) (cs : List ℕ) → length cs ≤ n → Radix letter base → (other : Bool) → (other ≡ true → HasTokens at line (48 ∷ c ∷ cs))
      → c == letter && begins_with_digit base cs || other ≡ true → HasTokens at line (48 ∷ c ∷ cs)
  either c letter base cs few x other f e =
      elim (c == letter && begins_with_digit base cs) as (λ v. c == letter && begins_with_digit base cs ≡ v → v || other ≡ true → HasTokens at line (48 ∷ c ∷ cs))
      [ true ↦ λ g _. one c letter base cs few x g | false ↦ λ _ h. f h ] refl e

  has_zero : (c : ℕ) (cs : List ℕ) → length cs ≤ n → c == 39 || (c == 120 && begins_with_digit 16 cs || (c == 111 && begins_with_digit 8 cs || c == 98 && begins_with_digit 2 cs)) ≡ true
      → HasTokens at line (48 ∷ c ∷ cs)
  has_zero c cs few e =
      elim (c == 39) as (λ v. c == 39 ≡ v → v || (c == 120 && begins_with_digit 16 cs || (c == 111 && begins_with_digit 8 cs || c == 98 && begins_with_digit 2 cs)) ≡ true → HasTokens at line (48 ∷ c ∷ cs)) [
        | true ↦ λ f _. subst (λ x. HasTokens at line (48 ∷ x ∷ cs)) (sym (eqb-true c 39 f)) (has_character cs few)
        | false ↦ λ _. either c 120 16 cs few hexadecimal (c == 111 && begins_with_digit 8 cs || c == 98 && begins_with_digit 2 cs)
            (either c 111 8 cs few octal (c == 98 && begins_with_digit 2 cs) (one c 98 2 cs few binary))
      ] refl e

  has_longer : (d : ℕ) (word rest : List ℕ) → length (word ++ rest) ≤ n → goes_on (d ∷ word) rest ≡ true → HasTokens at line (d ∷ (word ++ rest))
  has_longer d (c ∷ word) rest few e = cc
  has_longer d [] [] few e = cc
  has_longer d [] (c ∷ cs) few e =
      let longer = c == 39 || (c == 120 && begins_with_digit 16 cs || (c == 111 && begins_with_digit 8 cs || c == 98 && begins_with_digit 2 cs)) in
      let p : (d == 48 ≡ true) × (longer ≡ true) = and_parts (d == 48) longer e in
      subst (λ x. HasTokens at line (x ∷ c ∷ cs)) (sym (eqb-true d 48 p.0)) (has_zero c cs (omega arith) p.1)

  has_integer : (d : ℕ) (bs : List ℕ) → length bs ≤ n → class d ≡ Digit → HasTokens at line (d ∷ bs)
  has_integer d bs few k =
      let r = run_of (is_digit_of 10) bs in
      let all : length (r.word ++ r.rest) ≤ n = rw r.all few in
      subst (λ l. HasTokens at line (d ∷ l)) r.all
      (elim (goes_on (d ∷ r.word) r.rest) as (λ v. goes_on (d ∷ r.word) r.rest ≡ v → HasTokens at line (d ∷ (r.word ++ r.rest))) [
        | true ↦ λ e. has_longer d r.word r.rest all e
        | false ↦ λ e. has_decimal (d ∷ r.word) r.rest (omega (arith, r.few)) (digit_first d k, r.are) r.ends e
      ] refl)

  -- ---- quotes

  has_ends : {q : ℕ} {meaning tail : List ℕ} (spelling : List ℕ) → Quoting q → Inside q spelling meaning → Ends q tail → length (spelling ++ tail) ≤ n → HasTokens at line (q ∷ (spelling ++ tail))
  has_ends {q = q} spelling k i (closes rest e) few =
      let l = later rest (at + (1 + length spelling + 1)) (line_past spelling line) (omega (arith, length-append spelling (q ∷ rest))) in
      has (quoted spelling rest k i e l.have)
  has_ends spelling k i (opens rest e) few = has (open_quote spelling rest k i e)
  has_ends spelling k i (breaks rest e) few = has (bad_escape spelling rest k i e)

  has_quoted : (q : ℕ) (bs : List ℕ) → length bs ≤ n → Quoting q → HasTokens at line (q ∷ bs)
  has_quoted q bs few k =
      let r = between_of q n bs few in
      let all : length (r.spelling ++ r.tail) ≤ n = rw r.all few in
      subst (λ l. HasTokens at line (q ∷ l)) r.all (has_ends r.spelling k r.have r.ends all)

  -- ---- by the class of the first byte

  has_first : (b : ℕ) (bs : List ℕ) → length bs ≤ n → (k : Class) → class b ≡ k → HasTokens at line (b ∷ bs)
  has_first b bs few Layout k = let l = later bs (at + 1) (line_after b line) few in has (layout b k l.have)
  has_first b bs few Percent k = subst (λ x. HasTokens at line (x ∷ bs)) (sym (percent_is b k)) (has_line_comment bs few)
  has_first b bs few Small k = has_name b bs few k
  has_first b bs few Capital k = has_variable b bs few k
  has_first b bs few Solo k = let l = later bs (at + 1) line few in has (solo b k l.have)
  has_first b bs few Punctuation k = let l = later bs (at + 1) line few in has (punctuation b k l.have)
  has_first b bs few Symbol k = has_symbols b bs few k
  has_first b bs few Digit k = has_integer b bs few k
  has_first b bs few Quote k = subst (λ x. HasTokens at line (x ∷ bs)) (sym (quote_is b k)) (has_quoted 39 bs few names)
  has_first b bs few DoubleQuote k = subst (λ x. HasTokens at line (x ∷ bs)) (sym (double_quote_is b k)) (has_quoted 34 bs few texts)
  has_first b bs few Foreign k = has (no_token b k)

has_tokens : (n : ℕ) (bs : List ℕ) (at line : ℕ) → length bs ≤ n → HasTokens at line bs
has_tokens n [] at line h = has text_ends
has_tokens zero (b ∷ bs) at line h = absurd (omega arith)
has_tokens (suc n) (b ∷ bs) at line h = has_first at line n (has_tokens n) b bs (omega arith) (class b) refl

-- ---- the law

listed-stream_of : (ts : List Token) (e : Ending) → listed (stream_of ts e) ≡ ts
listed-stream_of [] at_end = refl
listed-stream_of [] (at_fault f) = refl
listed-stream_of (t ∷ ts) e = ap (λ l. t ∷ l) (listed-stream_of ts e)

ending-stream_of : (ts : List Token) (e : Ending) → ending (stream_of ts e) ≡ e
ending-stream_of [] at_end = refl
ending-stream_of [] (at_fault f) = refl
ending-stream_of (t ∷ ts) e = ending-stream_of ts e

pub tokens_given : (at line : ℕ) (text : List ℕ) (ts : List Token) (e : Ending) → Tokens at line text ts e → stream 0 at line text ≡ stream_of ts e
tokens_given at line text ts e t = stream_is t

pub tokens_had : (at line : ℕ) (text : List ℕ) → Tokens at line text (listed (stream 0 at line text)) (ending (stream 0 at line text))
tokens_had at line text =
    let h = has_tokens (length text) text at line (omega arith) in
    let s : stream 0 at line text ≡ stream_of h.ts h.e = stream_is h.have in
    let l : h.ts ≡ listed (stream 0 at line text) = sym (ap listed s ∙ listed-stream_of h.ts h.e) in
    let e : h.e ≡ ending (stream 0 at line text) = sym (ap ending s ∙ ending-stream_of h.ts h.e) in
    subst (λ x. Tokens at line text x (ending (stream 0 at line text))) l (subst (λ x. Tokens at line text h.ts x) e h.have)

pub tokens_once : (at line : ℕ) (text : List ℕ) (ts us : List Token) (e f : Ending) → Tokens at line text ts e → Tokens at line text us f → (ts ≡ us) × (e ≡ f)
tokens_once at line text ts us e f t u =
    let s : stream_of ts e ≡ stream_of us f = sym (tokens_given at line text ts e t) ∙ tokens_given at line text us f u in
    (sym (listed-stream_of ts e) ∙ ap listed s ∙ listed-stream_of us f, sym (ending-stream_of ts e) ∙ ap ending s ∙ ending-stream_of us f)
