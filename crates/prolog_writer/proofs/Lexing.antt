-- The text of pieces has the tokens of the pieces.
use Rattle.std.proofs.Common.{◌≡◌, ℕ, ◌+◌, ◌≤◌, length, List, [], ◌∷◌, ◌++◌, Bool, true, false, refl, sym, ◌∙◌, ap, subst, append_assoc, arith, length-append}
use Rattle.std.specs.Prelude.{codes, ◌==◌, ◌&&◌, ◌||◌, count_by}
use Rattle.std.proofs.lemmas.Bool.{eqb-true, true≢false}
use Rattle.prolog_lexer.specs.Classes.{class, is_word, is_symbol}
use Rattle.prolog_lexer.specs.Digits.{value, is_digit_of}
use Rattle.prolog_lexer.specs.Quotes.{begins_with}
use Rattle.prolog_lexer.specs.Escapes.{AreAll, EndsRun, AreDigits, Inside}
use Rattle.prolog_lexer.specs.Pieces.{begins_comment, is_break}
use Rattle.prolog_lexer.specs.Tokens.{Tokens, Ending, line_past, is_end, goes_on, names, name, variable, solo, symbols, punctuation, decimal, quoted as in_quotes}
use Rattle.prolog_lexer.specs.declared.token.Token.{Token}
use Rattle.prolog_lexer.specs.declared.token.TokenKind.TheVariants.{Name, Quoted, Variable, Integer, Punct}
use Rattle.prolog_writer.specs.Spaces.{is_wordy}
use Rattle.prolog_writer.specs.Spelling as writer
use Rattle.prolog_writer.specs.Lexemes.{Lexeme, lexeme, tokens_from, Spells, word, symbols as symbolic, solo as alone, quoted, named, digits, negative, mark, pair}
use Rattle.prolog_writer.proofs.Bytes.{word-alphanumeric, word-alphanumeric_true, digit-wordy, digit_is_no_symbol, no_word_letter}

-- ---- what may stand behind a piece

-- a run of one kind ends where one of a wider kind does
narrower : (wide narrow : ℕ → Bool) (rest : List ℕ) → ((b : ℕ) → wide b ≡ false → narrow b ≡ false) → EndsRun wide rest → EndsRun narrow rest
narrower wide narrow [] f h = tt
narrower wide narrow (b ∷ bs) f h = f b h

or_left : (a b : Bool) → (a || b) ≡ false → a ≡ false
or_left true b e = e
or_left false b e = refl

or_right : (a b : Bool) → (a || b) ≡ false → b ≡ false
or_right true true e = e
or_right true false e = refl
or_right false b e = e

wordy-word : (b : ℕ) → is_wordy b ≡ false → is_word b ≡ false
wordy-word b e = word-alphanumeric b (or_left (writer.is_alphanumeric b) (b == 39) e)

pub word_ends : (rest : List ℕ) → EndsRun is_wordy rest → EndsRun is_word rest
word_ends rest h = narrower is_wordy is_word rest wordy-word h

no_quote : (rest : List ℕ) → EndsRun is_wordy rest → begins_with 39 rest ≡ false
no_quote [] h = refl
no_quote (b ∷ bs) h = or_right (writer.is_alphanumeric b) (b == 39) h

-- ---- one piece

pub one_word : {at line : ℕ} {ts : List Token} {e : Ending} (b : ℕ) (bs rest : List ℕ) → class b ≡ class 97 → AreAll is_word bs → EndsRun is_wordy rest
    → Tokens (at + length (b ∷ bs)) line rest ts e → Tokens at line ((b ∷ bs) ++ rest) (tokens_from line at (lexeme (Name (b ∷ bs)) (length (b ∷ bs)) ∷ []) ++ ts) e
unfolding class
one_word b bs rest c w h ts = name b bs rest c w (word_ends rest h) ts

-- the last byte
abbrev pub last_of : List ℕ → ℕ
last_of [] = 0
last_of (b ∷ []) = b
last_of (b ∷ c ∷ cs) = last_of (c ∷ cs)

-- what stands behind a byte doesn't run together with it
pub record Apart (z : ℕ) (rest : List ℕ) : Type 0 where
  pub words : is_wordy z ≡ true → EndsRun is_wordy rest
  pub runs : is_symbol z ≡ true → EndsRun is_symbol rest

last_kind : (kind : ℕ → Bool) (b : ℕ) (bs : List ℕ) → AreAll kind (b ∷ bs) → kind (last_of (b ∷ bs)) ≡ true
last_kind kind b [] h = h.0
last_kind kind b (c ∷ cs) h = last_kind kind c cs h.1

last_snoc : (bs : List ℕ) (z : ℕ) → last_of (bs ++ z ∷ []) ≡ z
last_snoc [] z = refl
last_snoc (b ∷ []) z = refl
last_snoc (b ∷ c ∷ cs) z = last_snoc (c ∷ cs) z

last_quote : (bs : List ℕ) → last_of (39 ∷ (bs ++ 39 ∷ [])) ≡ 39
last_quote [] = refl
last_quote (b ∷ bs) = last_snoc (b ∷ bs) 39

true_left : (a b : Bool) → a ≡ true → (a || b) ≡ true
true_left true b e = refl
true_left false b e = absurd cc

word-wordy : (b : ℕ) → is_word b ≡ true → is_wordy b ≡ true
word-wordy b e = true_left (writer.is_alphanumeric b) (b == 39) (word-alphanumeric_true b e)

small-word : (b : ℕ) → class b ≡ class 97 → is_word b ≡ true
unfolding class
small-word b e = rw e refl

capital-word : (b : ℕ) → class b ≡ class 65 → is_word b ≡ true
unfolding class
capital-word b e = rw e refl

pub one_variable : {at line : ℕ} {ts : List Token} {e : Ending} (b : ℕ) (bs rest : List ℕ) → class b ≡ class 65 → AreAll is_word bs → EndsRun is_wordy rest
    → Tokens (at + length (b ∷ bs)) line rest ts e → Tokens at line ((b ∷ bs) ++ rest) (tokens_from line at (lexeme (Variable (b ∷ bs)) (length (b ∷ bs)) ∷ []) ++ ts) e
unfolding class
one_variable b bs rest c w h ts = variable b bs rest c w (word_ends rest h) ts

pub one_solo : {at line : ℕ} {ts : List Token} {e : Ending} (b : ℕ) (rest : List ℕ) → class b ≡ class 33
    → Tokens (at + 1) line rest ts e → Tokens at line (b ∷ rest) (tokens_from line at (lexeme (Name (b ∷ [])) 1 ∷ []) ++ ts) e
unfolding class
one_solo b rest c ts = solo b c ts

pub one_mark : {at line : ℕ} {ts : List Token} {e : Ending} (b : ℕ) (rest : List ℕ) → class b ≡ class 40
    → Tokens (at + 1) line rest ts e → Tokens at line (b ∷ rest) (tokens_from line at (lexeme (Punct b) 1 ∷ []) ++ ts) e
unfolding class
one_mark b rest c ts = punctuation b c ts

point_alone : (x : Bool) (b : ℕ) → b == 46 ≡ x → (b ∷ [] ≡ codes "." → ⊥) → (c : Bool) → (b == 46 && c) ≡ false
point_alone true b e h c = absurd (h (ap (λ (n : ℕ). n ∷ []) (eqb-true b 46 e)))
point_alone false b e h c = rw e refl

no_end : (b : ℕ) (bs rest : List ℕ) → (b ∷ bs ≡ codes "." → ⊥) → is_end (b ∷ bs) rest ≡ false
no_end b [] rest h = point_alone (b == 46) b refl h (is_break rest)
no_end b (c ∷ cs) rest h = refl

no_longer : (ds rest : List ℕ) → EndsRun is_wordy rest → goes_on ds rest ≡ false
no_longer [] rest h = refl
no_longer (d ∷ []) [] h = refl
no_longer (d ∷ []) (b ∷ bs) h = no_word_letter d b bs h
no_longer (d ∷ e ∷ es) rest h = refl

wordy-digit : (b : ℕ) → is_wordy b ≡ false → is_digit_of 10 b ≡ false
wordy-digit b e = go (is_digit_of 10 b) refl
  where
    go : (x : Bool) → is_digit_of 10 b ≡ x → is_digit_of 10 b ≡ false
    go true h = absurd (true≢false (sym (digit-wordy b h) ∙ e))
    go false h = h

pub one_number : {at line : ℕ} {ts : List Token} {e : Ending} (ds rest : List ℕ) → AreDigits 10 ds → value 10 ds ≤ 0x8000_0000_0000_0000 → EndsRun is_wordy rest
    → Tokens (at + length ds) line rest ts e → Tokens at line (ds ++ rest) (tokens_from line at (lexeme (Integer (value 10 ds)) (length ds) ∷ []) ++ ts) e
one_number ds rest c few h ts = decimal ds rest c (narrower is_wordy (is_digit_of 10) rest wordy-digit h) (no_longer ds rest h) few ts

pub one_run : {at line : ℕ} {ts : List Token} {e : Ending} (b : ℕ) (bs rest : List ℕ) → AreAll is_symbol (b ∷ bs) → begins_comment (b ∷ bs) ≡ false → (b ∷ bs ≡ codes "." → ⊥) → EndsRun is_symbol rest
    → Tokens (at + length (b ∷ bs)) line rest ts e → Tokens at line ((b ∷ bs) ++ rest) (tokens_from line at (lexeme (Name (b ∷ bs)) (length (b ∷ bs)) ∷ []) ++ ts) e
one_run b bs rest c plain point h ts = symbols b bs rest c h plain (no_end b bs rest point) ts

pub one_quoted : {at line : ℕ} {ts : List Token} {e : Ending} (spelling meaning rest : List ℕ) → Inside 39 spelling meaning → count_by (λ b. b == 10) spelling ≡ 0 → EndsRun is_wordy rest
    → Tokens (at + (1 + length spelling + 1)) line rest ts e
    → Tokens at line (39 ∷ (spelling ++ 39 ∷ rest)) (tokens_from line at (lexeme (Quoted meaning) (1 + length spelling + 1) ∷ []) ++ ts) e
one_quoted {at} {line} {ts} {e} spelling meaning rest i lines h us =
    let l : line ≡ line_past spelling line = omega (arith, lines) in
    in_quotes spelling rest names i (no_quote rest h) (subst (λ n. Tokens (at + (1 + length spelling + 1)) n rest ts e) l us)

digits_first : (ds rest : List ℕ) → AreDigits 10 ds → EndsRun is_symbol (ds ++ rest)
digits_first [] rest h = absurd h
digits_first (d ∷ ds) rest h = digit_is_no_symbol d h.0

digits_last : (ds : List ℕ) → AreDigits 10 ds → is_wordy (last_of ds) ≡ true
digits_last [] h = absurd h
digits_last (d ∷ ds) h = digit-wordy (last_of (d ∷ ds)) (last_kind (is_digit_of 10) d ds h)

last_negative : (ds : List ℕ) → AreDigits 10 ds → last_of (45 ∷ ds) ≡ last_of ds
last_negative [] h = absurd h
last_negative (d ∷ ds) h = refl

minus_symbol : is_symbol 45 ≡ true
unfolding class
minus_symbol = refl

no_point : 45 ∷ [] ≡ codes "." → ⊥
no_point e = let h : 45 ≡ 46 = ap last_of e in omega (arith, h)

-- each piece, whatever stands behind it that doesn't run together with its last byte
pub one_piece : {at line : ℕ} {ts : List Token} {e : Ending} (text : List ℕ) (xs : List Lexeme) (rest : List ℕ) → Spells text xs → Apart (last_of text) rest
    → Tokens (at + length text) line rest ts e → Tokens at line (text ++ rest) (tokens_from line at xs ++ ts) e
one_piece text xs rest (word b bs c w) h ts = one_word b bs rest c w (h.words (word-wordy (last_of (b ∷ bs)) (last_kind is_word b bs (small-word b c, w)))) ts
one_piece text xs rest (symbolic b bs c plain point) h ts = one_run b bs rest c plain point (h.runs (last_kind is_symbol b bs c)) ts
one_piece text xs rest (alone b c) h ts = one_solo b rest c ts
one_piece {at} {line} {ts} {e} text xs rest (quoted spelling meaning i lines) h us =
    let n : at + length (39 ∷ (spelling ++ 39 ∷ [])) ≡ at + (1 + length spelling + 1) = omega (arith, length-append spelling (39 ∷ [])) in
    subst (λ (l : List ℕ). Tokens at line (39 ∷ l) (tokens_from line at (lexeme (Quoted meaning) (1 + length spelling + 1) ∷ []) ++ ts) e) (sym (append_assoc spelling (39 ∷ []) rest))
    (one_quoted spelling meaning rest i lines (h.words (ap is_wordy (last_quote spelling))) (subst (λ k. Tokens k line rest ts e) n us))
one_piece text xs rest (named b bs c w) h ts = one_variable b bs rest c w (h.words (word-wordy (last_of (b ∷ bs)) (last_kind is_word b bs (capital-word b c, w)))) ts
one_piece text xs rest (digits ds c few) h ts = one_number ds rest c few (h.words (digits_last ds c)) ts
one_piece {at} {line} {ts} {e} text xs rest (negative ds c few) h us =
    let n : at + length (45 ∷ ds) ≡ at + 1 + length ds = omega arith in
    one_run 45 [] (ds ++ rest) (minus_symbol, tt) refl no_point (digits_first ds rest c)
    (one_number ds rest c few (h.words (ap is_wordy (last_negative ds c) ∙ digits_last ds c)) (subst (λ k. Tokens k line rest ts e) n us))
one_piece text xs rest (mark b c) h ts = one_mark b rest c ts
one_piece {at} {line} {ts} {e} text xs rest (pair a b c d) h us =
    let n : at + 2 ≡ at + 1 + 1 = omega arith in
    one_mark a (b ∷ rest) c (one_mark b rest d (subst (λ k. Tokens k line rest ts e) n us))
