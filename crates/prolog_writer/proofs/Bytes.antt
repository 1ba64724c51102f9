-- The classes of bytes of the lexer, and those of the writer.
use Rattle.std.proofs.Common.{◌≡◌, ℕ, List, [], ◌∷◌, Bool, true, false, refl, sym, ◌∙◌, ap, arith}
use Rattle.std.specs.Prelude.{◌||◌, ◌==◌, codes}
use Rattle.std.specs.List.{list_any}
use Rattle.std.proofs.lemmas.Bool.{eqb-true, true≢false}
use Rattle.std.proofs.lemmas.Bool.Decides.{nat_tests}
use Rattle.prolog_lexer.specs.Escapes.{AreAll}
use Rattle.prolog_lexer.specs.Classes.{class, is_word, is_symbol}
use Rattle.prolog_lexer.specs.Digits.{digit, is_digit_of}
use Rattle.prolog_lexer.specs.Tokens.{goes_on}
use Rattle.prolog_writer.specs.Spaces.{is_wordy}
use Rattle.prolog_writer.specs.Spelling as writer

pub small-class : (b : ℕ) → writer.is_small b ≡ true → class b ≡ class 97
unfolding class
small-class b e = grind (arith, nat_tests)

pub alphanumeric-word : (b : ℕ) → writer.is_alphanumeric b ≡ true → is_word b ≡ true
unfolding class
alphanumeric-word b e = grind (arith, nat_tests)

pub word-alphanumeric : (b : ℕ) → writer.is_alphanumeric b ≡ false → is_word b ≡ false
unfolding class
word-alphanumeric b e = grind (arith, nat_tests)

pub word-alphanumeric_true : (b : ℕ) → is_word b ≡ true → writer.is_alphanumeric b ≡ true
unfolding class
word-alphanumeric_true b e = grind (arith, nat_tests)

pub digit-wordy : (b : ℕ) → is_digit_of 10 b ≡ true → is_wordy b ≡ true
unfolding digit
digit-wordy b e = grind (arith, nat_tests)

pub digit_is_no_symbol : (b : ℕ) → is_digit_of 10 b ≡ true → is_symbol b ≡ false
unfolding digit class
digit_is_no_symbol b e = grind (arith, nat_tests)

pub no_word_letter : (d b : ℕ) (bs : List ℕ) → is_wordy b ≡ false → goes_on (d ∷ []) (b ∷ bs) ≡ false
no_word_letter d b bs e = grind (arith, nat_tests)

pub blank-wordy : is_wordy 32 ≡ false
blank-wordy = refl

pub blank_is_no_symbol : is_symbol 32 ≡ false
unfolding class
blank_is_no_symbol = refl

pub symbol_both : (b : ℕ) → is_symbol b ≡ true → writer.is_symbol b ≡ true
unfolding class
symbol_both b e = grind (arith, nat_tests)

pub no_symbol_both : (b : ℕ) → writer.is_symbol b ≡ false → is_symbol b ≡ false
unfolding class
no_symbol_both b e = grind (arith, nat_tests)

all_are_symbols : AreAll is_symbol (codes "+-*/\\^<>=~:.?@#&$")
unfolding class
all_are_symbols = (refl, (refl, (refl, (refl, (refl, (refl, (refl, (refl, (refl, (refl, (refl, (refl, (refl, (refl, (refl, (refl, (refl, tt)))))))))))))))))

this_or : (x : Bool) (b c : ℕ) (y : Bool) → c == b ≡ x → is_symbol c ≡ true → (y ≡ true → is_symbol b ≡ true) → ((c == b) || y) ≡ true → is_symbol b ≡ true
this_or true b c y f h rest e = ap is_symbol (sym (eqb-true c b f)) ∙ h
this_or false b c y f h rest e = rest (ap (λ z. z || y) (sym f) ∙ e)

one_of_these : (b : ℕ) (cs : List ℕ) → AreAll is_symbol cs → list_any (λ s. s == b) cs ≡ true → is_symbol b ≡ true
one_of_these b [] h e = absurd (true≢false (sym e))
one_of_these b (c ∷ cs) h e = this_or (c == b) b c (list_any (λ s. s == b) cs) refl h.0 (one_of_these b cs h.1) e

pub symbol-symbol : (b : ℕ) → writer.is_symbol b ≡ true → is_symbol b ≡ true
symbol-symbol b e = one_of_these b (codes "+-*/\\^<>=~:.?@#&$") all_are_symbols e

pub digit-word : (b : ℕ) → is_digit_of 10 b ≡ true → is_word b ≡ true
unfolding digit class
digit-word b e = grind (arith, nat_tests)

pub underscore : class 95 ≡ class 65
unfolding class
underscore = refl

pub solo_cut : class 33 ≡ class 33
solo_cut = refl

pub solo_semicolon : class 59 ≡ class 33
unfolding class
solo_semicolon = refl

pub mark_open : class 91 ≡ class 40
unfolding class
mark_open = refl

pub mark_close : class 93 ≡ class 40
unfolding class
mark_close = refl

pub mark_left : class 123 ≡ class 40
unfolding class
mark_left = refl

pub mark_right : class 125 ≡ class 40
unfolding class
mark_right = refl

pub mark_paren : class 40 ≡ class 40
unfolding class
mark_paren = refl

pub mark_unparen : class 41 ≡ class 40
unfolding class
mark_unparen = refl

pub mark_comma : class 44 ≡ class 40
unfolding class
mark_comma = refl

pub mark_bar : class 124 ≡ class 40
unfolding class
mark_bar = refl
