-- Runs of bytes of one kind at the front of a text.
use Rattle.std.proofs.Common.{◌≡◌, ℕ, ◌+◌, ◌≤◌, ◌==◌, List, [], ◌∷◌, ◌++◌, length, take, drop, Bool, true, false, cond, not, refl, sym, ap, subst, ◌∙◌, arith}
use Rattle.std.specs.List.{prefix_len}
use Rattle.std.proofs.lemmas.Bool.{eqb-true, ltb-true}
use Rattle.std.proofs.lemmas.Bool.Decides.{nat_tests}
use Rattle.std.proofs.lemmas.List.Sums.{sum_by-cons, sum_by-append}
use Rattle.prolog_lexer.specs.Classes.{class, is_word, is_symbol, word_class, symbol_class, layout_class, in_line}
use Rattle.prolog_lexer.specs.Digits.{digit, is_digit_of}
use Rattle.prolog_lexer.specs.Streams.{line_after}
use Rattle.prolog_lexer.specs.Escapes.{AreAll, EndsRun, AreDigits}
use Rattle.prolog_lexer.proofs.Skips.{newlines}
use Rattle.prolog_lexer.specs.declared.class.Class.{Class}
use Rattle.prolog_lexer.specs.declared.class.Class.TheVariants.{Layout, Small, Capital, Digit, Symbol, Solo, Punctuation, Percent, Quote, DoubleQuote, Foreign}

pub prefix_len-run : (p : ℕ → Bool) (word rest : List ℕ) → AreAll p word → EndsRun p rest → prefix_len p (word ++ rest) ≡ length word
prefix_len-run p [] [] h k = refl
prefix_len-run p [] (b ∷ bs) h k = rw k refl
prefix_len-run p (x ∷ word) rest h k = rw h.0 (omega (arith, prefix_len-run p word rest h.1 k))

pub take-run : (word rest : List ℕ) → take (length word) (word ++ rest) ≡ word
take-run [] rest = refl
take-run (x ∷ word) rest = ap (λ l. x ∷ l) (take-run word rest)

pub drop-run : (word rest : List ℕ) → drop (length word) (word ++ rest) ≡ rest
drop-run [] rest = refl
drop-run (x ∷ word) rest = drop-run word rest

pub digits_all : (base : ℕ) (digits : List ℕ) → AreDigits base digits → AreAll (is_digit_of base) digits
digits_all base [] h = absurd h
digits_all base (d ∷ ds) h = h

-- ---- ends of lines

class_ten : class 10 ≡ Layout
unfolding class
class_ten = refl

pub no_line_end : (b : ℕ) (k : Class) → class b ≡ k → (k ≡ Layout → ⊥) → (b == 10) ≡ false
no_line_end b k e h = elim (b == 10) as (λ v. (b == 10) ≡ v → v ≡ false) [
  | true ↦ λ f. let g : b ≡ 10 = eqb-true b 10 f in absurd (h (sym e ∙ ap class g ∙ class_ten))
  | false ↦ λ f. refl
] refl

pub same_line : (b line : ℕ) (k : Class) → class b ≡ k → (k ≡ Layout → ⊥) → line_after b line ≡ line
same_line b line k e h = rw (no_line_end b k e h) (omega arith)

word_in_line : (k : Class) → word_class k ≡ true → k ≡ Layout → ⊥
word_in_line k e h = let f : word_class Layout ≡ true = subst (λ x. word_class x ≡ true) h e in cc

symbol_in_line : (k : Class) → symbol_class k ≡ true → k ≡ Layout → ⊥
symbol_in_line k e h = let f : symbol_class Layout ≡ true = subst (λ x. symbol_class x ≡ true) h e in cc

pub word_line : (b : ℕ) → is_word b ≡ true → (b == 10) ≡ false
word_line b e = no_line_end b (class b) refl (word_in_line (class b) e)

pub symbol_line : (b : ℕ) → is_symbol b ≡ true → (b == 10) ≡ false
symbol_line b e = no_line_end b (class b) refl (symbol_in_line (class b) e)

digit_ten : digit 10 ≡ 16
unfolding digit
digit_ten = refl

pub digit_line : (base : ℕ) → base ≤ 16 → (b : ℕ) → is_digit_of base b ≡ true → (b == 10) ≡ false
digit_line base h b e = elim (b == 10) as (λ v. (b == 10) ≡ v → v ≡ false) [
  | true ↦ λ f. let g : digit b ≡ 16 = ap digit (eqb-true b 10 f) ∙ digit_ten in let l = ltb-true (digit b) base e in absurd (omega arith)
  | false ↦ λ f. refl
] refl

pub in_line_line : (b : ℕ) → in_line b ≡ true → (b == 10) ≡ false
in_line_line b e = elim (b == 10) as (λ v. (b == 10) ≡ v → not v ≡ true → v ≡ false) [ true ↦ λ f g. cc | false ↦ λ f g. refl ] refl e

pub newlines-append : (a b : List ℕ) → newlines (a ++ b) ≡ newlines a + newlines b
newlines-append a b = sum_by-append (λ x. cond (x == 10) 1 0) a b

pub newlines-run : (p : ℕ → Bool) (word : List ℕ) → ((b : ℕ) → p b ≡ true → (b == 10) ≡ false) → AreAll p word → newlines word ≡ 0
newlines-run p [] lines h = refl
newlines-run p (b ∷ word) lines h = sum_by-cons (λ x. cond (x == 10) 1 0) b word ∙ rw (lines b h.0, newlines-run p word lines h.1) refl

-- ---- a text splits at the end of a run

pub record Run (p : ℕ → Bool) (bs : List ℕ) : Type 0 where
  pub word : List ℕ
  pub rest : List ℕ
  pub all : word ++ rest ≡ bs
  pub are : AreAll p word
  pub ends : EndsRun p rest
  pub few : length rest ≤ length bs

pub run_of : (p : ℕ → Bool) (bs : List ℕ) → Run p bs
run_of p [] = record { word = []; rest = []; all = refl; are = tt; ends = tt; few = omega arith }
run_of p (b ∷ bs) = elim (p b) as (λ v. p b ≡ v → Run p (b ∷ bs)) [
  | true ↦ λ e. let r = run_of p bs in record { word = b ∷ r.word; rest = r.rest; all = ap (λ l. b ∷ l) r.all; are = (e, r.are); ends = r.ends; few = omega (arith, r.few) }
  | false ↦ λ e. record { word = []; rest = b ∷ bs; all = refl; are = tt; ends = e; few = omega arith }
] refl

-- ---- what a class says of a byte

symbol_class_is : (k : Class) → symbol_class k ≡ true → k ≡ Symbol
symbol_class_is Symbol e = refl
symbol_class_is Layout e = cc
symbol_class_is Small e = cc
symbol_class_is Capital e = cc
symbol_class_is Digit e = cc
symbol_class_is Solo e = cc
symbol_class_is Punctuation e = cc
symbol_class_is Percent e = cc
symbol_class_is Quote e = cc
symbol_class_is DoubleQuote e = cc
symbol_class_is Foreign e = cc

pub symbol_is : (b : ℕ) → is_symbol b ≡ true → class b ≡ Symbol
symbol_is b e = symbol_class_is (class b) e

pub layout_no_symbol : (k : Class) → layout_class k ≡ true → symbol_class k ≡ false
layout_no_symbol Layout e = refl
layout_no_symbol Symbol e = cc
layout_no_symbol Small e = cc
layout_no_symbol Capital e = cc
layout_no_symbol Digit e = cc
layout_no_symbol Solo e = cc
layout_no_symbol Punctuation e = cc
layout_no_symbol Percent e = cc
layout_no_symbol Quote e = cc
layout_no_symbol DoubleQuote e = cc
layout_no_symbol Foreign e = cc

pub percent_is : (b : ℕ) → class b ≡ Percent → b ≡ 37
unfolding class
percent_is b e = grind (arith, nat_tests)

pub quote_is : (b : ℕ) → class b ≡ Quote → b ≡ 39
unfolding class
quote_is b e = grind (arith, nat_tests)

pub double_quote_is : (b : ℕ) → class b ≡ DoubleQuote → b ≡ 34
unfolding class
double_quote_is b e = grind (arith, nat_tests)

pub digit_class : (b : ℕ) → is_digit_of 10 b ≡ true → class b ≡ Digit
unfolding class digit
digit_class b e = grind (arith, nat_tests)
