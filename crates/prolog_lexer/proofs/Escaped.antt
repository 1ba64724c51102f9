-- Escapes by cases are those of the function.
use Rattle.std.proofs.Common.{◌≡◌, ℕ, ◌+◌, ◌<◌, ◌≤◌, ◌==◌, ◌&&◌, ◌||◌, List, [], ◌∷◌, ◌++◌, take, drop, length, refl, sym, ap, subst, ◌∙◌, arith, Bool, true, false, append_assoc, length-append, Option, Some, None, nat_le, nat_lt, codes}
use Rattle.std.specs.List.{prefix_len}
use Rattle.std.proofs.lemmas.Bool.{leb-true, leb-false, eqb-true, eqb-false, ne_eqb, le-leb, lt-leb, or_parts}
use Rattle.std.proofs.lemmas.Bool.Decides.{nat_tests}
use Rattle.prolog_lexer.specs.Classes.{one_of}
use Rattle.prolog_lexer.specs.Digits.{digit, is_digit_of, value, value_from, at_most}
use Rattle.prolog_lexer.specs.Quotes as quotes
use Rattle.prolog_lexer.specs.Quotes.{begins_with, numeric, coded_by, by_letter}
use Rattle.prolog_lexer.specs.Escapes.{EndsRun, AreDigits, Letter, alert, backspace, tab, new_line, vertical_tab, form_feed, return, backslash, single_quote, double_quote, back_quote, Mark, octal, hexadecimal, Escape, letter, number, goes_on_escape, BadEscape, cut_off, unknown, no_digit, not_closed, too_large}
use Rattle.prolog_lexer.proofs.Skips.{newlines, newlines-cons}
use Rattle.prolog_lexer.proofs.Runs.{prefix_len-run, take-run, drop-run, digits_all, digit_line, newlines-run, newlines-append, run_of}
use Rattle.prolog_lexer.specs.declared.quote.Bit.TheVariants.{Broken, Stands, Skips}

-- ---- by cases, then by the function

letter_is : {b v : ℕ} → Letter b v → quotes.letter b ≡ Some v
unfolding quotes.letter
letter_is alert = refl
letter_is backspace = refl
letter_is tab = refl
letter_is new_line = refl
letter_is vertical_tab = refl
letter_is form_feed = refl
letter_is return = refl
letter_is backslash = refl
letter_is single_quote = refl
letter_is double_quote = refl
letter_is back_quote = refl

letter_line : {b v : ℕ} → Letter b v → (b == 10) ≡ false
letter_line alert = refl
letter_line backspace = refl
letter_line tab = refl
letter_line new_line = refl
letter_line vertical_tab = refl
letter_line form_feed = refl
letter_line return = refl
letter_line backslash = refl
letter_line single_quote = refl
letter_line double_quote = refl
letter_line back_quote = refl

octal_least : (b : ℕ) → is_digit_of 8 b ≡ true → 48 ≤ b
unfolding digit
octal_least b e = grind (arith, nat_tests)

octal_most : (b : ℕ) → is_digit_of 8 b ≡ true → b ≤ 55
unfolding digit
octal_most b e = grind (arith, nat_tests)

octal_range : (b : ℕ) → is_digit_of 8 b ≡ true → (48 ≤ b) × (b ≤ 55)
octal_range b e = (octal_least b e, octal_most b e)

no_octal : (b : ℕ) → b == 48 ≡ false → b == 49 ≡ false → b == 50 ≡ false → b == 51 ≡ false → b == 52 ≡ false → b == 53 ≡ false → b == 54 ≡ false → b == 55 ≡ false
    → is_digit_of 8 b ≡ false
no_octal b h0 h1 h2 h3 h4 h5 h6 h7 = elim (is_digit_of 8 b) as (λ v. is_digit_of 8 b ≡ v → v ≡ false) [
  | true ↦ λ e.
      let r : (48 ≤ b) × (b ≤ 55) = octal_range b e in
      let n0 = eqb-false b 48 h0 in let n1 = eqb-false b 49 h1 in let n2 = eqb-false b 50 h2 in let n3 = eqb-false b 51 h3 in
      let n4 = eqb-false b 52 h4 in let n5 = eqb-false b 53 h5 in let n6 = eqb-false b 54 h6 in let n7 = eqb-false b 55 h7 in
      absurd (omega arith)
  | false ↦ λ e. refl
] refl

octal_no_letter : (b : ℕ) → is_digit_of 8 b ≡ true → quotes.letter b ≡ None
unfolding quotes.letter
octal_no_letter b e =
    let l = octal_least b e in
    let m = octal_most b e in
    let h1 : (b == 97) ≡ false = ne_eqb b 97 (λ f. omega arith) in
    let h2 : (b == 98) ≡ false = ne_eqb b 98 (λ f. omega arith) in
    let h3 : (b == 116) ≡ false = ne_eqb b 116 (λ f. omega arith) in
    let h4 : (b == 110) ≡ false = ne_eqb b 110 (λ f. omega arith) in
    let h5 : (b == 118) ≡ false = ne_eqb b 118 (λ f. omega arith) in
    let h6 : (b == 102) ≡ false = ne_eqb b 102 (λ f. omega arith) in
    let h7 : (b == 114) ≡ false = ne_eqb b 114 (λ f. omega arith) in
    let h8 : (b == 92) ≡ false = ne_eqb b 92 (λ f. omega arith) in
    let h9 : (b == 39) ≡ false = ne_eqb b 39 (λ f. omega arith) in
    let ha : (b == 34) ≡ false = ne_eqb b 34 (λ f. omega arith) in
    let hb : (b == 96) ≡ false = ne_eqb b 96 (λ f. omega arith) in
    rw (h1, h2, h3, h4, h5, h6, h7, h8, h9, ha, hb) refl

octal_escape : (b : ℕ) (bs : List ℕ) → is_digit_of 8 b ≡ true → quotes.escape (b ∷ bs) ≡ coded_by 8 0 (b ∷ bs)
unfolding quotes.escape
octal_escape b bs e =
    let l = octal_least b e in
    let m = octal_most b e in
    let h1 : (b == 10) ≡ false = ne_eqb b 10 (λ f. omega arith) in
    let h2 : (b == 120) ≡ false = ne_eqb b 120 (λ f. omega arith) in
    rw (octal_no_letter b e, h1, h2, e) refl

hexadecimal_escape : (bs : List ℕ) → quotes.escape (120 ∷ bs) ≡ coded_by 16 1 bs
unfolding quotes.escape quotes.letter
hexadecimal_escape bs = refl

pub continuation_escape : (bs : List ℕ) → quotes.escape (10 ∷ bs) ≡ Skips 1
unfolding quotes.escape quotes.letter
continuation_escape bs = refl

pub some_digits : (base : ℕ) (digits : List ℕ) → AreDigits base digits → nat_lt 0 (length digits) ≡ true
some_digits base [] h = absurd h
some_digits base (d ∷ ds) h = grind (arith, nat_tests)

coded_is : (base before : ℕ) (digits rest : List ℕ) → AreDigits base digits → EndsRun (is_digit_of base) rest
    → coded_by base before (digits ++ rest) ≡ numeric (at_most 255 (value base digits)) (before + length digits + 1) (begins_with 92 rest)
unfolding coded_by
coded_is base before digits rest h k =
    let n : prefix_len (is_digit_of base) (digits ++ rest) ≡ length digits = prefix_len-run (is_digit_of base) digits rest (digits_all base digits h) k in
    ap (λ m. numeric (at_most 255 (value_from base 0 (take m (digits ++ rest)))) (before + m + 1) (nat_lt 0 m && begins_with 92 (drop m (digits ++ rest)))) n
    ∙ ap (λ l. numeric (at_most 255 (value_from base 0 l)) (before + length digits + 1) (nat_lt 0 (length digits) && begins_with 92 (drop (length digits) (digits ++ rest)))) (take-run digits rest)
    ∙ ap (λ l. numeric (at_most 255 (value base digits)) (before + length digits + 1) (nat_lt 0 (length digits) && begins_with 92 l)) (drop-run digits rest)
    ∙ ap (λ t. numeric (at_most 255 (value base digits)) (before + length digits + 1) (t && begins_with 92 rest)) (some_digits base digits h)

coded_none : (base before : ℕ) (rest : List ℕ) → EndsRun (is_digit_of base) rest → coded_by base before rest ≡ Broken 3
unfolding coded_by
coded_none base before rest k =
    let n : prefix_len (is_digit_of base) rest ≡ 0 = prefix_len-run (is_digit_of base) [] rest tt k in
    rw n refl

numeric_open : (x : Option ℕ) (n : ℕ) → numeric x n false ≡ Broken 3
numeric_open None n = refl
numeric_open (Some v) n = refl

pub at_most-some : (most n : ℕ) → n ≤ most → at_most most n ≡ Some n
at_most-some most n h = rw (le-leb n most h) refl

pub at_most-none : (most n : ℕ) → most < n → at_most most n ≡ None
at_most-none most n h = rw (lt-leb n most h) refl

no_backslash : {mark : List ℕ} {base : ℕ} (rest : List ℕ) → Mark mark base → EndsRun (is_digit_of base) (92 ∷ rest)
unfolding digit
no_backslash rest octal = refl
no_backslash rest hexadecimal = refl

-- how many bytes the mark of an escape has
mark_escape : {mark : List ℕ} {base : ℕ} (digits rest : List ℕ) → Mark mark base → AreDigits base digits → EndsRun (is_digit_of base) rest
    → quotes.escape (mark ++ (digits ++ rest)) ≡ numeric (at_most 255 (value base digits)) (length mark + length digits + 1) (begins_with 92 rest)
mark_escape [] rest octal h k = absurd h
mark_escape [] rest hexadecimal h k = absurd h
mark_escape (d ∷ ds) rest octal h k = octal_escape d (ds ++ rest) h.0 ∙ coded_is 8 0 (d ∷ ds) rest h k
mark_escape (d ∷ ds) rest hexadecimal h k = hexadecimal_escape (d ∷ (ds ++ rest)) ∙ coded_is 16 1 (d ∷ ds) rest h k

pub escape_is : {spelling : List ℕ} {v : ℕ} (rest : List ℕ) → Escape spelling v → quotes.escape (spelling ++ rest) ≡ Stands v (length spelling)
unfolding quotes.escape
escape_is rest (letter b l) = rw (letter_is l) refl
escape_is rest (number {base = base} mark digits m h few) =
    let e : (mark ++ (digits ++ 92 ∷ [])) ++ rest ≡ mark ++ (digits ++ 92 ∷ rest) = simp append_assoc in
    let n : length mark + length digits + 1 ≡ length (mark ++ (digits ++ 92 ∷ [])) = simp length-append (omega arith) in
    ap quotes.escape e
    ∙ mark_escape digits (92 ∷ rest) m h (no_backslash rest m)
    ∙ ap (λ x. numeric x (length mark + length digits + 1) true) (at_most-some 255 (value base digits) few)
    ∙ ap (λ k. Stands (value base digits) k) n

pub escape_line : {spelling : List ℕ} {v : ℕ} → Escape spelling v → newlines spelling ≡ 0
escape_line (letter b l) = newlines-cons b [] ∙ rw (letter_line l) refl
escape_line (number mark digits octal h few) = newlines-append digits (92 ∷ []) ∙ rw (newlines-run (is_digit_of 8) digits (digit_line 8 (omega arith)) (digits_all 8 digits h)) refl
escape_line (number mark digits hexadecimal h few) =
    newlines-cons 120 (digits ++ 92 ∷ []) ∙ rw (newlines-append digits (92 ∷ []), newlines-run (is_digit_of 16) digits (digit_line 16 (omega arith)) (digits_all 16 digits h)) refl

-- ---- bytes that are none of some

NoneOf : List ℕ → ℕ → Type 0
NoneOf [] b = Unit {0}
NoneOf (x ∷ xs) b = (b == x ≡ false) × NoneOf xs b

none_of : (xs : List ℕ) (b : ℕ) → one_of xs b ≡ false → NoneOf xs b
unfolding NoneOf
none_of [] b e = tt
none_of (x ∷ xs) b e = let p = or_parts (b == x) (one_of xs b) e in (p.0, none_of xs b p.1)

AllOf : List ℕ → (ℕ → Type 0) → Type 0
AllOf [] P = Unit {0}
AllOf (x ∷ xs) P = P x × AllOf xs P

by_one : (xs : List ℕ) (P : ℕ → Type 0) (b : ℕ) → one_of xs b ≡ true → AllOf xs P → P b
unfolding AllOf
by_one [] P b e h = cc
by_one (x ∷ xs) P b e h = elim (b == x) as (λ v. b == x ≡ v → v || one_of xs b ≡ true → P b)
    [ true ↦ λ f g. subst P (sym (eqb-true b x f)) h.0 | false ↦ λ f g. by_one xs P b g h.1 ] refl e

-- ---- bad escapes

no_escape : (b : ℕ) (bs : List ℕ) → NoneOf (codes "abtnvfr\\'\"`x01234567\n") b → quotes.escape (b ∷ bs) ≡ Broken 3
unfolding NoneOf quotes.escape quotes.letter
no_escape b bs (ha, (hb, (ht, (hn, (hv, (hf, (hr, (h92, (h39, (h34, (h96, (hx, (h0, (h1, (h2, (h3, (h4, (h5, (h6, (h7, (h10, u))))))))))))))))))))) =
    let o : is_digit_of 8 b ≡ false = no_octal b h0 h1 h2 h3 h4 h5 h6 h7 in
    rw (ha, hb, ht, hn, hv, hf, hr, h92, h39, h34, h96, h10, hx, o) refl

pub bad_escape_is : {rest : List ℕ} → BadEscape rest → quotes.escape rest ≡ Broken 3
unfolding quotes.escape
bad_escape_is cut_off = refl
bad_escape_is (unknown {rest = rest} b e) = no_escape b rest (none_of (codes "abtnvfr\\'\"`x01234567\n") b e)
bad_escape_is (no_digit rest e) = hexadecimal_escape rest ∙ coded_none 16 1 rest e
bad_escape_is (not_closed {base = base} mark digits rest m h k e) =
    mark_escape digits rest m h k
    ∙ ap (numeric (at_most 255 (value base digits)) (length mark + length digits + 1)) e
    ∙ numeric_open (at_most 255 (value base digits)) (length mark + length digits + 1)
bad_escape_is (too_large {base = base} mark digits rest m h big) =
    mark_escape digits (92 ∷ rest) m h (no_backslash rest m)
    ∙ ap (λ x. numeric x (length mark + length digits + 1) true) (at_most-none 255 (value base digits) big)

-- ---- each text has one of these after a \

pub data After : List ℕ → Type 0 where
  stands : {v : ℕ} (spelling rest : List ℕ) → Escape spelling v → After (spelling ++ rest)
  ends : (rest : List ℕ) → After (10 ∷ rest)
  bad : (bytes : List ℕ) → BadEscape bytes → After bytes

after_digits : {mark : List ℕ} {base : ℕ} (digits : List ℕ) → Mark mark base → AreDigits base digits → (rest : List ℕ) → EndsRun (is_digit_of base) rest
    → (t : Bool) → begins_with 92 rest ≡ t → After (mark ++ (digits ++ rest))
after_digits {mark = mark} digits m h rest k false e = bad (mark ++ (digits ++ rest)) (not_closed mark digits rest m h k e)
after_digits digits m h [] k true e = cc
after_digits {mark = mark} {base = base} digits m h (b ∷ rest) k true e =
    subst (λ x. After (mark ++ (digits ++ x ∷ rest))) (sym (eqb-true b 92 e))
    (elim (nat_le (value base digits) 255) as (λ v. nat_le (value base digits) 255 ≡ v → After (mark ++ (digits ++ 92 ∷ rest))) [
      | true ↦ λ f.
          let a : (mark ++ (digits ++ 92 ∷ [])) ++ rest ≡ mark ++ (digits ++ 92 ∷ rest) = simp append_assoc in
          subst After a (stands (mark ++ (digits ++ 92 ∷ [])) rest (number mark digits m h (leb-true _ _ f)))
      | false ↦ λ f. bad (mark ++ (digits ++ 92 ∷ rest)) (too_large mark digits rest m h (leb-false _ _ f))
    ] refl)

after_mark : {mark : List ℕ} {base : ℕ} (m : Mark mark base) (d : ℕ) (ds : List ℕ) → is_digit_of base d ≡ true → After (mark ++ (d ∷ ds))
after_mark {mark = mark} {base = base} m d ds e =
    let r = run_of (is_digit_of base) ds in
    subst (λ l. After (mark ++ (d ∷ l))) r.all (after_digits (d ∷ r.word) m (e, r.are) r.rest r.ends (begins_with 92 r.rest) refl)

after_hexadecimal : (bs : List ℕ) → After (120 ∷ bs)
after_hexadecimal [] = bad (120 ∷ []) (no_digit [] tt)
after_hexadecimal (d ∷ ds) = elim (is_digit_of 16 d) as (λ v. is_digit_of 16 d ≡ v → After (120 ∷ d ∷ ds))
    [ true ↦ λ e. after_mark hexadecimal d ds e | false ↦ λ e. bad (120 ∷ d ∷ ds) (no_digit (d ∷ ds) e) ] refl

after_letter : {b v : ℕ} (bs : List ℕ) → Letter b v → After (b ∷ bs)
after_letter {b = b} bs l = stands (b ∷ []) bs (letter b l)

after_octal : (d : ℕ) (bs : List ℕ) → is_digit_of 8 d ≡ true → After (d ∷ bs)
after_octal d bs e = after_mark octal d bs e

after_each : (bs : List ℕ) → AllOf (codes "abtnvfr\\'\"`x01234567\n") (λ b. After (b ∷ bs))
unfolding AllOf digit
after_each bs = (
  after_letter bs alert,
  (
    after_letter bs backspace,
    (
      after_letter bs tab,
      (
        after_letter bs new_line,
        (
          after_letter bs vertical_tab,
          (
            after_letter bs form_feed,
            (
              after_letter bs return,
              (
                after_letter bs backslash,
                (
                  after_letter bs single_quote,
                  (
                    after_letter bs double_quote,
                    (
                      after_letter bs back_quote,
                      (
                        after_hexadecimal bs,
                        (
                          after_octal 48 bs refl,
                          (
                            after_octal 49 bs refl,
                            (
                              after_octal 50 bs refl,
                              (
                                after_octal 51 bs refl,
                                (
                                  after_octal 52 bs refl,
                                  (
                                    after_octal 53 bs refl,
                                    (
                                      after_octal 54 bs refl,
                                      (
                                        after_octal 55 bs refl,
                                        (ends bs, tt),
                                      ),
                                    ),
                                  ),
                                ),
                              ),
                            ),
                          ),
                        ),
                      ),
                    ),
                  ),
                ),
              ),
            ),
          ),
        ),
      ),
    ),
  ),
)

pub after : (bytes : List ℕ) → After bytes
after [] = bad [] cut_off
after (b ∷ bs) = elim (goes_on_escape b) as (λ v. goes_on_escape b ≡ v → After (b ∷ bs))
    [ true ↦ λ e. by_one (codes "abtnvfr\\'\"`x01234567\n") (λ x. After (x ∷ bs)) b e (after_each bs) | false ↦ λ e. bad (b ∷ bs) (unknown b e) ] refl
