-- What stands between quotes by cases is what the function finds there.
use Rattle.std.proofs.Common.{◌≡◌, ◌≢◌, ℕ, zero, suc, ◌+◌, ◌≤◌, ◌==◌, List, [], ◌∷◌, ◌++◌, length, refl, sym, ap, subst, ◌∙◌, arith, cond, Bool, true, false, append_assoc, length-append}
use Rattle.std.proofs.lemmas.Bool.{eqb-true, eqb-false, ne_eqb, eq-eqb}
use Rattle.prolog_lexer.specs.Quotes as quotes
use Rattle.prolog_lexer.specs.Quotes.{begins_with, bit, skip_of, lead, with_bit, inside}
use Rattle.prolog_lexer.specs.Escapes.{BadEscape, Inside, nothing, itself, twice, escaped, continued}
use Rattle.prolog_lexer.specs.Tokens.{ends_line}
use Rattle.prolog_lexer.proofs.Insides.{lead-none, lead-lead, skip}
use Rattle.prolog_lexer.proofs.Runs.{drop-run}
use Rattle.prolog_lexer.proofs.Escaped.{escape_is, bad_escape_is, continuation_escape, After, stands, ends, bad, after}
use Rattle.prolog_lexer.specs.declared.quote.Bit.{Bit}
use Rattle.prolog_lexer.specs.declared.quote.Bit.TheVariants.{Closed, Broken, Stands, Skips}
use Rattle.prolog_lexer.specs.declared.quote.Contents.{Contents}
use Rattle.prolog_lexer.specs.declared.quote.Contents.TheVariants.{Text, Open}

-- a quote is another byte than \ and the end of a line
pub record IsQuote (q : ℕ) : Type 0 where
  pub no_line : q ≢ 10
  pub no_escape : q ≢ 92

module _ (q : ℕ) (is : IsQuote q) where
  line_bit : (q == 10) ≡ false
  line_bit = ne_eqb q 10 is.no_line

  backslash_bit : (bs : List ℕ) → bit q 92 bs ≡ quotes.escape bs
  unfolding bit
  backslash_bit bs = let e : (92 == q) ≡ false = ne_eqb 92 q (λ f. is.no_escape (sym f)) in rw e refl

  quote_bit : (bs : List ℕ) → bit q q bs ≡ cond (begins_with q bs) (Stands q 1) Closed
  unfolding bit
  quote_bit bs = let s : (q == q) ≡ true = eq-eqb q q refl in rw (line_bit, s) refl

  itself_bit : (b : ℕ) (bs : List ℕ) → b ≢ q → b ≢ 92 → b ≢ 10 → bit q b bs ≡ Stands b 0
  unfolding bit
  itself_bit b bs h k l = rw (ne_eqb b 10 l, ne_eqb b q h, ne_eqb b 92 k) refl

  by_bit : (b : ℕ) (bs : List ℕ) (x : Bit) → bit q b bs ≡ x → inside q 0 (b ∷ bs) ≡ with_bit x (inside q (skip_of x) bs)
  by_bit b bs x e = ap (λ y. with_bit y (inside q (skip_of y) bs)) e

  -- a bit that takes the bytes of its spelling, and what stands after it
  after_bit : (b v : ℕ) (spelling tail : List ℕ) → bit q b (spelling ++ tail) ≡ Stands v (length spelling) → inside q 0 (b ∷ (spelling ++ tail)) ≡ lead (v ∷ []) (1 + length spelling) (inside q 0 tail)
  after_bit b v spelling tail e =
      by_bit b (spelling ++ tail) (Stands v (length spelling)) e
      ∙ ap (lead (v ∷ []) 1) (skip q (length spelling) (spelling ++ tail) ∙ ap (λ l. lead [] (length spelling) (inside q 0 l)) (drop-run spelling tail))
      ∙ lead-lead (v ∷ []) [] 1 (length spelling) (inside q 0 tail)

  more : (v : ℕ) (meaning : List ℕ) (n m k : ℕ) (x z : Contents) → x ≡ lead meaning m z → n + m ≡ k → lead (v ∷ []) n x ≡ lead (v ∷ meaning) k z
  more v meaning n m k x z e f = ap (lead (v ∷ []) n) e ∙ lead-lead (v ∷ []) meaning n m z ∙ ap (λ i. lead (v ∷ meaning) i z) f

  pub inside_is : {bytes meaning : List ℕ} (tail : List ℕ) → Inside q bytes meaning → inside q 0 (bytes ++ tail) ≡ lead meaning (length bytes) (inside q 0 tail)
  inside_is tail nothing = sym (lead-none (inside q 0 tail))
  inside_is tail (itself {bytes = bytes} {meaning = meaning} b h k l i) =
      after_bit b b [] (bytes ++ tail) (itself_bit b (bytes ++ tail) h k l)
      ∙ more b meaning 1 (length bytes) (length (b ∷ bytes)) (inside q 0 (bytes ++ tail)) (inside q 0 tail) (inside_is tail i) (omega arith)
  inside_is tail (twice {bytes = bytes} {meaning = meaning} i) =
      let s : (q == q) ≡ true = eq-eqb q q refl in
      let e : bit q q (q ∷ (bytes ++ tail)) ≡ Stands q 1 = quote_bit (q ∷ (bytes ++ tail)) ∙ ap (λ t. cond t (Stands q 1) Closed) s in
      after_bit q q (q ∷ []) (bytes ++ tail) e
      ∙ more q meaning 2 (length bytes) (length (q ∷ q ∷ bytes)) (inside q 0 (bytes ++ tail)) (inside q 0 tail) (inside_is tail i) (omega arith)
  inside_is tail (escaped {v = v} {bytes = bytes} {meaning = meaning} spelling e i) =
      ap (λ l. inside q 0 (92 ∷ l)) (append_assoc spelling bytes tail)
      ∙ after_bit 92 v spelling (bytes ++ tail) (backslash_bit (spelling ++ (bytes ++ tail)) ∙ escape_is (bytes ++ tail) e)
      ∙ more v meaning (1 + length spelling) (length bytes) (length (92 ∷ (spelling ++ bytes))) (inside q 0 (bytes ++ tail)) (inside q 0 tail) (inside_is tail i)
      (omega (arith, length-append spelling bytes))
  inside_is tail (continued {bytes = bytes} {meaning = meaning} i) =
      let n : 2 + length bytes ≡ length (92 ∷ 10 ∷ bytes) = omega arith in
      by_bit 92 (10 ∷ (bytes ++ tail)) (Skips 1) (backslash_bit (10 ∷ (bytes ++ tail)) ∙ continuation_escape (bytes ++ tail))
      ∙ ap (λ x. lead [] 1 (lead [] 1 x)) (inside_is tail i)
      ∙ ap (lead [] 1) (lead-lead [] meaning 1 (length bytes) (inside q 0 tail))
      ∙ lead-lead [] meaning 1 (1 + length bytes) (inside q 0 tail)
      ∙ ap (λ k. lead meaning k (inside q 0 tail)) (let m : 1 + (1 + length bytes) ≡ length (92 ∷ 10 ∷ bytes) = omega arith in m)

  pub closes_is : (rest : List ℕ) → begins_with q rest ≡ false → inside q 0 (q ∷ rest) ≡ Text [] 1
  closes_is rest e = by_bit q rest Closed (quote_bit rest ∙ ap (λ t. cond t (Stands q 1) Closed) e)

  line_end : (b : ℕ) (bs : List ℕ) → b == 10 ≡ true → bit q b bs ≡ Broken 2
  unfolding bit
  line_end b bs e = rw e refl

  pub opens_is : (rest : List ℕ) → ends_line rest ≡ true → inside q 0 rest ≡ Open 2
  opens_is [] e = refl
  opens_is (b ∷ bs) e = by_bit b bs (Broken 2) (line_end b bs e)

  pub breaks_is : (rest : List ℕ) → BadEscape rest → inside q 0 (92 ∷ rest) ≡ Open 3
  breaks_is rest e = by_bit 92 rest (Broken 3) (backslash_bit rest ∙ bad_escape_is e)

-- ---- every text has one of these after a quote

pub data Ends (q : ℕ) : List ℕ → Type 0 where
  closes : (rest : List ℕ) → begins_with q rest ≡ false → Ends q (q ∷ rest)
  opens : (rest : List ℕ) → ends_line rest ≡ true → Ends q rest
  breaks : (rest : List ℕ) → BadEscape rest → Ends q (92 ∷ rest)

pub record Between (q : ℕ) (bs : List ℕ) : Type 0 where
  pub spelling : List ℕ
  pub meaning : List ℕ
  pub tail : List ℕ
  pub all : spelling ++ tail ≡ bs
  pub have : Inside q spelling meaning
  pub ends : Ends q tail

at_once : {q : ℕ} (bs : List ℕ) → Ends q bs → Between q bs
at_once bs e = record { spelling = []; meaning = []; tail = bs; all = refl; have = nothing; ends = e }

between_escape : (q n : ℕ) → ((bs : List ℕ) → length bs ≤ n → Between q bs) → {bs : List ℕ} → length bs ≤ n → After bs → Between q (92 ∷ bs)
between_escape q n later h (stands {v = v} spelling rest e) =
    let r = later rest (omega (arith, length-append spelling rest)) in
    record {
      spelling = 92 ∷ (spelling ++ r.spelling);
      meaning = v ∷ r.meaning;
      tail = r.tail;
      all = ap (λ l. 92 ∷ l) (append_assoc spelling r.spelling r.tail ∙ ap (λ l. spelling ++ l) r.all);
      have = escaped spelling e r.have;
      ends = r.ends;
    }
between_escape q n later h (ends rest) =
    let r = later rest (omega arith) in
    record { spelling = 92 ∷ 10 ∷ r.spelling; meaning = r.meaning; tail = r.tail; all = ap (λ l. 92 ∷ 10 ∷ l) r.all; have = continued r.have; ends = r.ends }
between_escape q n later h (bad bytes e) = at_once (92 ∷ bytes) (breaks bytes e)

between_quote : (q n : ℕ) → ((bs : List ℕ) → length bs ≤ n → Between q bs) → (bs : List ℕ) → length bs ≤ n → (t : Bool) → begins_with q bs ≡ t → Between q (q ∷ bs)
between_quote q n later bs h false e = at_once (q ∷ bs) (closes bs e)
between_quote q n later [] h true e = cc
between_quote q n later (b ∷ bs) h true e =
    let r = later bs (omega arith) in
    subst (λ x. Between q (q ∷ x ∷ bs)) (sym (eqb-true b q e))
    (record { spelling = q ∷ q ∷ r.spelling; meaning = q ∷ r.meaning; tail = r.tail; all = ap (λ l. q ∷ q ∷ l) r.all; have = twice r.have; ends = r.ends })

pub between_of : (q n : ℕ) (bs : List ℕ) → length bs ≤ n → Between q bs
between_of q n [] h = at_once [] (opens [] refl)
between_of q zero (b ∷ bs) h = absurd (omega arith)
between_of q (suc n) (b ∷ bs) h =
    let few : length bs ≤ n = omega arith in
    elim (b == 10) as (λ v. b == 10 ≡ v → Between q (b ∷ bs)) [
      | true ↦ λ e. at_once (b ∷ bs) (opens (b ∷ bs) e)
      | false ↦ λ e. elim (b == q) as (λ v. b == q ≡ v → Between q (b ∷ bs)) [
        | true ↦ λ f. subst (λ x. Between q (x ∷ bs)) (sym (eqb-true b q f)) (between_quote q n (between_of q n) bs few (begins_with q bs) refl)
        | false ↦ λ f. elim (b == 92) as (λ v. b == 92 ≡ v → Between q (b ∷ bs)) [
          | true ↦ λ g. subst (λ x. Between q (x ∷ bs)) (sym (eqb-true b 92 g)) (between_escape q n (between_of q n) few (after bs))
          | false ↦ λ g.
              let r = between_of q n bs few in
              record {
                spelling = b ∷ r.spelling;
                meaning = b ∷ r.meaning;
                tail = r.tail;
                all = ap (λ l. b ∷ l) r.all;
                have = itself b (eqb-false b q f) (eqb-false b 92 g) (eqb-false b 10 e) r.have;
                ends = r.ends;
              }
        ] refl
      ] refl
    ] refl
