-- Bytes inside quotes, one bit at a time.
use Rattle.std.proofs.Common.{◌≡◌, ℕ, zero, suc, ◌+◌, ◌-◌, ◌*◌, ◌<◌, ◌≤◌, ◌⊎◌, inl, inr, List, [], ◌∷◌, ◌++◌, take, drop, length, get_or, refl, sym, ap, ◌∙◌, arith, cond, Bool, true, false, append_assoc, append-nil, Some, None, nat_le}
use Rattle.std.proofs.lemmas.Bool.{leb-true}
use Rattle.std.proofs.lemmas.Bool.Decides.{nat_tests}
use Rattle.std.proofs.lemmas.List.{drop_more, drop-drop, drop_all, take_rest}
use Rattle.prolog_lexer.specs.Quotes.{bit, skip_of, with_bit, lead, inside}
use Rattle.prolog_lexer.specs.Digits.{value_from, at_most, digit}
use Rattle.prolog_lexer.specs.declared.quote.Bit.TheVariants.{Stands, Skips}
use Rattle.prolog_lexer.specs.declared.quote.Contents.{Contents}
use Rattle.prolog_lexer.specs.declared.quote.Contents.TheVariants.{Text, Open}

pub lead-none : (x : Contents) → lead [] 0 x ≡ x
lead-none (Text ys n) = let e : 0 + n ≡ n = omega arith in ap (Text ys) e
lead-none (Open f) = refl

pub lead-lead : (xs ys : List ℕ) (i j : ℕ) (x : Contents) → lead xs i (lead ys j x) ≡ lead (xs ++ ys) (i + j) x
lead-lead xs ys i j (Text zs n) =
    let e : i + (j + n) ≡ i + j + n = omega arith in
    ap (λ k. Text (xs ++ (ys ++ zs)) k) e ∙ ap (λ l. Text l (i + j + n)) (sym (append_assoc xs ys zs))
lead-lead xs ys i j (Open f) = refl

pub skip : (q k : ℕ) (bs : List ℕ) → inside q k bs ≡ lead [] k (inside q 0 (drop k bs))
skip q zero [] = refl
skip q (suc k) [] = refl
skip q zero (b ∷ bs) = sym (lead-none (inside q 0 (b ∷ bs)))
skip q (suc k) (b ∷ bs) =
    let e : 1 + k ≡ suc k = omega arith in
    ap (lead [] 1) (skip q k bs) ∙ lead-lead [] [] 1 k (inside q 0 (drop k bs)) ∙ ap (λ n. lead [] n (inside q 0 (drop k bs))) e

count_free : (xs : List ℕ) (i j : ℕ) (x : Contents) → (x ≡ Open 2) ⊎ (i ≡ j) → lead xs i x ≡ lead xs j x
count_free xs i j x (inl e) = rw e refl
count_free xs i j x (inr e) = ap (λ k. lead xs k x) e

within_or : (n len : ℕ) → (len ≤ n) ⊎ (n ≤ len)
within_or n len = elim (nat_le n len) as (λ v. nat_le n len ≡ v → (len ≤ n) ⊎ (n ≤ len)) [ true ↦ λ e. inr (leb-true n len e) | false ↦ λ e. let f : len ≤ n = grind (arith, nat_tests) in inl f ] refl

at_place : (q : ℕ) (text : List ℕ) (n p : ℕ) → drop p text ≡ drop n text → (n ≤ length text → p ≡ n) → (inside q 0 (drop p text) ≡ Open 2) ⊎ (p ≡ n)
at_place q text n p e h = elim (within_or n (length text)) as (λ _. (inside q 0 (drop p text) ≡ Open 2) ⊎ (p ≡ n))
    [ inl l ↦ inl (ap (inside q 0) (e ∙ drop_all n text l)) | inr l ↦ inr (h l) ]

cons_at : (q : ℕ) (text : List ℕ) (at : ℕ) → at < length text
    → inside q 0 (drop at text) ≡ with_bit (bit q (get_or text at 0) (drop (at + 1) text)) (inside q (skip_of (bit q (get_or text at 0) (drop (at + 1) text))) (drop (at + 1) text))
cons_at q text at h = ap (inside q 0) (drop_more text at 0 h)

module _ (q : ℕ) (text out : List ℕ) (at k p : ℕ) (h : at < length text) (rest : drop p text ≡ drop (at + 1 + k) text) (place : at + 1 + k ≤ length text → p ≡ at + 1 + k) where
  after_lead : (xs : List ℕ) → lead out at (lead xs 1 (inside q k (drop (at + 1) text))) ≡ lead (out ++ xs) p (inside q 0 (drop p text))
  after_lead xs =
      let z = inside q 0 (drop p text) in
      let e : inside q 0 (drop k (drop (at + 1) text)) ≡ z = ap (inside q 0) (drop-drop k (at + 1) text ∙ sym rest) in
      let s : inside q k (drop (at + 1) text) ≡ lead [] k z = skip q k (drop (at + 1) text) ∙ ap (lead [] k) e in
      let n : at + (1 + k) ≡ at + 1 + k = omega arith in
      ap (λ x. lead out at (lead xs 1 x)) s
      ∙ ap (lead out at) (lead-lead xs [] 1 k z)
      ∙ lead-lead out (xs ++ []) at (1 + k) z
      ∙ ap (λ l. lead l (at + (1 + k)) z) (sym (append_assoc out xs []) ∙ append-nil (out ++ xs))
      ∙ ap (λ i. lead (out ++ xs) i z) n
      ∙ sym (count_free (out ++ xs) p (at + 1 + k) z (at_place q text (at + 1 + k) p rest place))

  pub stands : (b : ℕ) → bit q (get_or text at 0) (take (length text - (at + 1)) (drop (at + 1) text)) ≡ Stands b k
      → lead (out ++ b ∷ []) p (inside q 0 (drop p text)) ≡ lead out at (inside q 0 (drop at text))
  stands b e =
      let f : bit q (get_or text at 0) (drop (at + 1) text) ≡ Stands b k = ap (bit q (get_or text at 0)) (sym (take_rest text (at + 1))) ∙ e in
      sym (ap (lead out at) (cons_at q text at h ∙ ap (λ x. with_bit x (inside q (skip_of x) (drop (at + 1) text))) f) ∙ after_lead (b ∷ []))

  pub skips : bit q (get_or text at 0) (take (length text - (at + 1)) (drop (at + 1) text)) ≡ Skips k
      → lead out p (inside q 0 (drop p text)) ≡ lead out at (inside q 0 (drop at text))
  skips e =
      let f : bit q (get_or text at 0) (drop (at + 1) text) ≡ Skips k = ap (bit q (get_or text at 0)) (sym (take_rest text (at + 1))) ∙ e in
      sym (ap (lead out at) (cons_at q text at h ∙ ap (λ x. with_bit x (inside q (skip_of x) (drop (at + 1) text))) f) ∙ after_lead [] ∙ ap (λ l. lead l p (inside q 0 (drop p text))) (append-nil out))

-- ---- values

mul-grows : (base v : ℕ) → 0 < base → v ≤ base * v
mul-grows base v h = grind arith

pub value-grows : (base v : ℕ) (ds : List ℕ) → 0 < base → v ≤ value_from base v ds
value-grows base v [] h = omega arith
value-grows base v (d ∷ ds) h =
    let m : v ≤ base * v = mul-grows base v h in
    omega (arith, value-grows base (base * v + digit d) ds h)

above_by : (t : Bool) (n most : ℕ) → nat_le n most ≡ t → most < n → None ≡ cond t (Some n) None
above_by true n most e h = let g : n ≤ most = leb-true n most e in absurd (omega arith)
above_by false n most e h = refl

pub above : (base most v : ℕ) (ds : List ℕ) (n : ℕ) → 0 < base → most < v → value_from base v ds ≡ n → None ≡ at_most most n
above base most v ds n b h e = above_by (nat_le n most) n most refl (omega (arith, value-grows base v ds b))
