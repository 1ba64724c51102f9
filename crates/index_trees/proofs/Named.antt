-- What the first word of a lawful image names.
use Rattle.std.proofs.Common.{◌≡◌, ℕ, zero, suc, ◌+◌, ◌<◌, ◌≤◌, ◌^◌, inl, Bool, true, false, List, [], ◌∷◌, take, get_or, slice_index, refl, sym, ap, ◌∙◌, arith}
use Rattle.std.specs.Prelude.{nat_lt, if◌then◌else◌}
use Rattle.word_fields.specs.Fields.{field, with_field}
use Rattle.word_fields.proofs.Split.{field-with_field}
use Rattle.word_fields.proofs.Apart.{field-apart}
use Rattle.journals.specs.Journal.{Journal}
use Rattle.call_patterns.specs.Patterns.{IsPattern, places, positions}
use Rattle.call_patterns.specs.declared.pattern.Pattern.{Pattern}
use Rattle.index_trees.specs.Images.{header_word, shown_at}
use Rattle.index_trees.specs.Lawful.{Lawful, Names}
use Rattle.index_trees.proofs.Imaging.{three_is}

-- ---- the fields of the word

module _ (p a b c : ℕ) (hp : p < 2 ^ 32) (ha : a < 2 ^ 6) (hb : b < 2 ^ 6) (hc : c < 2 ^ 6) where
  abbrev w1 : ℕ
  w1 = with_field 0 32 0 p

  abbrev w2 : ℕ
  w2 = with_field 32 6 w1 a

  abbrev w3 : ℕ
  w3 = with_field 38 6 w2 b

  abbrev w4 : ℕ
  w4 = with_field 44 6 w3 c

  procedure_field : field 0 32 (header_word p a b c) ≡ p
  unfolding header_word
  procedure_field =
      field-apart 50 8 w4 1 0 32 (omega arith) (inl (omega arith)) ∙ field-apart 44 6 w3 c 0 32 hc (inl (omega arith)) ∙ field-apart 38 6 w2 b 0 32 hb (inl (omega arith))
      ∙ field-apart 32 6 w1 a 0 32 ha (inl (omega arith)) ∙ field-with_field 0 32 0 p hp

  first_field : field 32 6 (header_word p a b c) ≡ a
  unfolding header_word
  first_field =
      field-apart 50 8 w4 1 32 6 (omega arith) (inl (omega arith)) ∙ field-apart 44 6 w3 c 32 6 hc (inl (omega arith)) ∙ field-apart 38 6 w2 b 32 6 hb (inl (omega arith))
      ∙ field-with_field 32 6 w1 a ha

  second_field : field 38 6 (header_word p a b c) ≡ b
  unfolding header_word
  second_field = field-apart 50 8 w4 1 38 6 (omega arith) (inl (omega arith)) ∙ field-apart 44 6 w3 c 38 6 hc (inl (omega arith)) ∙ field-with_field 38 6 w2 b hb

  third_field : field 44 6 (header_word p a b c) ≡ c
  unfolding header_word
  third_field = field-apart 50 8 w4 1 44 6 (omega arith) (inl (omega arith)) ∙ field-with_field 44 6 w3 c hc

  format_field : field 50 8 (header_word p a b c) ≡ 1
  unfolding header_word
  format_field = field-with_field 50 8 w4 1 (omega arith)

shown_small : (p : Pattern) (i : ℕ) → IsPattern p → shown_at p i < 2 ^ 6
shown_small p i h = go (nat_lt i p.count)
  where
    go : (b : Bool) → (if b then slice_index (places p) i + 1 else 0) < 2 ^ 6
    go true = omega (arith, h.below i)
    go false = omega arith

pub named : (words : List ℕ) (J : Journal) (m : ℕ) (l : Lawful words J m) → Names (slice_index words 0) l.procedure l.pattern
named words J m l =
    let a = shown_small l.pattern 0 l.is_pattern in
    let b = shown_small l.pattern 1 l.is_pattern in
    let c = shown_small l.pattern 2 l.is_pattern in
    let p0 = shown_at l.pattern 0 in
    let p1 = shown_at l.pattern 1 in
    let p2 = shown_at l.pattern 2 in
    record {
      procedure_is = ap (field 0 32) l.names ∙ procedure_field l.procedure p0 p1 p2 l.numbered a b c;
      first = ap (field 32 6) l.names ∙ first_field l.procedure p0 p1 p2 l.numbered a b c;
      second = ap (field 38 6) l.names ∙ second_field l.procedure p0 p1 p2 l.numbered a b c;
      third = ap (field 44 6) l.names ∙ third_field l.procedure p0 p1 p2 l.numbered a b c;
      format = ap (field 50 8) l.names ∙ format_field l.procedure p0 p1 p2 l.numbered a b c;
    }

-- ---- the positions

-- the positions that are shown, up to the first 0
unshown : List ℕ → List ℕ
unshown [] = []
unshown (zero ∷ xs) = []
unshown (suc n ∷ xs) = n ∷ unshown xs

next : (n : ℕ) (xs : List ℕ) → unshown ((n + 1) ∷ xs) ≡ n ∷ unshown xs
unfolding unshown
next n xs = let e : n + 1 ≡ suc n = omega arith in ap (λ k. unshown (k ∷ xs)) e

some_of : (a b c n : ℕ) → n ≤ 3
    → take n (a ∷ b ∷ c ∷ []) ≡ unshown ((if nat_lt 0 n then a + 1 else 0) ∷ (if nat_lt 1 n then b + 1 else 0) ∷ (if nat_lt 2 n then c + 1 else 0) ∷ [])
unfolding unshown
some_of a b c zero few = refl
some_of a b c (suc zero) few = sym (next a (0 ∷ 0 ∷ []))
some_of a b c (suc (suc zero)) few = sym (next a ((b + 1) ∷ 0 ∷ []) ∙ ap (λ l. a ∷ l) (next b (0 ∷ [])))
some_of a b c (suc (suc (suc zero))) few = sym (next a ((b + 1) ∷ (c + 1) ∷ []) ∙ ap (λ l. a ∷ l) (next b ((c + 1) ∷ []) ∙ ap (λ l. b ∷ l) (next c [])))
some_of a b c (suc (suc (suc (suc n)))) few = absurd (omega arith)

read : (p : Pattern) → IsPattern p → positions p ≡ unshown (shown_at p 0 ∷ shown_at p 1 ∷ shown_at p 2 ∷ [])
read p h = ap (take p.count) (three_is (places p) h.three) ∙ some_of (get_or (places p) 0 0) (get_or (places p) 1 0) (get_or (places p) 2 0) p.count h.few

pub one_reading : (words : List ℕ) (J K : Journal) (m n : ℕ) (x : Lawful words J m) (y : Lawful words K n) → (m ≡ n) × ((x.procedure ≡ y.procedure) × (positions x.pattern ≡ positions y.pattern))
one_reading words J K m n x y =
    let a = named words J m x in
    let b = named words K n y in
    let x1 = shown_at x.pattern 1 in
    let x2 = shown_at x.pattern 2 in
    let y0 = shown_at y.pattern 0 in
    let y1 = shown_at y.pattern 1 in (
      sym x.mark ∙ y.mark,
      (
        sym a.procedure_is ∙ b.procedure_is,
        read x.pattern x.is_pattern
            ∙ ap (λ k. unshown (k ∷ x1 ∷ x2 ∷ [])) (sym a.first ∙ b.first)
            ∙ ap (λ k. unshown (y0 ∷ k ∷ x2 ∷ [])) (sym a.second ∙ b.second)
            ∙ ap (λ k. unshown (y0 ∷ y1 ∷ k ∷ [])) (sym a.third ∙ b.third)
            ∙ sym (read y.pattern y.is_pattern),
      ),
    )
