-- A word in three parts: what stands below a field, the field, and what stands above it.
use Rattle.std.proofs.Common.{◌≡◌, ℕ, ◌+◌, ◌-◌, ◌*◌, ◌/◌, ◌%◌, ◌^◌, ◌<◌, ◌≤◌, ◌⊎◌, inl, inr, arith, sym, ap, ◌∙◌, bit_and, subst}
use Rattle.std.proofs.lemmas.Nat.{pow_pos, pow-add, shr-shr, shr_split, mod_below, shr_high, mod_low, shr_below, mul-add-lt, and_mask}
use Rattle.std.proofs.lemmas.Nat.Bits.{bit_at_cat_low, bit_at_cat_high, ones_shr}
use Rattle.std.specs.Int.{bit_at}
use Rattle.std.proofs.Math.Nat.{add-mul}
use Rattle.word_fields.specs.Fields.{field, with_field, IsField}

-- the word is its field put into itself
pub whole : (at bits w : ℕ) → (w / 2 ^ (at + bits) * 2 ^ bits + field at bits w) * 2 ^ at + w % 2 ^ at ≡ w
unfolding field
whole at bits w =
    let high = sym (shr-shr w at bits) in
    let mid = shr_split (w / 2 ^ at) bits in
    let low = shr_split w at in
    rw (high, mid, low)

pub field-with_field : (at bits w v : ℕ) → v < 2 ^ bits → field at bits (with_field at bits w v) ≡ v
unfolding field with_field
field-with_field at bits w v h =
    let p = shr_high (w / 2 ^ (at + bits) * 2 ^ bits + v) at (w % 2 ^ at) (mod_below w (2 ^ at) (pow_pos at)) in
    rw (p, mod_low (w / 2 ^ (at + bits)) bits v h)

pub field-lt : (at bits w : ℕ) → field at bits w < 2 ^ bits
unfolding field
field-lt at bits w = mod_below (w / 2 ^ at) (2 ^ bits) (pow_pos bits)

pub got : (at bits w : ℕ) → IsField at bits → bit_and (w / 2 ^ at) ((2 ^ 64 - 1) / 2 ^ (64 - bits)) ≡ field at bits w
unfolding field
got at bits w h =
    let within : 64 - bits ≤ 64 = omega arith in
    let e : 64 - (64 - bits) ≡ bits = omega (arith, h.within) in
    ap (λ m. bit_and (w / 2 ^ at) m) (ones_shr 64 (64 - bits) within ∙ ap (λ n. 2 ^ n - 1) e) ∙ and_mask (w / 2 ^ at) bits

-- what is subtracted and added
pub parts : (at bits w v : ℕ) → (field at bits w * 2 ^ at ≤ w) × (w - field at bits w * 2 ^ at + v * 2 ^ at ≡ with_field at bits w v)
unfolding with_field
parts at bits w v =
    let e = whole at bits w in
    let old = add-mul (w / 2 ^ (at + bits) * 2 ^ bits) (field at bits w) (2 ^ at) in
    let new = add-mul (w / 2 ^ (at + bits) * 2 ^ bits) v (2 ^ at) in
    (omega arith, omega arith)

pub with_field-lt : (at bits w v : ℕ) → IsField at bits → w < 2 ^ 64 → v < 2 ^ bits → with_field at bits w v < 2 ^ 64
unfolding with_field
with_field-lt at bits w v h small fits =
    let sum : (64 - (at + bits)) + (at + bits) ≡ 64 = omega (arith, h.within) in
    let below : w < 2 ^ ((64 - (at + bits)) + (at + bits)) = rw sum small in
    let high : w / 2 ^ (at + bits) < 2 ^ (64 - (at + bits)) = shr_below w (64 - (at + bits)) (at + bits) below in
    let mid = mul-add-lt (w / 2 ^ (at + bits)) (2 ^ bits) v (2 ^ (64 - (at + bits))) high fits in
    let all = mul-add-lt (w / 2 ^ (at + bits) * 2 ^ bits + v) (2 ^ at) (w % 2 ^ at) (2 ^ bits * 2 ^ (64 - (at + bits))) mid (mod_below w (2 ^ at) (pow_pos at)) in
    let one : 2 ^ at * (2 ^ bits * 2 ^ (64 - (at + bits))) ≡ 2 ^ (at + (bits + (64 - (at + bits)))) =
    sym (pow-add 2 at (bits + (64 - (at + bits))) ∙ ap (λ x. 2 ^ at * x) (pow-add 2 bits (64 - (at + bits)))) in
    let two : at + (bits + (64 - (at + bits))) ≡ 64 = omega (arith, h.within) in
    subst (λ (n : ℕ). (w / 2 ^ (at + bits) * 2 ^ bits + v) * 2 ^ at + w % 2 ^ at < n) (one ∙ ap (λ n. 2 ^ n) two) all

-- a bit outside the field is the same for each value
same : (at bits w v u i : ℕ) → v < 2 ^ bits → u < 2 ^ bits → (i < at) ⊎ (at + bits ≤ i)
    → bit_at ((w / 2 ^ (at + bits) * 2 ^ bits + v) * 2 ^ at + w % 2 ^ at) i ≡ bit_at ((w / 2 ^ (at + bits) * 2 ^ bits + u) * 2 ^ at + w % 2 ^ at) i
same at bits w v u i hv hu (inl lt) =
    bit_at_cat_low (w / 2 ^ (at + bits) * 2 ^ bits + v) at (w % 2 ^ at) i lt ∙ sym (bit_at_cat_low (w / 2 ^ (at + bits) * 2 ^ bits + u) at (w % 2 ^ at) i lt)
same at bits w v u i hv hu (inr le) =
    let low = mod_below w (2 ^ at) (pow_pos at) in
    let past : at ≤ i = omega arith in
    let far : bits ≤ i - at = omega arith in
    bit_at_cat_high (w / 2 ^ (at + bits) * 2 ^ bits + v) at (w % 2 ^ at) i low past
    ∙ (bit_at_cat_high (w / 2 ^ (at + bits)) bits v (i - at) hv far ∙ sym (bit_at_cat_high (w / 2 ^ (at + bits)) bits u (i - at) hu far))
    ∙ sym (bit_at_cat_high (w / 2 ^ (at + bits) * 2 ^ bits + u) at (w % 2 ^ at) i low past)

pub outside : (at bits w v i : ℕ) → v < 2 ^ bits → (i < at) ⊎ (at + bits ≤ i) → bit_at (with_field at bits w v) i ≡ bit_at w i
unfolding with_field
outside at bits w v i h out = same at bits w v (field at bits w) i h (field-lt at bits w) out ∙ ap (λ n. bit_at n i) (whole at bits w)
