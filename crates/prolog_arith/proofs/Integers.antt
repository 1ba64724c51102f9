-- The operations by cases on signs.
use Rattle.std.proofs.Common.{◌≡◌, ◌≢◌, ℕ, zero, suc, ◌-◌, ◌*◌, ◌/◌, ◌%◌, ◌^◌, ◌<◌, ◌≤◌, min, ◌⊎◌, Bool, true, false, refl, sym, ap, ap₂, ◌∙◌, arith, subst, inl, inr, w64, lit<}
use Rattle.std.specs.Prelude.{ℤ, pos, negsuc, ◌+ℤ◌, ◌*ℤ◌, neg_ℤ, unsigned_abs, int_rem, int_lt, nat_lt, nat_eq, nat_le, FitsSigned, if◌then◌else◌}
use Rattle.std.specs.Int.{int_div_euclid, int_rem_euclid, int_shr}
use Rattle.std.proofs.Math.Nat.{div-add-mod, suc-mod, mod_self, div-eq_of_lt, zero-div, mod-lt, zero-lt-suc, mod-eq_of_lt, zero-mod, mul-le-mul}
use Rattle.std.proofs.Math.Facts.{to_z-of_z}
use mir.Val.{to_z, of_z}
use mir.Syntax.{w128}
use Rattle.std.proofs.Math.Pow.{pow_mono}
use Rattle.std.proofs.lemmas.Bool.Decides.{nat_tests}
use Rattle.std.proofs.lemmas.Int.{ints, quot-rem, unsigned_abs-mul, fits_signed_mul, to_z_pos}
use Rattle.std.specs.Int.Signed.{mag_shr}
use Rattle.prolog_arith.specs.Operations.{remainder, floored, modulo}
use Rattle.prolog_arith.specs.Arithmetic.{Is, whole, overflow, is_zero, zero_divisor}

pub whole-fits : (z : ℤ) → FitsSigned w64 z → whole z ≡ Is z
whole-fits (pos n) f = let low : nat_lt n 0x8000_0000_0000_0000 ≡ true = grind (arith, nat_tests) in rw low refl
whole-fits (negsuc n) f = let low : nat_lt n 0x8000_0000_0000_0000 ≡ true = grind (arith, nat_tests) in rw low refl

pub whole-beyond : (z : ℤ) → 0x8000_0000_0000_0000 < unsigned_abs z → whole z ≡ overflow
whole-beyond (pos n) h = let high : nat_lt n 0x8000_0000_0000_0000 ≡ false = grind (arith, nat_tests) in rw high refl
whole-beyond (negsuc n) h = let high : nat_lt n 0x8000_0000_0000_0000 ≡ false = grind (arith, nat_tests) in rw high refl

-- ---- remainders

pub remainder-is : (a b : ℤ) → remainder a b ≡ int_rem a b
remainder-is a b = omega (arith, ints, quot-rem a b)

suc_mod_cases : (n m : ℕ) → (suc n % suc m ≡ suc (n % suc m)) ⊎ ((suc n % suc m ≡ 0) × (n % suc m ≡ m))
suc_mod_cases n m = go (nat_eq (n % suc m) m) refl
  where
    go : (t : Bool) → nat_eq (n % suc m) m ≡ t → (suc n % suc m ≡ suc (n % suc m)) ⊎ ((suc n % suc m ≡ 0) × (n % suc m ≡ m))
    go true q =
        let same : n % suc m ≡ m = grind (arith, nat_tests) in
        inr (suc-mod n (suc m) ∙ ap (λ (r : ℕ). suc r % suc m) same ∙ mod_self (suc m), same)
    go false q =
        let low : n % suc m < suc m = mod-lt n (zero-lt-suc m) in
        let apart : n % suc m ≢ m = grind (arith, nat_tests) in
        inl (suc-mod n (suc m) ∙ mod-eq_of_lt (omega arith))

pub floored-positive : (a : ℤ) (m : ℕ) → floored a (pos (suc m)) ≡ int_div_euclid a (pos (suc m))
floored-positive a m = let no : nat_lt (suc m) 0 ≡ false = grind (arith, nat_tests) in rw no refl

pub modulo-positive : (a : ℤ) (m : ℕ) → modulo a (pos (suc m)) ≡ int_rem_euclid a (pos (suc m))
modulo-positive (pos n) m = rw (floored-positive (pos n) m) (omega (arith, ints, div-add-mod n (suc m)))
modulo-positive (negsuc n) m = rw (floored-positive (negsuc n) m) (omega (arith, ints, div-add-mod n (suc m)))

-- the opposite of what is left of the opposite
pub modulo-opposite : (a : ℤ) (m : ℕ) → modulo a (negsuc m) ≡ neg_ℤ (int_rem_euclid (neg_ℤ a) (pos (suc m)))
modulo-opposite (pos zero) m = let e : 0 / suc m ≡ 0 = zero-div (suc m) in omega (arith, ints, e, div-add-mod 0 (suc m))
modulo-opposite (pos (suc n)) m = omega (arith, ints, div-add-mod n (suc m))
modulo-opposite (negsuc n) m = omega (arith, ints, div-add-mod (suc n) (suc m))

pub modulo-zero : (a : ℤ) (m : ℕ) → int_rem_euclid a (negsuc m) ≡ pos 0 → modulo a (negsuc m) ≡ pos 0
modulo-zero (pos zero) m e = let z : 0 % suc m ≡ 0 = zero-mod (suc m) in let o = modulo-opposite (pos zero) m in omega (arith, ints, o, z)
modulo-zero (pos (suc n)) m e =
    let o = modulo-opposite (pos (suc n)) m in
    elim (suc_mod_cases n m) [ inl s ↦ absurd (omega (arith, ints, s, e)) | inr s ↦ let q = s.1 in omega (arith, ints, o, q) ]
modulo-zero (negsuc n) m e =
    let o = modulo-opposite (negsuc n) m in
    let low : n % suc m < suc m = mod-lt n (zero-lt-suc m) in
    elim (suc_mod_cases n m) [ inl s ↦ let k = mod-lt (suc n) (zero-lt-suc m) in absurd (omega (arith, ints, s, e, low, k)) | inr s ↦ let q = s.0 in omega (arith, ints, o, q) ]

pub modulo-negative : (a : ℤ) (m : ℕ) → int_rem_euclid a (negsuc m) ≢ pos 0 → modulo a (negsuc m) ≡ int_rem_euclid a (negsuc m) +ℤ negsuc m
modulo-negative (pos zero) m ne = let z : 0 % suc m ≡ 0 = zero-mod (suc m) in absurd (ne (ap pos z))
modulo-negative (pos (suc n)) m ne =
    let o = modulo-opposite (pos (suc n)) m in
    let low : n % suc m < suc m = mod-lt n (zero-lt-suc m) in
    elim (suc_mod_cases n m) [ inl s ↦ omega (arith, ints, o, s, low) | inr s ↦ absurd (ne (ap pos s.0)) ]
modulo-negative (negsuc n) m ne =
    let o = modulo-opposite (negsuc n) m in
    let low : n % suc m < suc m = mod-lt n (zero-lt-suc m) in
    elim (suc_mod_cases n m) [
      | inl s ↦ omega (arith, ints, o, s, low)
      | inr s ↦ let q = s.1 in absurd (ne (let e : suc m - 1 - n % suc m ≡ 0 = omega (arith, q) in ap pos e))
    ]

-- ---- what the code's answers are

not-zero : (b : ℤ) → (of_z w64 b ≡ 0 → ⊥) → is_zero b ≡ false
not-zero (pos n) ne = grind (arith, nat_tests)
not-zero (negsuc n) ne = refl

pub divided : (b r z : ℤ) → (of_z w64 b ≡ 0 → ⊥) → FitsSigned w64 r → z ≡ r → Is (to_z w64 (of_z w64 r)) ≡ (if is_zero b then zero_divisor else whole z)
divided b r z ne fits e = rw (not-zero b ne, e, whole-fits r fits) (ap Is (to_z-of_z fits))

-- ---- powers of two

small_div : (n p : ℕ) → n < 2 ^ 63 → n / 2 ^ min p 63 ≡ n / 2 ^ p
small_div n p low = go (nat_le p 63) refl
  where
    go : (t : Bool) → nat_le p 63 ≡ t → n / 2 ^ min p 63 ≡ n / 2 ^ p
    go true q = let same : min p 63 ≡ p = grind (arith, nat_tests) in ap (λ (k : ℕ). n / 2 ^ k) same
    go false q =
        let far : 63 ≤ p = grind (arith, nat_tests) in
        let same : min p 63 ≡ 63 = omega arith in
        let high : 2 ^ 63 ≤ 2 ^ p = pow_mono far in
        ap (λ (k : ℕ). n / 2 ^ k) same ∙ div-eq_of_lt low ∙ sym (div-eq_of_lt (omega arith))

pub scaled-down : (z : ℤ) (p k : ℕ) → FitsSigned w64 z → k ≡ min p 63 → int_shr z k ≡ floored z (pos (2 ^ p))
scaled-down (pos n) p k f e =
    let no : nat_lt (2 ^ p) 0 ≡ false = grind (arith, nat_tests) in
    rw (e, no, small_div n p (omega (arith, f.sfits))) refl
scaled-down (negsuc n) p k f e =
    let no : nat_lt (2 ^ p) 0 ≡ false = grind (arith, nat_tests) in
    rw (e, no, small_div n p (omega (arith, f.sfits))) refl

-- an integer that isn't 0 times such a power has more than 64 bits
pub scaled-beyond : (z : ℤ) (p : ℕ) → (of_z w64 z ≡ 0 → ⊥) → 63 < p → whole (z *ℤ pos (2 ^ p)) ≡ overflow
scaled-beyond z p ne far =
    let high : 2 ^ 64 ≤ 2 ^ p = pow_mono far in
    let some : 1 ≤ unsigned_abs z = some_abs z ne in
    let more : 1 * 2 ^ 64 ≤ unsigned_abs z * 2 ^ p = mul-le-mul some high in
    whole-beyond (z *ℤ pos (2 ^ p)) (omega (arith, unsigned_abs-mul z (pos (2 ^ p)), more))
  where
    some_abs : (y : ℤ) → (of_z w64 y ≡ 0 → ⊥) → 1 ≤ unsigned_abs y
    some_abs (pos zero) h = absurd (h refl)
    some_abs (pos (suc n)) h = omega arith
    some_abs (negsuc n) h = omega arith

-- and one up to such a power has less than 128
pub scaled-fits : (z : ℤ) (p : ℕ) → FitsSigned w64 z → p ≤ 63 → FitsSigned w128 (z *ℤ pos (2 ^ p))
scaled-fits z p f low =
    let high : 2 ^ p ≤ 2 ^ 63 = pow_mono low in
    fits_signed_mul w128 z (pos (2 ^ p)) (2 ^ 63) (2 ^ 63) (abs_low z f) high (lit< tt)
  where
    abs_low : (y : ℤ) → FitsSigned w64 y → unsigned_abs y ≤ 2 ^ 63
    abs_low (pos n) g = omega (arith, g.sfits)
    abs_low (negsuc n) g = omega (arith, g.sfits)

pub scaled-is : (z y : ℤ) (p : ℕ) → FitsSigned w64 z → y ≡ to_z w64 (of_z w64 z) → p ≤ 63
    → to_z w128 (of_z w128 y) *ℤ to_z w128 (1 * 2 ^ p % 0x1_0000_0000_0000_0000_0000_0000_0000_0000) ≡ z *ℤ pos (2 ^ p)
scaled-is z y p f e low =
    let high : 2 ^ p ≤ 2 ^ 63 = pow_mono low in
    let same : y ≡ z = e ∙ to_z-of_z f in
    let wide : FitsSigned w128 y = subst (FitsSigned w128) (sym same) (record { sfits = omega (arith, f.sfits) }) in
    let power : to_z w128 (1 * 2 ^ p % 0x1_0000_0000_0000_0000_0000_0000_0000_0000) ≡ pos (2 ^ p) =
    ap (to_z w128) (ap (λ (k : ℕ). k % 0x1_0000_0000_0000_0000_0000_0000_0000_0000) (omega arith) ∙ mod-eq_of_lt (omega (arith, high)))
    ∙ to_z_pos w128 (2 ^ p) (omega (arith, high)) in
    ap₂ (λ (a b : ℤ). a *ℤ b) (to_z-of_z wide ∙ same) power

pub scaled-down-fits : (z : ℤ) (k : ℕ) → FitsSigned w64 z → FitsSigned w64 (int_shr z k)
scaled-down-fits z k f = record { sfits = omega (arith, mag_shr z (2 ^ k), f.sfits) }

-- ---- the code's remainder

sum_fits : (k m : ℕ) → k < 2 ^ 63 → m < 2 ^ 63 → FitsSigned w64 (pos k +ℤ negsuc m)
sum_fits k m low few = omega (arith, ints)

lowered_fits : (a b : ℤ) → int_lt b (pos 0) ≡ true → FitsSigned w64 (int_rem_euclid a b) → FitsSigned w64 b → FitsSigned w64 (int_rem_euclid a b +ℤ b)
lowered_fits a (pos n) neg f g = absurd (let no : nat_lt n 0 ≡ true = neg in grind (arith, nat_tests))
lowered_fits (pos n) (negsuc m) neg f g = sum_fits (n % suc m) m (omega (arith, f.sfits)) (omega (arith, g.sfits))
lowered_fits (negsuc n) (negsuc m) neg f g = sum_fits (suc m - 1 - n % suc m) m (omega (arith, f.sfits)) (omega (arith, g.sfits))

module _ (a b r : ℤ) (fa : FitsSigned w64 a) (fb : FitsSigned w64 b) (fr : FitsSigned w64 r) (ne : of_z w64 b ≡ 0 → ⊥) (e : r ≡ int_rem_euclid (to_z w64 (of_z w64 a)) (to_z w64 (of_z w64 b))) where
  is : r ≡ int_rem_euclid a b
  is = e ∙ ap₂ int_rem_euclid (to_z-of_z fa) (to_z-of_z fb)

  zero_is : (y : ℤ) → FitsSigned w64 y → of_z w64 y ≡ 0 → y ≡ pos 0
  zero_is (pos n) f h = ap pos h
  zero_is (negsuc n) f h = absurd (omega (arith, f.sfits, h))

  below : (c : ℤ) → int_lt c (pos 0) ≡ true → (r ≡ int_rem_euclid a c) → (r ≢ pos 0) → (modulo a c ≡ r +ℤ c)
  below (pos n) neg h nz = absurd (let no : nat_lt n 0 ≡ true = neg in grind (arith, nat_tests))
  below (negsuc m) neg h nz = modulo-negative a m (λ z. nz (h ∙ z)) ∙ ap (λ (x : ℤ). x +ℤ negsuc m) (sym h)

  below_zero : (c : ℤ) → int_lt c (pos 0) ≡ true → (r ≡ int_rem_euclid a c) → r ≡ pos 0 → modulo a c ≡ r
  below_zero (pos n) neg h z = absurd (let no : nat_lt n 0 ≡ true = neg in grind (arith, nat_tests))
  below_zero (negsuc m) neg h z = modulo-zero a m (sym h ∙ z) ∙ sym z

  above : (c : ℤ) → int_lt c (pos 0) ≡ false → (of_z w64 c ≡ 0 → ⊥) → (r ≡ int_rem_euclid a c) → modulo a c ≡ r
  above (pos zero) neg n h = absurd (n refl)
  above (pos (suc m)) neg n h = modulo-positive a m ∙ sym h
  above (negsuc m) neg n h = absurd cc

  pub lowered : int_lt (to_z w64 (of_z w64 b)) (pos 0) ≡ true → (of_z w64 r ≡ 0 → ⊥)
      → Is (to_z w64 (of_z w64 (to_z w64 (of_z w64 r) +ℤ to_z w64 (of_z w64 b)))) ≡ (if is_zero b then zero_divisor else whole (modulo a b))
  lowered neg nz =
      let neg' : int_lt b (pos 0) ≡ true = subst (λ (y : ℤ). int_lt y (pos 0) ≡ true) (to_z-of_z fb) neg in
      rw (to_z-of_z fr, to_z-of_z fb) (divided b (r +ℤ b) (modulo a b) ne (subst (λ (y : ℤ). FitsSigned w64 (y +ℤ b)) (sym is) (lowered_fits a b neg' (subst (FitsSigned w64) is fr) fb)) (below b neg' is (λ z. nz (ap (of_z w64) z))))

  pub kept-zero : int_lt (to_z w64 (of_z w64 b)) (pos 0) ≡ true → of_z w64 r ≡ 0 → Is (to_z w64 (of_z w64 r)) ≡ (if is_zero b then zero_divisor else whole (modulo a b))
  kept-zero neg z =
      let neg' : int_lt b (pos 0) ≡ true = subst (λ (y : ℤ). int_lt y (pos 0) ≡ true) (to_z-of_z fb) neg in
      divided b r (modulo a b) ne fr (below_zero b neg' is (zero_is r fr z))

  pub kept : int_lt (to_z w64 (of_z w64 b)) (pos 0) ≡ false → Is (to_z w64 (of_z w64 r)) ≡ (if is_zero b then zero_divisor else whole (modulo a b))
  kept neg =
      let neg' : int_lt b (pos 0) ≡ false = subst (λ (y : ℤ). int_lt y (pos 0) ≡ false) (to_z-of_z fb) neg in
      divided b r (modulo a b) ne fr (above b neg' ne is)
