-- What the quotients and the shifts leave is smaller than the divisor.
use Rattle.std.proofs.Common.{◌≡◌, ◌≢◌, ℕ, zero, suc, ◌-◌, ◌*◌, ◌/◌, ◌^◌, ◌<◌, ◌≤◌, refl, ap, ◌∙◌, arith, w64}
use Rattle.std.specs.Prelude.{ℤ, pos, negsuc, ◌+ℤ◌, ◌*ℤ◌, neg_ℤ, ◌≤ℤ◌, ◌<ℤ◌, unsigned_abs, nat_lt, false}
use Rattle.std.specs.Int.{int_rem_euclid, int_div_euclid}
use Rattle.std.proofs.Math.Nat.{div-add-mod, mod-lt, zero-lt-suc}
use Rattle.std.proofs.lemmas.Nat.{pow_pos}
use Rattle.std.proofs.lemmas.Int.{ints, rem_below, to_z_pos}
use Rattle.std.proofs.lemmas.Bool.Decides.{nat_tests}
use mir.Val.{to_z}
use Rattle.prolog_arith.specs.Laws.{RemainderIsSmall, ModuloIsSmall, ShiftsAreFloors, ComplementIsOpposite}
use Rattle.prolog_arith.specs.Operations.{floored}
use Rattle.prolog_arith.proofs.Integers.{remainder-is, floored-positive, modulo-positive, modulo-opposite}

some_abs : (b : ℤ) → b ≢ pos 0 → 0 < unsigned_abs b
some_abs (pos zero) ne = absurd (ne refl)
some_abs (pos (suc m)) ne = omega arith
some_abs (negsuc m) ne = omega arith

pub remainder-small : RemainderIsSmall
remainder-small = record {
  up = λ n b ne. rw (remainder-is (pos n) b) (omega (arith, ints), rem_below (pos n) b (some_abs b ne));
  down = λ n b ne. rw (remainder-is (negsuc n) b) (omega (arith, ints), rem_below (negsuc n) b (some_abs b ne));
}

euclid-small : (a : ℤ) (m : ℕ) → (pos 0 ≤ℤ int_rem_euclid a (pos (suc m))) × (int_rem_euclid a (pos (suc m)) <ℤ pos (suc m))
euclid-small (pos n) m = let k = mod-lt n (zero-lt-suc m) in (omega (arith, ints, k), omega (arith, ints, k))
euclid-small (negsuc n) m = let k = mod-lt n (zero-lt-suc m) in (omega (arith, ints, k), omega (arith, ints, k))

pub modulo-small : ModuloIsSmall
modulo-small = record {
  up = λ a m. rw (modulo-positive a m) (euclid-small a m);
  down = λ a m. let k = euclid-small (neg_ℤ a) m in rw (modulo-opposite a m) (omega (arith, ints, k.0, k.1), omega (arith, ints, k.0, k.1));
}

one-more : (q : ℕ) → negsuc (suc q) +ℤ pos 1 ≡ negsuc q
one-more q = omega (arith, ints)

-- one more than the floor of -(n + 1) / (m + 1), times m + 1, is above -(n + 1)
above-floor : (n m q : ℕ) → q * suc m ≤ n → negsuc n <ℤ ((negsuc q +ℤ pos 1) *ℤ pos (suc m))
above-floor n m zero h = omega (arith, ints)
above-floor n m (suc q) h = rw (one-more q) (omega (arith, ints, h))

euclid-floor : (a : ℤ) (m : ℕ) → ((int_div_euclid a (pos (suc m)) *ℤ pos (suc m)) ≤ℤ a) × (a <ℤ ((int_div_euclid a (pos (suc m)) +ℤ pos 1) *ℤ pos (suc m)))
euclid-floor (pos n) m = let k = mod-lt n (zero-lt-suc m) in let e = div-add-mod n (suc m) in (omega (arith, ints, k, e), omega (arith, ints, k, e))
euclid-floor (negsuc n) m =
    let k = mod-lt n (zero-lt-suc m) in
    let e = div-add-mod n (suc m) in
    (omega (arith, ints, k, e), above-floor n m (n / suc m) (omega (arith, e)))

floor-is : (a : ℤ) (p : ℕ) → 0 < p → ((floored a (pos p) *ℤ pos p) ≤ℤ a) × (a <ℤ ((floored a (pos p) +ℤ pos 1) *ℤ pos p))
floor-is a zero h = absurd (omega arith)
floor-is a (suc m) h = rw (floored-positive a m) (euclid-floor a m)

pub shifts-floors : ShiftsAreFloors
shifts-floors = record { low = λ a b. (floor-is a (2 ^ suc b) (pow_pos (suc b))).0; high = λ a b. (floor-is a (2 ^ suc b) (pow_pos (suc b))).1 }

pub complement-opposite : ComplementIsOpposite
complement-opposite (pos n) f =
    let high : nat_lt (0xFFFF_FFFF_FFFF_FFFF - n) 0x8000_0000_0000_0000 ≡ false = grind (arith, nat_tests, f.sfits) in
    rw high (omega (arith, ints, f.sfits))
complement-opposite (negsuc n) f =
    let same : 0xFFFF_FFFF_FFFF_FFFF - (0x1_0000_0000_0000_0000 - suc n) ≡ n = omega (arith, f.sfits) in
    ap (to_z w64) same ∙ to_z_pos w64 n (omega (arith, f.sfits)) ∙ omega (arith, ints)
