use Rattle.std.proofs.Common.{◌≡◌, ℕ, ◌+◌, ◌∷◌, ap, sym, ◌∙◌, ◌*◌, ◌%◌, ◌^◌, ◌<◌, bit_xor, drop, drop-cons, add-one, get_or, length, List}
use Rattle.std.proofs.Math.ListN.{drop_of_length-le}
use Rattle.call_patterns.specs.Codes.{fnv}
use Rattle.call_patterns.proofs.coding.mixed.Goals as goal

step : (h : ℕ) (bytes : List ℕ) (i : ℕ) → i < length bytes → fnv (bit_xor h (get_or bytes i 0) * 1099511628211 % 2 ^ 64) (drop (i + 1) bytes) ≡ fnv h (drop i bytes)
unfolding fnv
step h bytes i lt = let e : drop i bytes ≡ get_or bytes i 0 ∷ drop (i + 1) bytes = rw (add-one, drop-cons bytes i 0) in sym (ap (fnv h) e)

pub loop-byte-preserved : goal.loop-byte-preserved
loop-byte-preserved c = step c.loop-byte.mixed c.args.bytes.now c.loop-byte.byte-index c.loop-byte-test.true ∙ c.loop-byte.invariant

pub returns : goal.returns
unfolding fnv
returns c = ap (fnv c.loop-byte.mixed) (sym (drop_of_length-le c.args.bytes.now c.loop-byte-test.false)) ∙ c.loop-byte.invariant
