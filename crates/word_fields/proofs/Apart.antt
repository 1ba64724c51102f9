-- A field that shares no bit with the one that was set is as before.
use Rattle.std.proofs.Common.{◌≡◌, ℕ, ◌+◌, ◌/◌, ◌%◌, ◌^◌, ◌<◌, ◌≤◌, ◌⊎◌, inl, inr, arith, sym, ap, ◌∙◌, ⊎_elim}
use Rattle.std.proofs.lemmas.Nat.{shr-shr, shr_split}
use Rattle.std.proofs.lemmas.Nat.Bits.{bit_at_cat_low, bit_at_above, same_from_bits}
use Rattle.std.proofs.lemmas.Bool.{cases_lt}
use Rattle.std.specs.Int.{bit_at}
use Rattle.word_fields.specs.Fields.{field, with_field}
use Rattle.word_fields.proofs.Split.{outside, field-lt}

field_bit : (at bits n i : ℕ) → i < bits → bit_at (field at bits n) i ≡ bit_at n (at + i)
unfolding field
field_bit at bits n i lt =
    sym (bit_at_cat_low (n / 2 ^ at / 2 ^ bits) bits (n / 2 ^ at % 2 ^ bits) i lt)
    ∙ ap (λ x. bit_at x i) (shr_split (n / 2 ^ at) bits)
    ∙ ap (λ x. x % 2) (shr-shr n at i)

pub field-apart : (at bits w v other size : ℕ) → v < 2 ^ bits → (other + size ≤ at) ⊎ (at + bits ≤ other)
    → field other size (with_field at bits w v) ≡ field other size w
field-apart at bits w v other size small apart =
    same_from_bits (field other size (with_field at bits w v)) (field other size w)
    (λ i. ⊎_elim
    (λ (lt : i < size).
    field_bit other size (with_field at bits w v) i lt
    ∙ outside at bits w v (other + i) small (⊎_elim (λ (le : other + size ≤ at). inl (omega arith)) (λ (le : at + bits ≤ other). inr (omega arith)) apart)
    ∙ sym (field_bit other size w i lt))
    (λ (le : size ≤ i).
    bit_at_above (field other size (with_field at bits w v)) size i (field-lt other size (with_field at bits w v)) le
    ∙ sym (bit_at_above (field other size w) size i (field-lt other size w) le))
    (cases_lt i size))
