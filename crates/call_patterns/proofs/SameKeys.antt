-- Keys that agree are one key.
use Rattle.std.proofs.Common.{◌≡◌, ℕ, Bool, true, false, List, ap, refl, ◌∙◌}
use Rattle.std.specs.Prelude.{◌&&◌, nat_eq, ◌==◌}
use Rattle.std.proofs.lemmas.Bool.{eqb-true}
use Rattle.std.proofs.lemmas.Bool.Decides.{Decides-int_eq, Decides-eqb}
use Rattle.std.specs.Cmp.Lexicographic.{pointwise, pointwise_decides}
use Rattle.call_patterns.specs.Keys.{Key, integer_key, atom_key, functor_key, same_key}

pub both : (a b : Bool) → (a && b) ≡ true → (a ≡ true) × (b ≡ true)
both true b h = (refl, h)
both false b h = absurd (cc)

same_text : (a b : List ℕ) → pointwise nat_eq a b ≡ true → a ≡ b
same_text a b h = (pointwise_decides Decides-eqb a b).0 h

pub same_keys : (a b : Key) → same_key a b ≡ true → a ≡ b
same_keys (integer_key z) (integer_key w) h = ap integer_key ((Decides-int_eq z w).0 h)
same_keys (integer_key z) (atom_key b) h = absurd (cc)
same_keys (integer_key z) (functor_key g m) h = absurd (cc)
same_keys (atom_key a) (integer_key w) h = absurd (cc)
same_keys (atom_key a) (atom_key b) h = ap atom_key (same_text a b h)
same_keys (atom_key a) (functor_key g m) h = absurd (cc)
same_keys (functor_key f n) (integer_key w) h = absurd (cc)
same_keys (functor_key f n) (atom_key b) h = absurd (cc)
same_keys (functor_key f n) (functor_key g m) h =
    let p = both (pointwise nat_eq f g) (n == m) h in
    ap (λ x. functor_key x n) (same_text f g p.0) ∙ ap (functor_key g) (eqb-true n m p.1)
