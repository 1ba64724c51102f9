-- The stacks, from their newest items.
use Rattle.std.proofs.Common.{◌≡◌, List, [], ◌∷◌, ◌++◌, reverse, Some, ap, ◌∙◌}
use Rattle.std.specs.Prelude.{ℤ}
use Rattle.std.proofs.lemmas.List.{reverse-append}
use Rattle.prolog_arith.specs.declared.operation.Binary.{Binary}
use Rattle.prolog_arith.specs.declared.operation.Operation.TheVariants.{Two}
use Rattle.prolog_arith.specs.declared.faults.EvalFault.{EvalFault}
use Rattle.prolog_arith.specs.Arithmetic.{Value, binary_value}
use Rattle.prolog_arith.specs.Work.{taken, IsCause, IsPushed, IsApplied, IsRefused}

module _ (o : Binary) (old mid rest : List ℤ) (b a : ℤ) (first : old ≡ mid ++ b ∷ []) (second : mid ≡ rest ++ a ∷ []) where
  turned : reverse old ≡ b ∷ (a ∷ reverse rest)
  turned = ap reverse first ∙ reverse-append mid (b ∷ []) ∙ ap (λ (xs : List ℤ). b ∷ reverse xs) second ∙ ap (λ (xs : List ℤ). b ∷ xs) (reverse-append rest (a ∷ []))

  taken_two : taken (Two o) (reverse old) ≡ Some (binary_value o a b, reverse rest)
  taken_two = ap (taken (Two o)) turned

  pub applied-two : (new : List ℤ) → IsPushed (binary_value o a b) rest new → IsApplied (Two o) old new
  applied-two new p = record {
    given = p.given;
    below = reverse rest;
    taken_is = taken_two ∙ ap (λ (v : Value). Some (v, reverse rest)) p.is;
    new_is = ap reverse p.new_is ∙ reverse-append rest (p.given ∷ []);
  }

  pub refused-two : (e : EvalFault) → IsCause e (binary_value o a b) → IsRefused (Two o) old e
  refused-two e h = record { given = binary_value o a b; below = reverse rest; taken_is = taken_two; cause = h }
