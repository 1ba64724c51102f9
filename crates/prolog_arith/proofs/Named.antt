-- Which operation a compound has, and what it comes to.
use Rattle.std.proofs.Common.{◌≡◌, ℕ, ◌+◌, List, ◌∷◌, false, Option, Some, None, refl, sym, ap, ◌∙◌, arith}
use Rattle.std.specs.Prelude.{ℤ, nat_eq, option_map}
use Rattle.std.proofs.lemmas.Bool.Decides.{nat_tests}
use Rattle.prolog_terms.specs.Tree.{Trees, compound, none, more, count}
use Rattle.prolog_arith.specs.declared.operation.Unary.{Unary}
use Rattle.prolog_arith.specs.declared.operation.Binary.{Binary}
use Rattle.prolog_arith.specs.declared.operation.Operation.{Operation}
use Rattle.prolog_arith.specs.declared.operation.Operation.TheVariants.{One, Two}
use Rattle.prolog_arith.specs.Arithmetic.{Value, Is, Raises, unary_of, binary_of, operation_of, not_evaluable, by_one, by_two, evaluated}
use Rattle.prolog_arith.specs.Work.{go_on, taken, resumed}

no_other : (f : List ℕ) (n : ℕ) → operation_of f (n + 3) ≡ None
no_other f n =
    let one : nat_eq (n + 3) 1 ≡ false = grind (arith, nat_tests) in
    let two : nat_eq (n + 3) 2 ≡ false = grind (arith, nat_tests) in
    rw (one, two) refl

no_one : (f : List ℕ) (o : Option Unary) (v : Value) → option_map One o ≡ None → by_one f o v ≡ not_evaluable f 1
no_one f None v e = refl
no_one f (Some o) v e = absurd cc

no_two : (f : List ℕ) (o : Option Binary) (v w : Value) → option_map Two o ≡ None → by_two f o v w ≡ not_evaluable f 2
no_two f None v w e = refl
no_two f (Some o) v w e = absurd cc

pub evaluated-none : (f : List ℕ) (ts : Trees) → operation_of f (count ts) ≡ None → evaluated (compound f ts) ≡ not_evaluable f (count ts)
unfolding evaluated
evaluated-none f none e = refl
evaluated-none f (more t none) e = no_one f (unary_of f) (evaluated t) e
evaluated-none f (more t (more u none)) e = no_two f (binary_of f) (evaluated t) (evaluated u) e
evaluated-none f (more t (more u (more v ts))) e = ap (not_evaluable f) (omega arith)

-- ---- what comes after the operands

-- after one operand
some_one : (f : List ℕ) (p : Option Unary) (o : Operation) (v : Value) (xs : List ℤ) (rest : List ℤ → Option Value) → option_map One p ≡ Some o
    → go_on v (λ x. resumed (taken o (x ∷ xs)) rest) ≡ go_on (by_one f p v) (λ z. rest (z ∷ xs))
some_one f None o v xs rest e = absurd cc
some_one f (Some u) o (Is x) xs rest e = let same : o ≡ One u = cc in ap (λ (q : Operation). resumed (taken q (x ∷ xs)) rest) same
some_one f (Some u) o (Raises r) xs rest e = refl

-- after two
some_two : (f : List ℕ) (p : Option Binary) (o : Operation) (v w : Value) (xs : List ℤ) (rest : List ℤ → Option Value) → option_map Two p ≡ Some o
    → go_on v (λ x. go_on w (λ y. resumed (taken o (y ∷ (x ∷ xs))) rest)) ≡ go_on (by_two f p v w) (λ z. rest (z ∷ xs))
some_two f None o v w xs rest e = absurd cc
some_two f (Some b) o (Is x) (Is y) xs rest e = let same : o ≡ Two b = cc in ap (λ (q : Operation). resumed (taken q (y ∷ (x ∷ xs))) rest) same
some_two f (Some b) o (Is x) (Raises r) xs rest e = refl
some_two f (Some b) o (Raises r) w xs rest e = refl

-- the operands one after the other, and then the operation
abbrev pub in_turn : Trees → Operation → List ℤ → (List ℤ → Option Value) → Option Value
in_turn none o xs rest = resumed (taken o xs) rest
in_turn (more t ts) o xs rest = go_on (evaluated t) (λ x. in_turn ts o (x ∷ xs) rest)

pub evaluated-some : (f : List ℕ) (ts : Trees) (o : Operation) (xs : List ℤ) (rest : List ℤ → Option Value) → operation_of f (count ts) ≡ Some o
    → in_turn ts o xs rest ≡ go_on (evaluated (compound f ts)) (λ z. rest (z ∷ xs))
unfolding evaluated
evaluated-some f none o xs rest e = absurd cc
evaluated-some f (more t none) o xs rest e = some_one f (unary_of f) o (evaluated t) xs rest e
evaluated-some f (more t (more u none)) o xs rest e = some_two f (binary_of f) o (evaluated t) (evaluated u) xs rest e
evaluated-some f (more t (more u (more v ts))) o xs rest e =
    let none_is : operation_of f (count ts + 3) ≡ None = no_other f (count ts) in
    let same : count (more t (more u (more v ts))) ≡ count ts + 3 = omega arith in
    let clash : operation_of f (count (more t (more u (more v ts)))) ≡ None = ap (operation_of f) same ∙ none_is in
    absurd (some_none o (sym e ∙ clash))
  where
    some_none : (q : Operation) → Some q ≡ None → ⊥
    some_none q k = cc
