-- The tasks that are left, step by step.
use Rattle.std.proofs.Common.{◌≡◌, ℕ, ◌+◌, ◌<◌, List, [], ◌∷◌, ◌++◌, length, reverse, All, Option, Some, None, refl, sym, ap, ◌∙◌, arith, subst}
use Rattle.std.specs.Prelude.{ℤ, IsSome}
use Rattle.std.proofs.lemmas.List.{reverse-append}
use Rattle.std.proofs.lemmas.List.Elements.{All-append, All-head, All-tail, All-nil, All-cons}
use Rattle.prolog_terms.specs.Tree.{Tree}
use Rattle.term_store.specs.declared.cell.Cell.{Cell}
use Rattle.term_store.specs.Shape.{Shape}
use Rattle.term_store.specs.Terms.{term_of, HasTerm}
use Rattle.prolog_arith.specs.declared.operation.Operation.{Operation}
use Rattle.prolog_arith.specs.declared.faults.EvalFault.{EvalFault}
use Rattle.prolog_arith.specs.declared.faults.EvalFault.TheVariants as of_fault
use Rattle.prolog_arith.specs.declared.evaluation.Task.{Task}
use Rattle.prolog_arith.specs.declared.evaluation.Task.TheVariants.{Evaluate, Apply}
use Rattle.prolog_arith.specs.Arithmetic.{Value, Is, Raises}
use Rattle.prolog_arith.specs.Work.{go_on, taken, resumed, finished, value_at, tasks_size, HasCell, IsCause, IsApplied, IsRefused, IsEvaluated, IsUnderWay}

same_value : (v w : Value) → Some v ≡ Some w → v ≡ w
same_value v w e = cc

no_tasks : (ts : List Task) → length ts ≡ 0 → ts ≡ []
no_tasks [] e = refl
no_tasks (t ∷ ts) e = absurd (omega arith)

no_values : (xs : List ℤ) → length xs ≡ 0 → xs ≡ []
no_values [] e = refl
no_values (x ∷ xs) e = absurd (omega arith)

tasks_size-append : (tree : Cell → Tree) (xs ys : List Task) → tasks_size tree (xs ++ ys) ≡ tasks_size tree xs + tasks_size tree ys
tasks_size-append tree [] ys = omega arith
tasks_size-append tree (t ∷ xs) ys = let h = tasks_size-append tree xs ys in omega (arith, h)

-- a fault of what comes first is that of the whole
first-fault : (v w : Value) (rest : ℤ → Option Value) (e : EvalFault) → go_on v rest ≡ Some w → IsCause e v → IsCause e w
first-fault v w rest (of_fault.Fault f) comes is =
    same_value w (Raises f) (sym comes ∙ ap (λ (u : Value). go_on u rest) is)
first-fault v w rest of_fault.Want comes is = tt

some_taken : (p : Option (Value × List ℤ)) (rest : List ℤ → Option Value) (w : Value) → resumed p rest ≡ Some w → IsSome p
some_taken None rest w e = absurd cc
some_taken (Some q) rest w e = refl

module _ (texts : List (List ℕ)) (s : Shape) (c : Cell) where
  start : (v : Value) → go_on v (λ z. Some (Is z)) ≡ Some v
  start (Is z) = refl
  start (Raises e) = refl

  pub way-start : HasTerm (length texts) s c → IsUnderWay texts s c (Evaluate c ∷ []) []
  way-start has = record { valid = All-cons (HasCell (length texts) s) (Evaluate c) [] has (All-nil (HasCell (length texts) s)); comes = start (value_at texts s c) }

  module _ (old rest : List Task) (values longer : List ℤ) where
    turned : (t : Task) → old ≡ rest ++ t ∷ [] → reverse old ≡ t ∷ reverse rest
    turned t popped = ap reverse popped ∙ reverse-append rest (t ∷ [])

    comes : (t : Task) → old ≡ rest ++ t ∷ [] → IsUnderWay texts s c old values → finished (value_at texts s) (t ∷ reverse rest) (reverse values) ≡ Some (value_at texts s c)
    comes t popped way = ap (λ (ts : List Task). finished (value_at texts s) ts (reverse values)) (sym (turned t popped)) ∙ way.comes

    valid : (t : Task) → old ≡ rest ++ t ∷ [] → IsUnderWay texts s c old values → All (HasCell (length texts) s) (t ∷ reverse rest)
    valid t popped way = subst (All (HasCell (length texts) s)) (turned t popped) way.valid

    pub way-cell : (d : Cell) → old ≡ rest ++ Evaluate d ∷ [] → IsUnderWay texts s c old values → HasTerm (length texts) s d
    way-cell d popped way = All-head (HasCell (length texts) s) (Evaluate d) (reverse rest) (valid (Evaluate d) popped way)

    pub way-evaluated : (after : List Task) (d : Cell) → old ≡ rest ++ Evaluate d ∷ [] → IsUnderWay texts s c old values → IsEvaluated texts s d rest after values longer
        → IsUnderWay texts s c after longer
    way-evaluated after d popped way step = record {
      valid = subst (All (HasCell (length texts) s)) (sym step.after_is)
          (All-append (HasCell (length texts) s) step.added (reverse rest) step.valid (All-tail (HasCell (length texts) s) (Evaluate d) (reverse rest) (valid (Evaluate d) popped way)));
      comes = ap (λ (ts : List Task). finished (value_at texts s) ts (reverse longer)) step.after_is ∙ step.comes (reverse rest) ∙ comes (Evaluate d) popped way;
    }

    pub way-evaluated-smaller : (after : List Task) (d : Cell) → old ≡ rest ++ Evaluate d ∷ [] → IsEvaluated texts s d rest after values longer
        → tasks_size (term_of texts s) (reverse after) < tasks_size (term_of texts s) (reverse old)
    way-evaluated-smaller after d popped step =
        let a = ap (tasks_size (term_of texts s)) (turned (Evaluate d) popped) in
        let b = ap (tasks_size (term_of texts s)) step.after_is ∙ tasks_size-append (term_of texts s) step.added (reverse rest) in
        let k = step.smaller in omega (arith, a, b, k)

    pub way-evaluated-fault : (d : Cell) (e : EvalFault) → old ≡ rest ++ Evaluate d ∷ [] → IsUnderWay texts s c old values → IsCause e (value_at texts s d) → IsCause e (value_at texts s c)
    way-evaluated-fault d e popped way cause = first-fault (value_at texts s d) (value_at texts s c) _ e (comes (Evaluate d) popped way) cause

    pub way-enough : (o : Operation) → old ≡ rest ++ Apply o ∷ [] → IsUnderWay texts s c old values → IsSome (taken o (reverse values))
    way-enough o popped way = some_taken (taken o (reverse values)) (finished (value_at texts s) (reverse rest)) (value_at texts s c) (comes (Apply o) popped way)

    pub way-applied : (o : Operation) → old ≡ rest ++ Apply o ∷ [] → IsUnderWay texts s c old values → IsApplied o values longer → IsUnderWay texts s c rest longer
    way-applied o popped way step = record {
      valid = All-tail (HasCell (length texts) s) (Apply o) (reverse rest) (valid (Apply o) popped way);
      comes =
          ap (finished (value_at texts s) (reverse rest)) step.new_is
          ∙ sym (ap (λ (p : Option (Value × List ℤ)). resumed p (finished (value_at texts s) (reverse rest))) step.taken_is)
          ∙ comes (Apply o) popped way;
    }

    pub way-applied-smaller : (o : Operation) → old ≡ rest ++ Apply o ∷ [] → tasks_size (term_of texts s) (reverse rest) < tasks_size (term_of texts s) (reverse old)
    way-applied-smaller o popped = let a = ap (tasks_size (term_of texts s)) (turned (Apply o) popped) in omega (arith, a)

    pub way-applied-fault : (o : Operation) (e : EvalFault) → old ≡ rest ++ Apply o ∷ [] → IsUnderWay texts s c old values → IsRefused o values e → IsCause e (value_at texts s c)
    way-applied-fault o e popped way step =
        first-fault step.given (value_at texts s c) (λ z. finished (value_at texts s) (reverse rest) (z ∷ step.below)) e
        (sym (ap (λ (p : Option (Value × List ℤ)). resumed p (finished (value_at texts s) (reverse rest))) step.taken_is) ∙ comes (Apply o) popped way)
        step.cause

  ended : (tasks : List Task) (values : List ℤ) → length tasks ≡ 0 → IsUnderWay texts s c tasks values → finished (value_at texts s) [] (reverse values) ≡ Some (value_at texts s c)
  ended tasks values none_left way = ap (λ (ts : List Task). finished (value_at texts s) (reverse ts) (reverse values)) (sym (no_tasks tasks none_left)) ∙ way.comes

  -- the last value, which is the only one
  only : (z : ℤ) (below : List ℤ) (w : Value) → finished (value_at texts s) [] (z ∷ below) ≡ Some w → w ≡ Is z
  only z [] w e = sym (same_value (Is z) w e)
  only z (y ∷ below) w e = absurd cc

  pub way-end : (tasks : List Task) (values below : List ℤ) (z : ℤ) → length tasks ≡ 0 → IsUnderWay texts s c tasks values → values ≡ below ++ z ∷ [] → value_at texts s c ≡ Is z
  way-end tasks values below z none_left way popped =
      only z (reverse below) (value_at texts s c)
      (ap (finished (value_at texts s) []) (sym (ap reverse popped ∙ reverse-append below (z ∷ []))) ∙ ended tasks values none_left way)

  pub way-some : (tasks : List Task) (values : List ℤ) → length tasks ≡ 0 → IsUnderWay texts s c tasks values → length values ≡ 0 → ⊥
  way-some tasks values none_left way none_there =
      nothing (value_at texts s c) (ap (λ (xs : List ℤ). finished (value_at texts s) [] (reverse xs)) (sym (no_values values none_there)) ∙ ended tasks values none_left way)
    where
      nothing : (w : Value) → None ≡ Some w → ⊥
      nothing w e = cc
