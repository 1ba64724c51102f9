-- What is done to the mode and the terms alone, as a part of a move.
use Rattle.std.proofs.Common.{ℕ, List, [], length, sym, ap, ◌∙◌, subst, append-nil}
use Rattle.journal_base.specs.Goals.{Goal}
use Rattle.journals.specs.Journal.{Journal}
use Rattle.journal_base.specs.View.{View, Out}
use Rattle.wam_machine.specs.States.{State, Outcome}
use Rattle.wam_machine.specs.View.{Acts, AreKept, GoesOn, IsHeld, IsHeldIn, IsLeft, calls}
use Rattle.wam_machine.specs.declared.state.Machine.{Machine}
use Rattle.wam_machine.proofs.Steps.{quiet}
use Rattle.wam_machine.proofs.Going.{left_same}

module _ {C : Type 0} (f : State → Outcome) (old new : Machine C) (a : Acts f old new) where
  pub acts_goes : (rest : C → Goal → Journal → List ℕ) (may : C → Goal → Journal → ℕ) (at : C → ℕ) (ahead : C → ℕ) (causes : List ℕ) (j : Journal)
      → IsHeldIn rest may at j old.tally (calls old) → GoesOn rest may at ahead causes [] f j old new
  acts_goes rest may at ahead causes j held =
      quiet rest may at ahead causes f j old new [] (ap (λ (m : Machine C). m.fronts.items) a.same ∙ sym (append-nil old.fronts.items))
      (λ looks tried fronts. a.goes rest at j looks tried fronts) (ap (λ (m : Machine C). m.tally) a.same) a.calls_are held

  pub acts_left : (budget : ℕ) (v : View) → IsHeld budget v old.steps old.front (length (calls old)) old.tally → IsLeft budget v old new
  acts_left budget v held =
      left_same budget v old new a.terms a.shown a.calls_are (ap (λ (m : Machine C). m.steps) a.same) (ap (λ (m : Machine C). m.front) a.same) (ap (λ (m : Machine C). m.tally) a.same) held

  pub acts_kept : (serves : C → Goal → Type 0) (group : C → ℕ) (out : Out) → AreKept serves group out (calls old) → AreKept serves group out (calls new)
  acts_kept serves group out kept = subst (AreKept serves group out) (sym a.calls_are) kept
