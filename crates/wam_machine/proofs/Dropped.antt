-- Moments that are taken away, with the calls among them.
use Rattle.std.proofs.Common.{◌≡◌, ℕ, ◌+◌, ◌<◌, List, [], ◌∷◌, ◌++◌, length, take, refl, sym, ap, ◌∙◌, arith, subst}
use Rattle.std.specs.List.{cons_option}
use Rattle.std.specs.Prelude.{Option, Some, None}
use Rattle.std.proofs.lemmas.List.{length-append, take-append-le}
use Rattle.journal_base.specs.Goals.{Goal}
use Rattle.journal_base.specs.View.{Out, opened}
use Rattle.wam_machine.specs.Cursors.{goal_of}
use Rattle.wam_machine.specs.Choices.{IsCallOf}
use Rattle.wam_machine.specs.Terms.{Left, Turn, OfCall, OfRight, OfRepeat, OfNot, OfCatch, OfFindall, Saved, call_in, calls_in}
use Rattle.wam_machine.specs.View.{AreKept}
use Rattle.wam_machine.specs.declared.terms.Call.{Call}
use Rattle.wam_machine.proofs.Acted.{calls-push, calls-beside}
use Rattle.wam_machine.proofs.Kept.{last_serves, last_out, kept_without}

pub dropped-call : {C : Type 0} (t : Turn C) (call : Call C) → IsCallOf t (Some call) → (left : Left C) × ((call_in t ≡ Some left) × (left.cursor ≡ call.cursor))
dropped-call (OfCall left) call e = (left, (refl, e))
dropped-call (OfRight g h) call e = absurd e
dropped-call OfRepeat call e = absurd e
dropped-call OfNot call e = absurd e
dropped-call (OfCatch c r) call e = absurd e
dropped-call (OfFindall l f) call e = absurd e

pub dropped-none : {C : Type 0} (t : Turn C) → IsCallOf t None → call_in t ≡ None
dropped-none (OfCall left) e = absurd e
dropped-none (OfRight g h) e = refl
dropped-none OfRepeat e = refl
dropped-none OfNot e = refl
dropped-none (OfCatch c r) e = refl
dropped-none (OfFindall l f) e = refl

-- the calls of a stack with one more call
pub calls-call : {C : Type 0} (ss : List (Saved C)) (s : Saved C) (left : Left C) → call_in s.turn ≡ Some left → calls_in (ss ++ s ∷ []) ≡ calls_in ss ++ left ∷ []
calls-call {C} ss s left e = calls-push ss s ∙ ap (λ (o : Option (Left C)). calls_in ss ++ cons_option o []) e

module _ {C : Type 0} (stack xs : List (Saved C)) (s : Saved C) (is : stack ≡ xs ++ s ∷ []) where
  pub shorter : length xs < length stack
  shorter = let a : length stack ≡ length (xs ++ s ∷ []) = ap length is in let b : length (xs ++ s ∷ []) ≡ length xs + 1 = length-append xs (s ∷ []) in omega arith

  -- what is within a height below it stays
  pub taken-on : (h : ℕ) → h < length stack → take h xs ≡ take h stack
  taken-on h l =
      let a : length stack ≡ length (xs ++ s ∷ []) = ap length is in
      let b : length (xs ++ s ∷ []) ≡ length xs + 1 = length-append xs (s ∷ []) in
      sym (take-append-le h xs (s ∷ []) (omega arith)) ∙ ap (take h) (sym is)

  module _ (group : C → ℕ) (serves : C → Goal → Type 0) (out : Out) (kept : AreKept serves group out (calls_in stack)) where
    -- it is no call
    pub kept-beside : call_in s.turn ≡ None → AreKept serves group out (calls_in xs)
    kept-beside e = subst (AreKept serves group out) (ap calls_in is ∙ calls-beside xs s e) kept

    -- it is this call
    module _ (call : Call C) (found : (left : Left C) × ((call_in s.turn ≡ Some left) × (left.cursor ≡ call.cursor))) where
      kept-last : AreKept serves group out (calls_in xs ++ found.0 ∷ [])
      kept-last = subst (AreKept serves group out) (ap calls_in is ∙ calls-call xs s found.0 found.1.0) kept

      pub call-serves : (g : Goal) × serves call.cursor g
      call-serves = (goal_of found.0, subst (λ (k : C). serves k (goal_of found.0)) found.1.1 (last_serves group serves out (calls_in xs) found.0 kept-last))

      pub call-out : 0 < out.of_group (group call.cursor)
      call-out = subst (λ (k : C). 0 < out.of_group (group k)) found.1.1 (last_out group serves out (calls_in xs) found.0 kept-last)

      pub kept-given : (serves_after : C → Goal → Type 0) (after : Out) → ((d : C) (g : Goal) → serves d g → 0 < after.of_group (group d) → serves_after d g)
          → out ≡ opened (group call.cursor) after → AreKept serves_after group after (calls_in xs)
      kept-given serves_after after others gives =
          kept_without group serves out (calls_in xs) serves_after after found.0 kept-last others (gives ∙ ap (λ (k : C). opened (group k) after) (sym found.1.1))
