-- The machine's moves at the engine's states.
use Rattle.std.proofs.Common.{◌≡◌, ℕ, suc, ◌+◌, List, [], ◌∷◌, Bool, true, false, refl, ◌∙◌, ap, arith, inl, inr, Some}
use Rattle.std.specs.Prelude.{◌==◌, ◌≢◌, ◌⊎◌, ◌||◌}
use Rattle.std.specs.List.{list_any}
use Rattle.std.proofs.lemmas.Bool.Decides.{eqb_tells}
use Rattle.prolog_terms.specs.Tree.{Tree}
use Rattle.journal_base.specs.Goals.{Goal}
use Rattle.journals.specs.Journal.{Journal}
use Rattle.wam_machine.specs.Control.{Control, True, Fail, Cut, Repeat, Both, Either, IfElse, If, Not, Call, Once, Catch, Findall, Throw, Halt, HaltWith, Database, Builtin, User, control_of}
use Rattle.wam_machine.specs.States as spec
use Rattle.wam_machine.specs.States.{Next, Do, Alternative, Clauses, Right, Again, NotMark, CatchMark, FindallMark, State, Setting, Outcome, Goes, Ends, Deed, Report, Failing, stepping, over}
use Rattle.wam_machine.specs.Machine.{move, goal_move, doing, performing, taken, back_to, is_alternative}
use Rattle.wam_machine.specs.Laws.{newest}
use Rattle.wam_machine.specs.Terms.{Turn, OfCall, OfRight, OfRepeat, OfNot, OfCatch, OfFindall, Saved, is_open, is_any_open}
use Rattle.wam_machine.specs.View.{alternative_of, choice_of, stack_of, resuming}
use Rattle.wam_machine.specs.declared.run.Event.{Event}
use Rattle.wam_machine.specs.declared.run.RunEnd.{RunEnd}
use Rattle.wam_machine.specs.declared.run.RunEnd.TheVariants.{Exhausted, Spent}

-- ---- the stack

either_way : (a b c : Bool) → (a || (b || c)) ≡ ((b || a) || c)
either_way true true c = refl
either_way true false c = refl
either_way false true c = refl
either_way false false c = refl

module _ {C : Type 0} (rest : C → Goal → Journal → List ℕ) (at : C → ℕ) (j : Journal) where
  pub open-is : (t : Turn C) → is_alternative (alternative_of rest at j t) ≡ is_open t
  open-is (OfCall c) = refl
  open-is (OfRight g h) = refl
  open-is OfRepeat = refl
  open-is OfNot = refl
  open-is (OfCatch c r) = refl
  open-is (OfFindall l f) = refl

  any-onto : (xs : List (Saved C)) (onto : List spec.Choice)
      → list_any (λ c. is_alternative c.what) (newest (choice_of rest at j) xs onto) ≡ (is_any_open xs || list_any (λ c. is_alternative c.what) onto)
  any-onto [] onto = refl
  any-onto (x ∷ xs) onto =
      any-onto xs (choice_of rest at j x ∷ onto)
      ∙ ap (λ (b : Bool). is_any_open xs || (b || list_any (λ c. is_alternative c.what) onto)) (open-is x.turn)
      ∙ either_way (is_any_open xs) (is_open x.turn) (list_any (λ c. is_alternative c.what) onto)

  false_last : (b : Bool) → (b || false) ≡ b
  false_last true = refl
  false_last false = refl

  -- an alternative is left on the stack
  pub any-stack : (xs : List (Saved C)) → list_any (λ c. is_alternative c.what) (stack_of rest at j xs) ≡ is_any_open xs
  any-stack xs = any-onto xs [] ∙ false_last (is_any_open xs)

-- ---- tests

pub differ : (m n : ℕ) → m ≢ n → (m == n) ≡ false
differ m n h = go (eqb_tells m n)
  where
    go : ((m == n) ≡ true) × (m ≡ n) ⊎ ((m == n) ≡ false) × (m ≢ n) → (m == n) ≡ false
    go (inl (d, e)) = absurd (h e)
    go (inr (d, e)) = d

pub agree : (m n : ℕ) → m ≡ n → (m == n) ≡ true
agree m n h = go (eqb_tells m n)
  where
    go : ((m == n) ≡ true) × (m ≡ n) ⊎ ((m == n) ≡ false) × (m ≢ n) → (m == n) ≡ true
    go (inl (d, e)) = d
    go (inr (d, e)) = absurd (e h)

-- ---- steps

-- a goal that takes a step: no conjunction
abbrev pub TakesStep : Control → Type 0
TakesStep True = Unit {0}
TakesStep Fail = Unit {0}
TakesStep Cut = Unit {0}
TakesStep Repeat = Unit {0}
TakesStep (Both a b) = ⊥
TakesStep (Either a b) = Unit {0}
TakesStep (IfElse c t e) = Unit {0}
TakesStep (If c t) = Unit {0}
TakesStep (Not g) = Unit {0}
TakesStep (Call g added) = Unit {0}
TakesStep (Once g) = Unit {0}
TakesStep (Catch g c r) = Unit {0}
TakesStep (Findall t g l) = Unit {0}
TakesStep (Throw b) = Unit {0}
TakesStep Halt = Unit {0}
TakesStep (HaltWith n) = Unit {0}
TakesStep (Database a) = Unit {0}
TakesStep (Builtin row args) = Unit {0}
TakesStep (User i) = Unit {0}

pub doing-steps : (x : Setting) (goal : Tree) (cut : ℕ) (s : State) (c : Control) → TakesStep c → doing x goal cut s c ≡ stepping x s (performing x goal cut c)
doing-steps x goal cut s True h = refl
doing-steps x goal cut s Fail h = refl
doing-steps x goal cut s Cut h = refl
doing-steps x goal cut s Repeat h = refl
doing-steps x goal cut s (Both a b) h = absurd h
doing-steps x goal cut s (Either a b) h = refl
doing-steps x goal cut s (IfElse c t e) h = refl
doing-steps x goal cut s (If c t) h = refl
doing-steps x goal cut s (Not g) h = refl
doing-steps x goal cut s (Call g added) h = refl
doing-steps x goal cut s (Once g) h = refl
doing-steps x goal cut s (Catch g c r) h = refl
doing-steps x goal cut s (Findall t g l) h = refl
doing-steps x goal cut s (Throw b) h = refl
doing-steps x goal cut s Halt h = refl
doing-steps x goal cut s (HaltWith n) h = refl
doing-steps x goal cut s (Database a) h = refl
doing-steps x goal cut s (Builtin row args) h = refl
doing-steps x goal cut s (User i) h = refl

pub taken-steps : (x : Setting) (s : State) (a : Alternative) → is_alternative a ≡ true → taken x s a ≡ stepping x s (resuming x a)
taken-steps x s (Clauses used goal cs) h = refl
taken-steps x s (Right goal cut) h = refl
taken-steps x s Again h = refl
taken-steps x s NotMark h = absurd (cc h)
taken-steps x s (CatchMark c r) h = absurd (cc h)
taken-steps x s (FindallMark l f) h = absurd (cc h)

pub stepping-on : (x : Setting) (s : State) (f : State → Outcome) → s.steps ≢ x.budget → stepping x s f ≡ f (record s { steps = s.steps + 1 })
stepping-on x s f d =
    let n : suc s.steps ≡ s.steps + 1 = omega arith in
    rw (differ s.steps x.budget d) (ap (λ (k : ℕ). f (record s { steps = k })) n)

-- ---- ends

abbrev pub report : List Event → List Deed → ℕ → ℕ → RunEnd → Report
report events deeds tried steps end = record { events = events; deeds = deeds; tried = tried; steps = steps; end = end }

pub over-ended : (x : Setting) (s : State) (end : RunEnd) → s.fronts ≡ [] → over x s end ≡ Ends (report s.events s.deeds s.tried s.steps end)
over-ended x s end none = rw none refl

pub stepping-spent : (x : Setting) (s : State) (f : State → Outcome) → s.fronts ≡ [] → s.steps ≡ x.budget → stepping x s f ≡ Ends (report s.events s.deeds s.tried s.steps (Spent s.steps))
stepping-spent x s f none d = rw (agree s.steps x.budget d) (over-ended x s (Spent s.steps) none)

-- ---- a goal

module _ (x : Setting) (goal : Tree) (cut : ℕ) (s : State) (c : Control) (is : control_of goal ≡ Some c) where
  pub goal_steps : TakesStep c → s.steps ≢ x.budget → goal_move x goal cut s (control_of goal) ≡ performing x goal cut c (record s { steps = s.steps + 1 })
  goal_steps takes d = ap (goal_move x goal cut s) is ∙ doing-steps x goal cut s c takes ∙ stepping-on x s (performing x goal cut c) d

  pub goal_spent : TakesStep c → s.fronts ≡ [] → s.steps ≡ x.budget → goal_move x goal cut s (control_of goal) ≡ Ends (report s.events s.deeds s.tried s.steps (Spent s.steps))
  goal_spent takes none d = ap (goal_move x goal cut s) is ∙ doing-steps x goal cut s c takes ∙ stepping-spent x s (performing x goal cut c) none d

pub goal_both : (x : Setting) (goal a b : Tree) (cut : ℕ) (s : State) → control_of goal ≡ Some (Both a b) → goal_move x goal cut s (control_of goal) ≡ Goes (record s { goals = Do a cut ∷ Do b cut ∷ s.goals })
goal_both x goal a b cut s is = ap (goal_move x goal cut s) is

-- ---- after a failure

module _ (x : Setting) (s : State) where
  pub exhausted : s.mode ≡ Failing → s.stack ≡ [] → s.fronts ≡ [] → move x s ≡ Ends (report s.events s.deeds s.tried s.steps Exhausted)
  exhausted mode none fronts = rw (mode, none) (over-ended x s Exhausted fronts)

  pub fails_back : (c : spec.Choice) (below : List spec.Choice) → s.mode ≡ Failing → s.stack ≡ c ∷ below → move x s ≡ taken x (back_to s c below) c.what
  fails_back c below mode stack = rw (mode, stack) refl
