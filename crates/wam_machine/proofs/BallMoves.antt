-- A ball that is raised, a `catch` that is left and the end of a run by `halt` are the machine's moves.
use Rattle.std.proofs.Common.{◌≡◌, ℕ, ◌+◌, ◌-◌, ◌<◌, ◌≤◌, List, [], ◌∷◌, ◌++◌, length, take, drop, Bool, true, false, refl, sym, ap, ◌∙◌, arith, subst, Option, Some, None}
use Rattle.std.specs.Prelude.{◌==◌, MatchOption, nat_lt, if◌then◌else◌}
use Rattle.std.proofs.lemmas.Bool.Decides.{nat_tests}
use Rattle.std.proofs.lemmas.List.{length-append, take-append-le, take_all}
use Rattle.prolog_terms.specs.Tree.{Tree}
use Rattle.journal_base.specs.Goals.{Goal}
use Rattle.journals.specs.Journal.{Journal}
use Rattle.journal_base.specs.View.{View, Out}
use Rattle.wam_machine.specs.States as spec
use Rattle.wam_machine.specs.States.{State, Setting, Outcome, Goes, Ends, Deed, height, cut_to, cut_back, over}
use Rattle.wam_machine.specs.Machine.{leaving_catch, active_catch, caught, raising, reached, reaching, halting, move}
use Rattle.wam_machine.specs.Terms.{Turn, OfCall, OfRight, OfRepeat, OfNot, OfCatch, OfFindall, AreTerms, HasCatch, is_catch, said, calls_in}
use Rattle.wam_machine.specs.View.{alternative_of, choice_of, stack_of, state_of, mode_of, calls, Acts, AreKept, GoesOn, ComesToEnd, Does, IsHeld, IsHeldIn, IsLeft}
use Rattle.wam_machine.specs.declared.run.RunEnd.{RunEnd}
use Rattle.wam_machine.specs.declared.run.RunEnd.TheVariants.{Ball}
use Rattle.wam_machine.specs.declared.state.Machine.{Machine}
use Rattle.wam_machine.specs.declared.state.Mode.TheVariants.{Raising as RaisingBall}
use Rattle.wam_machine.specs.declared.terms.Terms.{Terms}
use Rattle.wam_machine.proofs.Acted.{stack-push, stack-height, stack-cut}
use Rattle.wam_machine.proofs.BallTerms.{same_ball}
use Rattle.wam_machine.proofs.Done.{acts_goes, acts_left, acts_kept}
use Rattle.wam_machine.proofs.Going.{left_same}
use Rattle.wam_machine.proofs.Moves.{over-ended}
use Rattle.wam_machine.proofs.Steps.{through, does_through}

-- ---- a `catch` that is left

minus_itself : (n : ℕ) → n - n ≡ 0
minus_itself n = omega arith

leaves : (h : ℕ) (s : State) → leaving_catch h s ≡ cut_back (if height s == h then h - 1 else height s) s
leaves h s = go (height s == h)
  where
    go : (b : Bool) → (if b then cut_back (h - 1) s else s) ≡ cut_back (if b then h - 1 else height s) s
    go true = refl
    go false = ap (λ (k : ℕ). let r : State = record s { stack = drop k s.stack } in r) (sym (minus_itself (height s)))

-- ---- a moment that is no mark of a `catch`

reach_drops : {C : Type 0} (rest : C → Goal → Journal → List ℕ) (at : C → ℕ) (j : Journal) (ball : Tree) (s : State) (below : List spec.Choice) (c : spec.Choice) (t : Turn C) → is_catch t ≡ false
    → reaching ball s below c (alternative_of rest at j t) ≡ Goes (record s { stack = below })
reach_drops rest at j ball s below c (OfCall l) e = refl
reach_drops rest at j ball s below c (OfRight g h) e = refl
reach_drops rest at j ball s below c OfRepeat e = refl
reach_drops rest at j ball s below c OfNot e = refl
reach_drops rest at j ball s below c (OfCatch w r) e = let t : true ≡ false = e in absurd cc
reach_drops rest at j ball s below c (OfFindall l f) e = refl

lower : (m n : ℕ) → m < n → nat_lt m n ≡ true
lower m n h = grind (arith, nat_tests)

no_lower : (m n : ℕ) → n ≤ m → nat_lt m n ≡ false
no_lower m n h = grind (arith, nat_tests)

module _ {C : Type 0} (rest : C → Goal → Journal → List ℕ) (may : C → Goal → Journal → ℕ) (at : C → ℕ) (ahead : C → ℕ) (causes : List ℕ) where
  -- by a function that gives the same there
  pub goes_as : (f h : State → Outcome) (j : Journal) (old new : Machine C)
      → ((looks : List Deed) (tried : ℕ) (fronts : List ℕ) → h (state_of rest at j old looks tried fronts) ≡ f (state_of rest at j old looks tried fronts))
      → GoesOn rest may at ahead causes [] f j old new → GoesOn rest may at ahead causes [] h j old new
  goes_as f h j old new by on = through rest may at ahead causes f h j old old new refl refl refl by on

  pub goes_leaving : (h kept : ℕ) (j : Journal) (old new : Machine C) → kept ≡ (if length (said old.terms).stack == h then h - 1 else length (said old.terms).stack)
      → GoesOn rest may at ahead causes [] (λ s. Goes (cut_back kept s)) j old new → GoesOn rest may at ahead causes [] (λ s. Goes (leaving_catch h s)) j old new
  goes_leaving h kept j old new is on =
      goes_as (λ s. Goes (cut_back kept s)) (λ s. Goes (leaving_catch h s)) j old new
      (λ looks tried fronts.
      let s : State = state_of rest at j old looks tried fronts in
      ap (λ (t : State). Goes t) (leaves h s)
      ∙ ap (λ (n : ℕ). Goes (cut_back (if n == h then h - 1 else n) s)) (stack-height rest at j (said old.terms).stack)
      ∙ ap (λ (k : ℕ). Goes (cut_back k s)) (sym is)) on

  -- ---- the way of a ball

  -- what is above the mark of the active `catch` is taken away
  pub goes_caught : (x : Setting) (ball : Tree) (h : ℕ) (j : Journal) (old new : Machine C) → Some h ≡ active_catch (said old.terms).goals → h < length (said old.terms).stack
      → GoesOn rest may at ahead causes [] (λ s. Goes (cut_back h s)) j old new → GoesOn rest may at ahead causes [] (λ s. raising x s ball) j old new
  goes_caught x ball h j old new active high on =
      goes_as (λ s. Goes (cut_back h s)) (λ s. raising x s ball) j old new
      (λ looks tried fronts.
      let s : State = state_of rest at j old looks tried fronts in
      ap (λ (o : Option ℕ). caught x ball s o) (sym active)
      ∙ ap (λ (b : Bool). if b then Goes (cut_back h s) else reached x ball s s.stack) (ap (λ (n : ℕ). nat_lt h n) (stack-height rest at j (said old.terms).stack) ∙ lower h (length (said old.terms).stack) high)) on

  -- the mark is reached
  pub does_reach : (x : Setting) (ball : Tree) (h : ℕ) (old new : Machine C) (o : Option RunEnd) → Some h ≡ active_catch (said old.terms).goals → length (said old.terms).stack ≤ h
      → Does rest may at ahead causes [] (λ s. reached x ball s s.stack) x old new o → Does rest may at ahead causes [] (λ s. raising x s ball) x old new o
  does_reach x ball h old new o active low on =
      does_through rest may at ahead causes [] (λ s. reached x ball s s.stack) (λ s. raising x s ball) x old old new o refl refl refl
      (λ looks tried fronts.
      let s : State = state_of rest at x.journal old looks tried fronts in
      ap (λ (k : Option ℕ). caught x ball s k) (sym active)
      ∙ ap (λ (b : Bool). if b then Goes (cut_back h s) else reached x ball s s.stack)
      (ap (λ (n : ℕ). nat_lt h n) (stack-height rest at x.journal (said old.terms).stack) ∙ no_lower h (length (said old.terms).stack) low)) on

  -- another moment stands there, and is taken away
  pub goes_dropping : (x : Setting) (ball : Tree) (k : ℕ) (j : Journal) (old new : Machine C) → k ≡ length (said old.terms).stack - 1 → HasCatch (said old.terms).stack false
      → GoesOn rest may at ahead causes [] (λ s. Goes (cut_back k s)) j old new → GoesOn rest may at ahead causes [] (λ s. reached x ball s s.stack) j old new
  goes_dropping x ball k j old new is (ss, (u, (stack, other))) on =
      goes_as (λ s. Goes (cut_back k s)) (λ s. reached x ball s s.stack) j old new
      (λ looks tried fronts.
      let s : State = state_of rest at j old looks tried fronts in
      let top : stack_of rest at j (said old.terms).stack ≡ choice_of rest at j u ∷ stack_of rest at j ss = ap (stack_of rest at j) stack ∙ stack-push rest at j ss u in
      ap (λ (cs : List spec.Choice). reached x ball s cs) top
      ∙ reach_drops rest at j ball s (stack_of rest at j ss) (choice_of rest at j u) u.turn other
      ∙ ap (λ (cs : List spec.Choice). Goes (record s { stack = cs })) (sym (stack-cut rest at j (said old.terms).stack k ∙ ap (stack_of rest at j) below))) on
    where
      below : take k (said old.terms).stack ≡ ss
      below =
          let n : length (said old.terms).stack ≡ length (ss ++ u ∷ []) = ap length stack in
          let m : length (ss ++ u ∷ []) ≡ length ss + 1 = length-append ss (u ∷ []) in
          let low : k ≤ length ss = omega arith in
          let high : length ss ≤ k = omega arith in
          ap (take k) stack ∙ take-append-le k ss (u ∷ []) low ∙ take_all k ss high

  -- ---- the end of a run

  pub comes_over : (f : State → Outcome) (x : Setting) (old new : Machine C) (end : RunEnd) → new ≡ record old { mode = new.mode }
      → ((looks : List Deed) (tried : ℕ) → f (state_of rest at x.journal old looks tried []) ≡ over x (state_of rest at x.journal old looks tried []) end) → ComesToEnd rest at [] f x old new end
  comes_over f x old new end same by = record {
    made_is = refl;
    fronts_are = ap (λ (m : Machine C). m.fronts.items) same;
    tally_is = ap (λ (m : Machine C). m.tally) same;
    ends = λ deeds tried.
        by deeds tried
        ∙ over-ended x (state_of rest at x.journal old deeds tried []) end refl
        ∙ ap (λ (m : Machine C). Ends (record { events = m.events.items; deeds = deeds; tried = tried; steps = m.steps; end = end })) (sym same);
  }

  -- a ball that nothing catches
  pub does_uncaught : (f : State → Outcome) (x : Setting) (old new : Machine C) (ball : Tree) (o : Option RunEnd) → old.mode ≡ RaisingBall ball → new ≡ record old { mode = new.mode }
      → MatchOption o ⊥ (λ end. (b : Tree) × ((old.mode ≡ RaisingBall b) × (end ≡ Ball b)))
      → ((looks : List Deed) (tried : ℕ) → f (state_of rest at x.journal old looks tried []) ≡ over x (state_of rest at x.journal old looks tried []) (Ball ball))
      → Does rest may at ahead causes [] f x old new o
  does_uncaught f x old new ball None mode same h by = absurd h
  does_uncaught f x old new ball (Some end) mode same h by =
      let is : end ≡ Ball ball = h.1.1 ∙ ap (λ (t : Tree). Ball t) (same_ball h.0 ball (sym h.1.0 ∙ mode)) in
      subst (λ (e : RunEnd). ComesToEnd rest at [] f x old new e) (sym is) (comes_over f x old new (Ball ball) same by)

  pub does_outside : (x : Setting) (old new : Machine C) (ball : Tree) (o : Option RunEnd) → old.mode ≡ RaisingBall ball → new ≡ record old { mode = new.mode }
      → MatchOption o ⊥ (λ end. (b : Tree) × ((old.mode ≡ RaisingBall b) × (end ≡ Ball b))) → None ≡ active_catch (said old.terms).goals
      → Does rest may at ahead causes [] (λ s. raising x s ball) x old new o
  does_outside x old new ball o mode same h none =
      does_uncaught (λ s. raising x s ball) x old new ball o mode same h (λ looks tried. ap (λ (k : Option ℕ). caught x ball (state_of rest at x.journal old looks tried []) k) (sym none))

  pub does_below : (x : Setting) (old new : Machine C) (ball : Tree) (o : Option RunEnd) → old.mode ≡ RaisingBall ball → new ≡ record old { mode = new.mode }
      → MatchOption o ⊥ (λ end. (b : Tree) × ((old.mode ≡ RaisingBall b) × (end ≡ Ball b))) → (said old.terms).stack ≡ []
      → Does rest may at ahead causes [] (λ s. reached x ball s s.stack) x old new o
  does_below x old new ball o mode same h none =
      does_uncaught (λ s. reached x ball s s.stack) x old new ball o mode same h
      (λ looks tried. ap (λ (cs : List spec.Choice). reached x ball (state_of rest at x.journal old looks tried []) cs) (ap (stack_of rest at x.journal) none))

  -- ---- `halt`

  pub does_halt : (w : Tree) (x : Setting) (old new : Machine C) (o : Option RunEnd)
      → MatchOption o ((y : Setting) → Acts (halting y w) old new) (λ end. (new ≡ old) × ((y : Setting) (s : State) → halting y w s ≡ over y s end))
      → IsHeldIn rest may at x.journal old.tally (calls old) → Does rest may at ahead causes [] (halting x w) x old new o
  does_halt w x old new None h held = acts_goes (halting x w) old new (h x) rest may at ahead causes x.journal held
  does_halt w x old new (Some end) h held =
      subst (λ (m : Machine C). ComesToEnd rest at [] (halting x w) x old m end) (sym h.0) (comes_over (halting x w) x old old end refl (λ looks tried. h.1 x (state_of rest at x.journal old looks tried [])))

  -- ---- a move is that of a ball

  pub does_raising : (x : Setting) (old new : Machine C) (ball : Tree) (o : Option RunEnd) → old.mode ≡ RaisingBall ball
      → Does rest may at ahead causes [] (λ s. raising x s ball) x old new o → Does rest may at ahead causes [] (move x) x old new o
  does_raising x old new ball o mode on =
      does_through rest may at ahead causes [] (λ s. raising x s ball) (move x) x old old new o refl refl refl
      (λ looks tried fronts. raises_so (state_of rest at x.journal old looks tried fronts) (ap mode_of mode)) on
    where
      raises_so : (s : State) → s.mode ≡ spec.Raising ball → move x s ≡ raising x s ball
      raises_so s e = rw e refl

-- ---- what is left

module _ {C : Type 0} (old new : Machine C) (same : new ≡ record old { mode = new.mode }) where
  terms_are : new.terms ≡ old.terms
  terms_are = ap (λ (m : Machine C). m.terms) same

  pub left_mode : (budget : ℕ) (v : View) → AreTerms old.terms → IsHeld budget v old.steps old.front (length (calls old)) old.tally → IsLeft budget v old new
  left_mode budget v terms held =
      left_same budget v old new (subst (λ (t : Terms C). AreTerms t) (sym terms_are) terms) (ap (λ (t : Terms C). (said t).shown) terms_are) (ap (λ (t : Terms C). calls_in (said t).stack) terms_are)
      (ap (λ (m : Machine C). m.steps) same) (ap (λ (m : Machine C). m.front) same) (ap (λ (m : Machine C). m.tally) same) held

  pub kept_mode : (serves : C → Goal → Type 0) (group : C → ℕ) (out : Out) → AreKept serves group out (calls old) → AreKept serves group out (calls new)
  kept_mode serves group out kept = subst (λ (t : Terms C). AreKept serves group out (calls_in (said t).stack)) (sym terms_are) kept

module _ {C : Type 0} (w : Tree) (old new : Machine C) where
  pub left_halt : (o : Option RunEnd) (x : Setting) → MatchOption o ((y : Setting) → Acts (halting y w) old new) (λ end. (new ≡ old) × ((y : Setting) (s : State) → halting y w s ≡ over y s end))
      → (budget : ℕ) (v : View) → AreTerms old.terms → IsHeld budget v old.steps old.front (length (calls old)) old.tally → IsLeft budget v old new
  left_halt None x h budget v terms held = acts_left (halting x w) old new (h x) budget v held
  left_halt (Some end) x h budget v terms held = subst (λ (m : Machine C). IsLeft budget v old m) (sym h.0) (left_mode old old refl budget v terms held)

  pub kept_halt : (o : Option RunEnd) (x : Setting) → MatchOption o ((y : Setting) → Acts (halting y w) old new) (λ end. (new ≡ old) × ((y : Setting) (s : State) → halting y w s ≡ over y s end))
      → (serves : C → Goal → Type 0) (group : C → ℕ) (out : Out) → AreKept serves group out (calls old) → AreKept serves group out (calls new)
  kept_halt None x h serves group out kept = acts_kept (halting x w) old new (h x) serves group out kept
  kept_halt (Some end) x h serves group out kept = subst (λ (m : Machine C). AreKept serves group out (calls m)) (sym h.0) kept
