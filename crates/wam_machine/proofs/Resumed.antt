-- The newest moment is gone back to, and the machine goes on from there.
use Rattle.std.proofs.Common.{◌≡◌, ℕ, ◌+◌, ◌*◌, ◌≤◌, List, [], ◌∷◌, ◌++◌, length, Bool, true, refl, sym, ap, ◌∙◌, arith, subst, append-nil}
use Rattle.std.specs.Prelude.{◌≢◌, All, map}
use Rattle.std.specs.List.{cons_option}
use Rattle.std.proofs.lemmas.List.{length-append}
use Rattle.prolog_terms.specs.Tree.{Tree}
use Rattle.prolog_terms.specs.declared.entry.Entry.{Entry}
use Rattle.journal_base.specs.Goals.{Goal}
use Rattle.journals.specs.Journal.{Journal}
use Rattle.journal_base.specs.Looks.{most_raised}
use Rattle.journal_base.specs.View.{View}
use Rattle.journal_base.specs.declared.tally.Tally.{Tally}
use Rattle.wam_machine.specs.States as spec
use Rattle.wam_machine.specs.Machine as machines
use Rattle.wam_machine.specs.States.{Next, State, Setting, Outcome, Goes, Ends, Look, Deed, Updated}
use Rattle.wam_machine.specs.Machine.{move, back_to}
use Rattle.wam_machine.specs.Cursors.{AreNamed}
use Rattle.wam_machine.specs.Terms.{Left, Turn, OfCall, OfRight, OfRepeat, OfNot, OfCatch, OfFindall, Saved, Said, AreTerms, HasNewest, HasCatch, said, call_in, calls_in, is_open, is_catch}
use Rattle.wam_machine.specs.View.{alternative_of, choice_of, stack_of, mode_of, state_from, state_of, resuming, calls, turn_calls, all_visits, aheads, Acts, GoesOn, ComesToEnd, Works, IsFronted, IsHeld, IsHeldIn, Tries, Resumes, KeepsCounts}
use Rattle.wam_machine.specs.declared.run.RunEnd.TheVariants.{Spent, Exhausted}
use Rattle.wam_machine.specs.declared.state.Machine.{Machine}
use Rattle.wam_machine.specs.declared.state.Mode.{Mode}
use Rattle.wam_machine.specs.declared.state.Mode.TheVariants.{Going as IsGoing, Failing as IsFailing}
use Rattle.wam_machine.specs.declared.terms.Terms.{Terms}
use Rattle.wam_machine.proofs.Acted.{stack-push, calls-push, calls-beside}
use Rattle.wam_machine.proofs.AskedMoves.{no_looks, all_made}
use Rattle.wam_machine.proofs.Moves.{open-is, taken-steps, stepping-on, stepping-spent, exhausted, fails_back}

-- ---- the calls of a turn

one-turn : {C : Type 0} (t : Turn C) → cons_option (call_in t) [] ≡ turn_calls t
one-turn (OfCall c) = refl
one-turn (OfRight g h) = refl
one-turn OfRepeat = refl
one-turn OfNot = refl
one-turn (OfCatch c r) = refl
one-turn (OfFindall l f) = refl

pub calls-turn : {C : Type 0} (ss : List (Saved C)) (s : Saved C) → calls_in (ss ++ s ∷ []) ≡ calls_in ss ++ turn_calls s.turn
calls-turn ss s = calls-push ss s ∙ ap (λ cs. calls_in ss ++ cs) (one-turn s.turn)

-- ---- going on

plus : (n : ℕ) → n ≡ n + 0
plus n = omega arith

module _ {C : Type 0} (rest : C → Goal → Journal → List ℕ) (may : C → Goal → Journal → ℕ) (at : C → ℕ) (ahead : C → ℕ) (x : Setting) where
  pub resumes_call : (made : List Entry) (c : Left C) (old new : Machine C) → Tries rest may at ahead made x c old new → Resumes rest may at ahead made x (OfCall c) old new
  resumes_call made c old new t = record { given = t.given; added = t.added; fronts_are = t.fronts_are; resumed = t.goes; most = t.most; least = t.least; named = t.named }

  pub resumes_acts : (turn : Turn C) (old new : Machine C) → turn_calls turn ≡ [] → Acts (resuming x (alternative_of rest at x.journal turn)) old new → All (AreNamed rest at x.journal) (calls old ++ turn_calls turn)
      → Resumes rest may at ahead [] x turn old new
  resumes_acts turn old new none a named =
      let e : calls old ++ turn_calls turn ≡ calls old = ap (λ cs. calls old ++ cs) none ∙ append-nil (calls old) in
      let visits : new.tally.visits ≡ old.tally.visits = ap (λ (m : Machine C). m.tally.visits) a.same in
      let now : all_visits may at x.journal (calls new) ≡ all_visits may at x.journal (calls old) = ap (all_visits may at x.journal) a.calls_are in
      let before : all_visits may at x.journal (calls old ++ turn_calls turn) ≡ all_visits may at x.journal (calls old) = ap (all_visits may at x.journal) e in
      let now_ahead : aheads ahead (calls new) ≡ aheads ahead (calls old) = ap (aheads ahead) a.calls_are in
      let before_ahead : aheads ahead (calls old ++ turn_calls turn) ≡ aheads ahead (calls old) = ap (aheads ahead) e in
      record {
        given = 0;
        added = [];
        fronts_are = ap (λ (m : Machine C). m.fronts.items) a.same ∙ sym (append-nil old.fronts.items);
        resumed = λ looks tried fronts.
            a.goes rest at x.journal looks tried fronts
            ∙ ap (λ (n : ℕ). Goes (state_of rest at x.journal new looks n fronts)) (plus tried)
            ∙ ap (λ (l : List Deed). Goes (state_of rest at x.journal new l (tried + 0) fronts)) (sym (append-nil looks));
        most = omega arith;
        least = omega arith;
        named = subst (All (AreNamed rest at x.journal)) (e ∙ sym a.calls_are) named;
      }

-- ---- back at a moment

-- the moment, as it is said where it was gone back to
abbrev pub moment : {C : Type 0} → Turn C → Said C → Saved C
moment turn t = record { turn = turn; goals = t.goals; bindings = t.bindings }

module _ {C : Type 0} (x : Setting) (m : Machine C) (failing : m.mode ≡ IsFailing) where
  module _ (rest : C → Goal → Journal → List ℕ) (at : C → ℕ) (j : Journal) (looks : List Deed) (tried : ℕ) (fronts : List ℕ) where
    pub came_back : (ss : List (Saved C)) (s : Saved C) → (said m.terms).stack ≡ ss ++ s ∷ []
        → move x (state_of rest at j m looks tried fronts) ≡ machines.taken x (back_to (state_of rest at j m looks tried fronts) (choice_of rest at j s) (stack_of rest at j ss)) (alternative_of rest at j s.turn)
    came_back ss s is =
        fails_back x (state_of rest at j m looks tried fronts) (choice_of rest at j s) (stack_of rest at j ss) (ap mode_of failing) (ap (stack_of rest at j) is ∙ stack-push rest at j ss s)

  -- a mark is passed
  pub passed : (t : Terms C) → AreTerms t → (said m.terms).stack ≡ (said t).stack ++ moment OfNot (said t) ∷ [] → (said t).fresh ≡ (said m.terms).fresh → (said t).shown ≡ (said m.terms).shown
      → Acts (move x) m (record m { mode = IsGoing; terms = t })
  passed t terms is fresh shown = record {
    terms = terms;
    same = refl;
    shown = shown;
    calls_are = sym (ap calls_in is ∙ calls-beside (said t).stack (moment OfNot (said t)) refl);
    goes = λ rest at j looks tried fronts.
        came_back rest at j looks tried fronts (said t).stack (moment OfNot (said t)) is
        ∙ ap (λ (f : ℕ). Goes (state_from (said t).goals (stack_of rest at j (said t).stack) (said t).bindings f spec.Going m.steps m.events.items m.front looks tried fronts)) (sym fresh);
  }

  -- the mark of a `catch` is passed, and the failure goes further
  pub passed-catch : (t : Terms C) (w r : Tree) → AreTerms t → (said m.terms).stack ≡ (said t).stack ++ moment (OfCatch w r) (said t) ∷ [] → (said t).fresh ≡ (said m.terms).fresh → (said t).shown ≡ (said m.terms).shown
      → Acts (move x) m (record m { terms = t })
  passed-catch t w r terms is fresh shown = record {
    terms = terms;
    same = refl;
    shown = shown;
    calls_are = sym (ap calls_in is ∙ calls-beside (said t).stack (moment (OfCatch w r) (said t)) refl);
    goes = λ rest at j looks tried fronts.
        came_back rest at j looks tried fronts (said t).stack (moment (OfCatch w r) (said t)) is
        ∙ ap (λ (f : ℕ). Goes (state_from (said t).goals (stack_of rest at j (said t).stack) (said t).bindings f spec.Failing m.steps m.events.items m.front looks tried fronts)) (sym fresh)
        ∙ ap (λ (md : Mode). Goes (state_from (said t).goals (stack_of rest at j (said t).stack) (said t).bindings (said t).fresh (mode_of md) m.steps m.events.items m.front looks tried fronts)) (sym failing);
  }

  -- no step is left
  pub retake_spent : (rest : C → Goal → Journal → List ℕ) (at : C → ℕ) → HasNewest (said m.terms).stack true → m.steps ≡ x.budget → ComesToEnd rest at [] (move x) x m m (Spent m.steps)
  retake_spent rest at (ss, (s, (is, left))) d = record {
    made_is = refl;
    fronts_are = refl;
    tally_is = refl;
    ends = λ looks tried.
        let back = back_to (state_of rest at x.journal m looks tried []) (choice_of rest at x.journal s) (stack_of rest at x.journal ss) in
        let a = alternative_of rest at x.journal s.turn in
        came_back rest at x.journal looks tried [] ss s is
        ∙ taken-steps x back a (open-is rest at x.journal s.turn ∙ left)
        ∙ stepping-spent x back (resuming x a) refl d;
  }

  -- an alternative is taken, by a step
  module _ (t : Terms C) (turn : Turn C) (is : (said m.terms).stack ≡ (said t).stack ++ moment turn (said t) ∷ []) (fresh : (said t).fresh ≡ (said m.terms).fresh) (left : is_open turn ≡ true) (d : m.steps ≢ x.budget) where
    retake_leads : (rest : C → Goal → Journal → List ℕ) (at : C → ℕ) (j : Journal) (looks : List Deed) (tried : ℕ) (fronts : List ℕ)
        → move x (state_of rest at j m looks tried fronts) ≡ resuming x (alternative_of rest at j turn) (state_of rest at j (record m { mode = IsGoing; steps = m.steps + 1; terms = t }) looks tried fronts)
    retake_leads rest at j looks tried fronts =
        let back = back_to (state_of rest at j m looks tried fronts) (choice_of rest at j (moment turn (said t))) (stack_of rest at j (said t).stack) in
        let a = alternative_of rest at j turn in
        came_back rest at j looks tried fronts (said t).stack (moment turn (said t)) is
        ∙ taken-steps x back a (open-is rest at j turn ∙ left)
        ∙ stepping-on x back (resuming x a) d
        ∙ ap (λ (f : ℕ). resuming x a (state_from (said t).goals (stack_of rest at j (said t).stack) (said t).bindings f spec.Going (m.steps + 1) m.events.items m.front looks tried fronts)) (sym fresh)

    pub retaken : (rest : C → Goal → Journal → List ℕ) (may : C → Goal → Journal → ℕ) (at : C → ℕ) (ahead : C → ℕ) (causes : List ℕ) (made : List Entry) (new : Machine C)
        → Resumes rest may at ahead made x turn (record m { mode = IsGoing; steps = m.steps + 1; terms = t }) new → KeepsCounts (record m { mode = IsGoing; steps = m.steps + 1; terms = t }) new
        → IsHeldIn rest may at x.journal m.tally (calls m) → GoesOn rest may at ahead causes made (move x) x.journal m new
    retaken rest may at ahead causes made new r counts held =
        let j : Journal = x.journal in
        let same : new.tally ≡ record m.tally { visits = new.tally.visits } = counts.tally in
        let looks : new.tally.looks ≡ m.tally.looks = ap (λ (u : Tally). u.looks) same in
        let were : calls m ≡ calls_in (said t).stack ++ turn_calls turn = ap calls_in is ∙ calls-turn (said t).stack (moment turn (said t)) in
        let all : all_visits may at j (calls m) ≡ all_visits may at j (calls_in (said t).stack ++ turn_calls turn) = ap (all_visits may at j) were in
        let aheads_are : aheads ahead (calls m) ≡ aheads ahead (calls_in (said t).stack ++ turn_calls turn) = ap (aheads ahead) were in
        record {
          added = r.added;
          deeds = map Updated made;
          hows = [];
          given = r.given;
          made_is = all_made made;
          fronts_are = r.fronts_are;
          goes = λ ls tried fs. retake_leads rest at j ls tried (r.added ++ fs) ∙ r.resumed ls tried fs;
          works = subst (λ (l : List Look). Works may at ahead causes j m.tally new.tally (calls m) (calls new) l [] r.given) (sym (no_looks made)) (record {
            fair = tt;
            looks = omega (arith, looks);
            scans = ap (λ (u : Tally). u.scans) same ∙ plus m.tally.scans;
            kept = ap (λ (u : Tally). u.kept) same ∙ plus m.tally.kept;
            wants = ap (λ (u : Tally). u.wants) same ∙ plus m.tally.wants;
            most = omega (arith, r.most, all);
            least = omega (arith, r.least, aheads_are);
            unbuilt = λ _. (ap (λ (u : Tally). u.built) same, ap (λ (u : Tally). u.indexes) same);
          });
          held = record {
            named = r.named;
            raised = subst (λ n. new.tally.visits + all_visits may at j (calls new) ≤ n * most_raised) (sym looks) (omega (arith, r.most, all, held.raised));
          };
        }

-- ---- counts

pub held_retaken : {C : Type 0} (budget : ℕ) (v w : View) (m n : Machine C) (visits : ℕ) → n.steps ≡ m.steps + 1 → n.tally ≡ record m.tally { visits = visits } → length (calls n) ≤ length (calls m) → IsFronted w n.front → m.steps ≢ budget
    → IsHeld budget v m.steps m.front (length (calls m)) m.tally → IsHeld budget w n.steps n.front (length (calls n)) n.tally
held_retaken budget v w m n visits steps tally few fronted other h =
    rw (steps, tally) (record {
      within = omega (arith, h.within, other);
      few = omega (arith, h.few, few);
      reached = fronted.reached;
      below = fronted.below;
      looks = omega (arith, h.looks);
      scans = h.scans;
      kept = h.kept;
      wants = h.wants;
      built = h.built;
      indexes = h.indexes;
    })

pub fewer : {C : Type 0} (cs us vs : List (Left C)) (n : ℕ) → cs ≡ us ++ vs → n ≤ length us + length vs → n ≤ length cs
fewer cs us vs n e l =
    let a : length cs ≡ length (us ++ vs) = ap length e in
    let b : length (us ++ vs) ≡ length us + length vs = length-append us vs in
    omega arith

-- ---- the newest moment, said in two ways

abbrev lastly : {A : Type 0} → A → List A → A
lastly d [] = d
lastly d (x ∷ xs) = lastly x xs

lastly-is : {A : Type 0} (d : A) (xs : List A) (y : A) → lastly d (xs ++ y ∷ []) ≡ y
lastly-is d [] y = refl
lastly-is d (x ∷ xs) y = lastly-is x xs y

pub newest-open : {C : Type 0} (stack ss : List (Saved C)) (s : Saved C) (b : Bool) → HasNewest stack b → stack ≡ ss ++ s ∷ [] → is_open s.turn ≡ b
newest-open stack ss s b (us, (u, (is, left))) e =
    ap (λ (r : Saved _). is_open r.turn) (sym (lastly-is s ss s) ∙ ap (lastly s) (sym e ∙ is) ∙ lastly-is s us u) ∙ left

pub newest-catch : {C : Type 0} (stack ss : List (Saved C)) (s : Saved C) (b : Bool) → HasCatch stack b → stack ≡ ss ++ s ∷ [] → is_catch s.turn ≡ b
newest-catch stack ss s b (us, (u, (is, left))) e =
    ap (λ (r : Saved _). is_catch r.turn) (sym (lastly-is s ss s) ∙ ap (lastly s) (sym e ∙ is) ∙ lastly-is s us u) ∙ left

-- where nothing was done but to the terms, what is counted is as it was
pub counts_same : {C : Type 0} (old new : Machine C) → AreTerms new.terms → (said new.terms).shown ≡ (said old.terms).shown → new ≡ record old { terms = new.terms } → KeepsCounts old new
counts_same {C} old new terms shown same = record {
  terms = terms;
  shown = shown;
  steps = ap (λ (m : Machine C). m.steps) same;
  events = ap (λ (m : Machine C). m.events.items) same;
  tally = let e : new.tally ≡ old.tally = ap (λ (m : Machine C). m.tally) same in e ∙ ap (λ (n : ℕ). record old.tally { visits = n }) (sym (ap (λ (t : Tally). t.visits) e));
}

-- nothing is left to go back to
pub comes_back_nowhere : {C : Type 0} (x : Setting) (m : Machine C) → m.mode ≡ IsFailing → (rest : C → Goal → Journal → List ℕ) (at : C → ℕ) → (said m.terms).stack ≡ [] → ComesToEnd rest at [] (move x) x m m Exhausted
comes_back_nowhere x m failing rest at none = record {
  made_is = refl;
  fronts_are = refl;
  tally_is = refl;
  ends = λ looks tried. exhausted x (state_of rest at x.journal m looks tried []) (ap mode_of failing) (ap (stack_of rest at x.journal) none) refl;
}
