-- Going on with what is to be done next, or with nothing, is the machine's move.
use Rattle.std.proofs.Common.{◌≡◌, ℕ, List, [], ◌∷◌, ◌++◌, length, Bool, refl, sym, ap, ◌∙◌, subst, Option, Some, append-nil}
use Rattle.prolog_terms.specs.Tree.{Tree}
use Rattle.prolog_terms.specs.Substitutions.{substituted, numbered}
use Rattle.journal_base.specs.Goals.{Goal}
use Rattle.journals.specs.Journal.{Journal}
use Rattle.journal_base.specs.View.{View, Out}
use Rattle.term_store.specs.declared.cell.Cell.{Cell}
use Rattle.wam_machine.specs.Control as spec
use Rattle.wam_machine.specs.Control.{control_of}
use Rattle.prolog_terms.specs.declared.entry.Entry.{Entry}
use Rattle.wam_machine.specs.States.{State, Setting, Outcome, Next, Do, Goes, Deed, Going, Failing, fails}
use Rattle.wam_machine.specs.Machine.{move, going}
use Rattle.wam_machine.specs.Terms.{Said, AreTerms, said, calls_in, is_any_open}
use Rattle.wam_machine.specs.Goals.{IsSimple}
use Rattle.wam_machine.specs.View.{setting, state_from, state_with, state_of, stack_of, mode_of, calls, performs_goal, GoesOn, Does, IsHeld, IsHeldIn, IsLeft, IsReady, AreKept}
use Rattle.wam_machine.specs.declared.control.Control.{Control}
use Rattle.wam_machine.specs.declared.control.Control.TheVariants.{True, Fail, Cut, Repeat, Both, Either, IfElse, If, Not, Call, Once, Catch, Findall, Throw, Halt, HaltWith, Database, Builtin, User}
use Rattle.wam_machine.specs.declared.run.Event.{Event}
use Rattle.wam_machine.specs.declared.run.Event.TheVariants.{Answer}
use Rattle.wam_machine.specs.declared.run.RunEnd.{RunEnd}
use Rattle.wam_machine.specs.declared.state.Host.{Host}
use Rattle.wam_machine.specs.declared.state.Mode.{Mode}
use Rattle.wam_machine.specs.declared.state.Mode.TheVariants.{Going as IsGoing, Failing as IsFailing}
use Rattle.wam_machine.specs.declared.state.Machine.{Machine}
use Rattle.wam_machine.specs.declared.terms.Terms.{Terms}
use Rattle.wam_machine.proofs.Moves.{goal_both, any-stack}
use Rattle.wam_machine.proofs.Steps.{quiet, through, does_through}

-- a goal that is no conjunction
pub is_simple : (c : Control) → ((a b : Cell) → c ≡ Both a b → ⊥) → IsSimple c
is_simple True h = tt
is_simple Fail h = tt
is_simple Cut h = tt
is_simple Repeat h = tt
is_simple (Both a b) h = h a b refl
is_simple (Either a b) h = tt
is_simple (IfElse c t e) h = tt
is_simple (If c t) h = tt
is_simple (Not g) h = tt
is_simple (Call g added) h = tt
is_simple (Once g) h = tt
is_simple (Catch g c r) h = tt
is_simple (Findall t g l) h = tt
is_simple (Throw b) h = tt
is_simple Halt h = tt
is_simple (HaltWith n) h = tt
is_simple (Database a) h = tt
is_simple (Builtin row args) h = tt
is_simple (User i) h = tt

-- the setting is the same as long as the shown term is
pub same_setting : {C : Type 0} (h : Host) (m n : Machine C) (j : Journal) → (said n.terms).shown ≡ (said m.terms).shown → setting h n j ≡ setting h m j
same_setting h m n j e = ap (λ (t : Tree). let x : Setting = record { engine = h.engine; journal = j; words = h.sizes.words; updates = h.sizes.updates; start = h.start; budget = h.budget; shown = t; ops = h.ops.now } in x) e

-- what is to be done next is taken, and nothing else is done
abbrev pub IsTaken : {C : Type 0} → Said C → Said C → Type 0
IsTaken old new = new ≡ record old { goals = new.goals }

module _ {C : Type 0} (v : View) (serves : C → Goal → Type 0) (group : C → ℕ) (out : Out) (rest : C → Goal → Journal → List ℕ) (may : C → Goal → Journal → ℕ) (at : C → ℕ) (budget : ℕ) where
  pub still_ready : (m mid : Machine C) → IsReady v serves group out rest may at budget m → AreTerms mid.terms → calls mid ≡ calls m → mid.steps ≡ m.steps → mid.front ≡ m.front → mid.tally ≡ m.tally
      → IsReady v serves group out rest may at budget mid
  still_ready m mid r terms stack steps front tally = record {
    sound = r.sound;
    terms = terms;
    kept = subst (AreKept serves group out) (sym stack) r.kept;
    held = rw (stack, steps, front, tally) r.held;
    each = λ j b. rw (tally, stack) (r.each j b);
  }

  -- with other terms, which say the same but for what is to be done
  pub ready_taken : (m : Machine C) (t : Terms C) → IsReady v serves group out rest may at budget m → AreTerms t → IsTaken (said m.terms) (said t) → IsReady v serves group out rest may at budget (record m { terms = t })
  ready_taken m t r terms same = still_ready m (record m { terms = t }) r terms (ap (λ (u : Said C). calls_in u.stack) same) refl refl refl

module _ {C : Type 0} (rest : C → Goal → Journal → List ℕ) (may : C → Goal → Journal → ℕ) (at : C → ℕ) (ahead : C → ℕ) (causes : List ℕ) where
  -- a state that goes on, with these things to be done
  stated : (j : Journal) → Machine C → List Deed → ℕ → List ℕ → Mode → List Next → State
  stated j m looks tried fs md gs =
      state_from gs (stack_of rest at j (said m.terms).stack) (said m.terms).bindings (said m.terms).fresh (mode_of md) m.steps m.events.items m.front looks tried fs

  -- ---- what is to be done next

  next_leads : (x : Setting) (j : Journal) (m : Machine C) (t : Terms C) (n : Next) (f : State → Outcome) (looks : List Deed) (tried : ℕ) (fs : List ℕ) → m.mode ≡ IsGoing
      → (said m.terms).goals ≡ n ∷ (said t).goals → IsTaken (said m.terms) (said t) → ((s : State) (gs : List Next) → going x s (n ∷ gs) ≡ f (record s { goals = gs }))
      → move x (state_of rest at j m looks tried fs) ≡ f (state_of rest at j (record m { terms = t }) looks tried fs)
  unfolding stated
  next_leads x j m t n f looks tried fs mode some same by =
      ap (λ (md : Mode). move x (stated j m looks tried fs md (said m.terms).goals)) mode
      ∙ ap (λ (gs : List Next). move x (stated j m looks tried fs IsGoing gs)) some
      ∙ by (stated j m looks tried fs IsGoing (n ∷ (said t).goals)) (said t).goals
      ∙ ap (λ (u : Said C). f (state_with rest at j u Going m.steps m.events.items m.front looks tried fs)) (sym same)
      ∙ ap (λ (md : Mode). f (state_with rest at j (said t) (mode_of md) m.steps m.events.items m.front looks tried fs)) (sym mode)

  module _ (x : Setting) (m : Machine C) (t : Terms C) (next : Next) (f : State → Outcome) (mode : m.mode ≡ IsGoing) (some : (said m.terms).goals ≡ next ∷ (said t).goals) (same : IsTaken (said m.terms) (said t))
      (by : (s : State) (gs : List Next) → going x s (next ∷ gs) ≡ f (record s { goals = gs })) where
    pub goes_next : {made : List Entry} (j : Journal) (n : Machine C) → GoesOn rest may at ahead causes made f j (record m { terms = t }) n → GoesOn rest may at ahead causes made (move x) j m n
    goes_next j n on =
        through rest may at ahead causes f (move x) j m (record m { terms = t }) n refl refl (ap (λ (u : Said C). calls_in u.stack) same)
        (λ looks tried fs. next_leads x j m t next f looks tried fs mode some same by) on

    pub does_next : (made : List Entry) (n : Machine C) (o : Option RunEnd) → Does rest may at ahead causes made f x (record m { terms = t }) n o → Does rest may at ahead causes made (move x) x m n o
    does_next made n o on =
        does_through rest may at ahead causes made f (move x) x m (record m { terms = t }) n o refl refl (ap (λ (u : Said C). calls_in u.stack) same)
        (λ looks tried fs. next_leads x x.journal m t next f looks tried fs mode some same by) on

  -- ---- an answer

  pub does_answer : (x : Setting) (j : Journal) (m : Machine C) (n : Machine C) → m.mode ≡ IsGoing → (said m.terms).goals ≡ [] → n ≡ record m { mode = IsFailing; terms = n.terms; events = n.events } → said n.terms ≡ said m.terms
      → n.events.items ≡ m.events.items ++ Answer (numbered (substituted (said m.terms).bindings x.shown)) (is_any_open (said m.terms).stack) ∷ [] → IsHeldIn rest may at j m.tally (calls m)
      → GoesOn rest may at ahead causes [] (move x) j m n
  unfolding stated
  does_answer x j m n mode none same told events held =
      let t = said m.terms in
      let value = numbered (substituted t.bindings x.shown) in
      quiet rest may at ahead causes (move x) j m n [] (ap (λ (k : Machine C). k.fronts.items) same ∙ sym (append-nil m.fronts.items))
      (λ looks tried fs.
      ap (λ (md : Mode). move x (stated j m looks tried fs md t.goals)) mode
      ∙ ap (λ (gs : List Next). move x (stated j m looks tried fs IsGoing gs)) none
      ∙ ap (λ (b : Bool). fails (state_from [] (stack_of rest at j t.stack) t.bindings t.fresh Going m.steps (m.events.items ++ Answer value b ∷ []) m.front looks tried fs)) (any-stack rest at j t.stack)
      ∙ ap (λ (gs : List Next). Goes (state_from gs (stack_of rest at j t.stack) t.bindings t.fresh Failing m.steps (m.events.items ++ Answer value (is_any_open t.stack) ∷ []) m.front looks tried fs)) (sym none)
      ∙ ap (λ (es : List Event). Goes (state_with rest at j t Failing m.steps es m.front looks tried fs)) (sym events)
      ∙ ap (λ (u : Said C). Goes (state_with rest at j u Failing m.steps n.events.items m.front looks tried fs)) (sym told)
      ∙ ap (λ (k : Machine C). Goes (state_with rest at j (said n.terms) (mode_of k.mode) k.steps n.events.items k.front looks tried fs)) (sym same))
      (ap (λ (k : Machine C). k.tally) same) (ap (λ (u : Said C). calls_in u.stack) told) held

  -- ---- a conjunction

  pub does_both : (x : Setting) (j : Journal) (m n : Machine C) (goal a b : Tree) (cut : ℕ) → control_of goal ≡ Some (spec.Both a b) → n ≡ record m { terms = n.terms }
      → said n.terms ≡ record (said m.terms) { goals = Do a cut ∷ Do b cut ∷ (said m.terms).goals } → IsHeldIn rest may at j m.tally (calls m)
      → GoesOn rest may at ahead causes [] (performs_goal x goal cut) j m n
  does_both x j m n goal a b cut e same now held =
      quiet rest may at ahead causes (performs_goal x goal cut) j m n [] (ap (λ (k : Machine C). k.fronts.items) same ∙ sym (append-nil m.fronts.items))
      (λ looks tried fs.
      goal_both x goal a b cut (state_of rest at j m looks tried fs) e
      ∙ ap (λ (u : Said C). Goes (state_with rest at j u (mode_of m.mode) m.steps m.events.items m.front looks tried fs)) (sym now)
      ∙ ap (λ (k : Machine C). Goes (state_with rest at j (said n.terms) (mode_of k.mode) k.steps k.events.items k.front looks tried fs)) (sym same))
      (ap (λ (k : Machine C). k.tally) same) (ap (λ (u : Said C). calls_in u.stack) now) held

-- ---- what is left

pub left_same : {C : Type 0} (budget : ℕ) (v : View) (m n : Machine C) → AreTerms n.terms → (said n.terms).shown ≡ (said m.terms).shown → calls n ≡ calls m → n.steps ≡ m.steps → n.front ≡ m.front → n.tally ≡ m.tally
    → IsHeld budget v m.steps m.front (length (calls m)) m.tally → IsLeft budget v m n
left_same budget v m n terms shown stack steps front tally held = record { terms = terms; shown = shown; held = rw (stack, steps, front, tally) held }

pub left_through : {C : Type 0} (budget : ℕ) (v : View) (m mid n : Machine C) → (said mid.terms).shown ≡ (said m.terms).shown → IsLeft budget v mid n → IsLeft budget v m n
left_through budget v m mid n shown l = record { terms = l.terms; shown = l.shown ∙ shown; held = l.held }
