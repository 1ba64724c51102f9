-- Moves in parts: what comes of a part is what comes of the whole.
use Rattle.std.proofs.Common.{◌≡◌, ℕ, List, ◌++◌, length, take, refl, sym, ap, ◌∙◌, subst}
use Rattle.prolog_terms.specs.declared.entry.Entry.{Entry}
use Rattle.journal_base.specs.Goals.{Goal}
use Rattle.journals.specs.Journal.{Journal}
use Rattle.journal_base.specs.View.{View, Grows, Looks, IsSound, Out}
use Rattle.wam_machine.specs.States.{State, Setting, Outcome, Goes, Deed, taking, looks_in}
use Rattle.wam_machine.specs.Cursors.{Begins}
use Rattle.wam_machine.specs.Terms.{Left, Said, AreTerms, said, calls_in}
use Rattle.wam_machine.specs.View.{setting, mode_of, state_with, state_of, calls, IsReady, IsLeft, IsHeld, IsHeldIn, AreKept, Works, GoesOn, Makes, IsFronted, HasOnlyAsked, Asks}
use Rattle.wam_machine.specs.declared.state.Host.{Host}
use Rattle.wam_machine.specs.declared.state.Machine.{Machine}
use Rattle.wam_machine.specs.declared.state.Mode.{Mode}
use Rattle.wam_machine.specs.declared.terms.Terms.{Terms}
use Rattle.wam_machine.proofs.Begins.{grows_refl, looks_refl}
use Rattle.wam_machine.proofs.Asked.{IsTaken, taken_front, asks_quiet, asks_taking}

-- a front is taken, and what follows knows the one before
pub asks_front : {C : Type 0} (v u w : View) (h : Host) (old mid new : Machine C) → IsTaken u old mid → Grows u w → IsFronted v old.front
    → (with : Journal → ℕ → Journal → State → Outcome) → Looks v u → Asks u w (λ j s. with j old.front (take u.seen j) s) mid new
    → Asks v w (λ j s. taking (setting h old j) s (with j s.front)) old new
asks_front v u w h old mid new t g front with l on =
    let a = asks_taking v u w h old mid new t g front (λ j. with j old.front) l on in
    record { added = a.added; made = a.made; own = a.own; front = a.front; fronts_are = a.fronts_are; goes = a.goes }

-- ---- what a part makes

-- after a look
pub makes_after : (v u w : View) (P : List Entry → Type 0) → Looks v u → Makes u w P → Makes v w P
makes_after v u w P l m = record { made = m.made; own = m.own ∙ ap (λ (es : List Entry). es ++ m.made) l.own; so = m.so }

module _ {C : Type 0} (rest : C → Goal → Journal → List ℕ) (may : C → Goal → Journal → ℕ) (at : C → ℕ) (ahead : C → ℕ) (causes : List ℕ) where
  -- the same by another function
  pub goes_as : (made : List Entry) (f g : State → Outcome) (j : Journal) (old new : Machine C) → ((s : State) → g s ≡ f s)
      → GoesOn rest may at ahead causes made f j old new → GoesOn rest may at ahead causes made g j old new
  goes_as made f g j old new same a = record {
    added = a.added;
    deeds = a.deeds;
    hows = a.hows;
    given = a.given;
    made_is = a.made_is;
    fronts_are = a.fronts_are;
    goes = λ before tried fronts. same (state_of rest at j old before tried (a.added ++ fronts)) ∙ a.goes before tried fronts;
    works = a.works;
    held = a.held;
  }

  pub makes_goes : (v w : View) (f g : Journal → State → Outcome) (old new : Machine C) → ((j : Journal) → Begins w j → (s : State) → g j s ≡ f j s)
      → Makes v w (λ made. (j : Journal) → Begins w j → GoesOn rest may at ahead causes made (f j) j old new)
      → Makes v w (λ made. (j : Journal) → Begins w j → GoesOn rest may at ahead causes made (g j) j old new)
  makes_goes v w f g old new same m = record { made = m.made; own = m.own; so = λ j b. goes_as m.made (f j) (g j) j old new (same j b) (m.so j b) }

-- ---- terms that say what they said

module _ {C : Type 0} (old : Machine C) (t : Terms C) (same : said t ≡ said old.terms) where
  pub calls_said : calls (record old { terms = t }) ≡ calls old
  calls_said = ap (λ (s : Said C). calls_in s.stack) same

  pub setting_said : (h : Host) (j : Journal) → setting h (record old { terms = t }) j ≡ setting h old j
  setting_said h j =
      ap (λ (s : Said C). let x : Setting = record { engine = h.engine; journal = j; words = h.sizes.words; updates = h.sizes.updates; start = h.start; budget = h.budget; shown = s.shown; ops = h.ops.now } in x) same

  pub state_said : (rest : C → Goal → Journal → List ℕ) (at : C → ℕ) (j : Journal) (deeds : List Deed) (tried : ℕ) (fronts : List ℕ)
      → state_of rest at j (record old { terms = t }) deeds tried fronts ≡ state_of rest at j old deeds tried fronts
  state_said rest at j deeds tried fronts = ap (λ (s : Said C). state_with rest at j s (mode_of old.mode) old.steps old.events.items old.front deeds tried fronts) same

  pub left_said : (budget : ℕ) (v : View) (new : Machine C) → IsLeft budget v (record old { terms = t }) new → IsLeft budget v old new
  left_said budget v new l = record { terms = l.terms; shown = l.shown ∙ ap (λ (s : Said C). s.shown) same; held = l.held }

  pub ready_said : (v : View) (serves : C → Goal → Type 0) (group : C → ℕ) (out : Out) (rest : C → Goal → Journal → List ℕ) (may : C → Goal → Journal → ℕ) (at : C → ℕ) (budget : ℕ)
      → IsReady v serves group out rest may at budget old → AreTerms t → IsReady v serves group out rest may at budget (record old { terms = t })
  ready_said v serves group out rest may at budget r terms = record {
    sound = r.sound;
    terms = terms;
    kept = subst (λ (cs : List (Left C)). AreKept serves group out cs) (sym calls_said) r.kept;
    held = subst (λ (cs : List (Left C)). IsHeld budget v old.steps old.front (length cs) old.tally) (sym calls_said) r.held;
    each = λ j b. subst (λ (cs : List (Left C)). IsHeldIn rest may at j old.tally cs) (sym calls_said) (r.each j b);
  }

  pub goes_said : (rest : C → Goal → Journal → List ℕ) (may : C → Goal → Journal → ℕ) (at : C → ℕ) (ahead : C → ℕ) (causes : List ℕ) (made : List Entry) (f : State → Outcome) (j : Journal) (new : Machine C)
      → GoesOn rest may at ahead causes made f j (record old { terms = t }) new → GoesOn rest may at ahead causes made f j old new
  goes_said rest may at ahead causes made f j new a = record {
    added = a.added;
    deeds = a.deeds;
    hows = a.hows;
    given = a.given;
    made_is = a.made_is;
    fronts_are = a.fronts_are;
    goes = λ before tried fronts. ap f (sym (state_said rest at j before tried (a.added ++ fronts))) ∙ a.goes before tried fronts;
    works = subst (λ (cs : List (Left C)). Works may at ahead causes j old.tally new.tally cs (calls new) (looks_in a.deeds) a.hows a.given) calls_said a.works;
    held = a.held;
  }

-- where the stack alone is known to be the same
pub kept_stack : {C : Type 0} (serves : C → Goal → Type 0) (group : C → ℕ) (out : Out) (old : Machine C) (t : Terms C) → AreKept serves group out (calls old) → (said t).stack ≡ (said old.terms).stack
    → AreKept serves group out (calls (record old { terms = t }))
kept_stack serves group out old t k same = subst (λ ss. AreKept serves group out (calls_in ss)) (sym same) k

-- ---- where it ends

-- another mode
pub asked_mode : {C : Type 0} (old mid : Machine C) (mode : Mode) → HasOnlyAsked old mid → HasOnlyAsked old (record mid { mode = mode })
asked_mode {C} old mid mode same = ap (λ (x : Machine C). let r : Machine C = record x { mode = mode } in r) same

-- the front that is seen is taken, and what follows is another mode alone
pub stopped : {C : Type 0} (v : View) (h : Host) (old mid : Machine C) (mode : Mode) → IsSound v → IsFronted v old.front → IsTaken v old mid → (with : Journal → ℕ → Journal → State → Outcome)
    → ((j : Journal) → Begins v j → (s : State) → with j old.front (take v.seen j) s ≡ Goes (record s { mode = mode_of mode }))
    → Asks v v (λ j s. taking (setting h old j) s (with j s.front)) old (record mid { mode = mode })
stopped v h old mid mode sound front t with same =
    asks_front v v v h old mid (record mid { mode = mode }) t (grows_refl v sound) front with (looks_refl v sound)
    (asks_quiet v v (λ j. with j old.front (take v.seen j)) mid (record mid { mode = mode }) refl (taken_front v old mid sound t) refl
    (λ j b rest at deeds tried fs. same j b (state_of rest at j mid deeds tried fs)))
