-- The call of a builtin on terms, as what the definition does to the engine's states.
use Rattle.std.proofs.Common.{◌≡◌, ℕ, ◌+◌, Bool, true, false, List, [], ◌∷◌, ◌++◌, Option, Some, None, refl, sym, ap, ap₂, ◌∙◌}
use Rattle.prolog_terms.specs.Tree.{Tree, Trees}
use Rattle.prolog_terms.specs.Operators.{Table}
use Rattle.prolog_terms.specs.declared.entry.Indicator.{Indicator}
use Rattle.journal_base.specs.Goals.{Goal}
use Rattle.journals.specs.Journal.{Journal}
use Rattle.term_builtins.specs.Meanings.{Meaning, Holds, Equates, Writes, Puts, Raises}
use Rattle.term_unifier.specs.Unifier.{unifier}
use Rattle.wam_machine.specs.Called.{IsCalled, IsRowCalled}
use Rattle.wam_machine.specs.States.{Deed, Goes, solving}
use Rattle.wam_machine.specs.Machine.{coming_to, calling_builtin}
use Rattle.wam_machine.specs.Terms.{Saved, Said, AreTerms, IsSolved, said, calls_in}
use Rattle.wam_machine.specs.View.{Acts, mode_of, settled_mode, state_with}
use Rattle.wam_machine.specs.declared.builtins.Called.{Called}
use Rattle.wam_machine.specs.declared.builtins.Called.TheVariants.{Yes, No, Wrote, Ball}
use Rattle.wam_machine.specs.declared.run.Event.{Event}
use Rattle.wam_machine.specs.declared.run.Event.TheVariants as happens
use Rattle.wam_machine.specs.declared.state.Machine.{Machine}
use Rattle.wam_machine.specs.declared.state.Mode.{Mode}
use Rattle.wam_machine.specs.declared.state.Mode.TheVariants.{Failing as IsFailing, Raising as RaisingBall}

-- the mode after a call
abbrev pub called_mode : Mode → Called → Mode
called_mode mode Yes = mode
called_mode mode No = IsFailing
called_mode mode (Wrote b) = mode
called_mode mode (Ball b) = RaisingBall b

module _ {C : Type 0} (old new : Said C) where
  solved-keeps : (goals : _) (done : Bool) (o : Option (ℕ → Tree)) → IsSolved goals old new done o → (new.shown ≡ old.shown) × (new.stack ≡ old.stack)
  solved-keeps goals done None d = (ap (λ (s : Said C). s.shown) d.1, ap (λ (s : Said C). s.stack) d.1)
  solved-keeps goals done (Some m) d = (ap (λ (s : Said C). s.shown) d.1, ap (λ (s : Said C). s.stack) d.1)

-- the events after a call
abbrev pub called_events : List Event → Called → List Event
called_events events Yes = events
called_events events No = events
called_events events (Wrote b) = events ++ happens.Wrote b ∷ []
called_events events (Ball b) = events

-- the shown term and the moments that may be gone back to are the same
pub called-keeps : {C : Type 0} (ops : Table) (old new : Said C) (i : Indicator) (m : Meaning) (c : Called) → IsCalled ops i m old new c → (new.shown ≡ old.shown) × (new.stack ≡ old.stack)
called-keeps {C} ops old new i (Holds b) Yes d = (ap (λ (s : Said C). s.shown) d.1, ap (λ (s : Said C). s.stack) d.1)
called-keeps {C} ops old new i (Holds b) No d = (ap (λ (s : Said C). s.shown) d.1, ap (λ (s : Said C). s.stack) d.1)
called-keeps ops old new i (Holds b) (Wrote w) d = absurd d
called-keeps ops old new i (Holds b) (Ball u) d = absurd d
called-keeps {C} ops old new i (Equates added a b) Yes d = solved-keeps (record old { fresh = old.fresh + added }) new [] true (unifier a b) d
called-keeps {C} ops old new i (Equates added a b) No d = solved-keeps (record old { fresh = old.fresh + added }) new [] false (unifier a b) d
called-keeps ops old new i (Equates added a b) (Wrote w) d = absurd d
called-keeps ops old new i (Equates added a b) (Ball u) d = absurd d
called-keeps ops old new i (Writes style t) Yes d = absurd d
called-keeps ops old new i (Writes style t) No d = absurd d
called-keeps {C} ops old new i (Writes style t) (Wrote w) d = (ap (λ (s : Said C). s.shown) d.1, ap (λ (s : Said C). s.stack) d.1)
called-keeps ops old new i (Writes style t) (Ball u) d = absurd d
called-keeps ops old new i (Puts bytes) Yes d = absurd d
called-keeps ops old new i (Puts bytes) No d = absurd d
called-keeps {C} ops old new i (Puts bytes) (Wrote w) d = (ap (λ (s : Said C). s.shown) d.1, ap (λ (s : Said C). s.stack) d.1)
called-keeps ops old new i (Puts bytes) (Ball u) d = absurd d
called-keeps ops old new i (Raises fault) Yes d = absurd d
called-keeps ops old new i (Raises fault) No d = absurd d
called-keeps ops old new i (Raises fault) (Wrote w) d = absurd d
called-keeps {C} ops old new i (Raises fault) (Ball u) d = (ap (λ (s : Said C). s.shown) d.1, ap (λ (s : Said C). s.stack) d.1)

module _ {C : Type 0} (rest : C → Goal → Journal → List ℕ) (at : C → ℕ) (j : Journal) (mode : Mode) (steps : ℕ) (events : List Event) (front : ℕ) (looks : List Deed) (tried : ℕ) (fronts : List ℕ) where
  solved : (old new : Said C) (done : Bool) (o : Option (ℕ → Tree)) → IsSolved [] old new done o
      → solving [] (state_with rest at j old (mode_of mode) steps events front looks tried fronts) o ≡ Goes (state_with rest at j new (mode_of (settled_mode mode done)) steps events front looks tried fronts)
  solved old new done None h = rw (h.0, h.1) refl
  solved old new done (Some m) h = rw (h.0, h.1) refl

  came : (ops : Table) (old new : Said C) (i : Indicator) (m : Meaning) (c : Called) → IsCalled ops i m old new c
      → coming_to ops i (state_with rest at j old (mode_of mode) steps events front looks tried fronts) m ≡ Goes (state_with rest at j new (mode_of (called_mode mode c)) steps (called_events events c) front looks tried fronts)
  came ops old new i (Holds true) Yes d = rw (d.1) refl
  came ops old new i (Holds true) No d = absurd (cc d.0)
  came ops old new i (Holds true) (Wrote w) d = absurd d
  came ops old new i (Holds true) (Ball u) d = absurd d
  came ops old new i (Holds false) Yes d = absurd (cc d.0)
  came ops old new i (Holds false) No d = rw (d.1) refl
  came ops old new i (Holds false) (Wrote w) d = absurd d
  came ops old new i (Holds false) (Ball u) d = absurd d
  came ops old new i (Equates added a b) Yes d = solved (record old { fresh = old.fresh + added }) new true (unifier a b) d
  came ops old new i (Equates added a b) No d = solved (record old { fresh = old.fresh + added }) new false (unifier a b) d
  came ops old new i (Equates added a b) (Wrote w) d = absurd d
  came ops old new i (Equates added a b) (Ball u) d = absurd d
  came ops old new i (Writes style t) Yes d = absurd d
  came ops old new i (Writes style t) No d = absurd d
  came ops old new i (Writes style t) (Wrote w) d = rw (d.0, d.1) refl
  came ops old new i (Writes style t) (Ball u) d = absurd d
  came ops old new i (Puts bytes) Yes d = absurd d
  came ops old new i (Puts bytes) No d = absurd d
  came ops old new i (Puts bytes) (Wrote w) d = rw (d.0, d.1) refl
  came ops old new i (Puts bytes) (Ball u) d = absurd d
  came ops old new i (Raises fault) Yes d = absurd d
  came ops old new i (Raises fault) No d = absurd d
  came ops old new i (Raises fault) (Wrote w) d = absurd d
  came ops old new i (Raises fault) (Ball u) d = rw (d.0, d.1) refl

  row-came : (ops : Table) (old new : Said C) (row : ℕ) (args : Trees) (c : Called) → IsRowCalled ops row args old new c
      → calling_builtin ops row args (state_with rest at j old (mode_of mode) steps events front looks tried fronts) ≡ Goes (state_with rest at j new (mode_of (called_mode mode c)) steps (called_events events c) front looks tried fronts)
  unfolding IsRowCalled calling_builtin
  row-came ops old new row args c d = came ops old new _ _ c d

pub row-keeps : {C : Type 0} (ops : Table) (old new : Said C) (row : ℕ) (args : Trees) (c : Called) → IsRowCalled ops row args old new c → (new.shown ≡ old.shown) × (new.stack ≡ old.stack)
unfolding IsRowCalled
row-keeps ops old new row args c d = called-keeps ops old new _ _ c d

pub acts-called : {C : Type 0} (ops : Table) (old new : Machine C) (row : ℕ) (args : Trees) (c : Called) → AreTerms new.terms → new ≡ record old { mode = new.mode; terms = new.terms; events = new.events }
    → IsRowCalled ops row args (said old.terms) (said new.terms) c → new.mode ≡ called_mode old.mode c → new.events.items ≡ called_events old.events.items c → Acts (calling_builtin ops row args) old new
acts-called {C} ops old new row args c terms same d mode events =
    let k = row-keeps ops (said old.terms) (said new.terms) row args c d in
    record {
      terms = terms;
      same = same;
      shown = k.0;
      calls_are = ap (λ (ss : List (Saved C)). calls_in ss) k.1;
      goes = λ rest at j looks tried fronts.
          row-came rest at j old.mode old.steps old.events.items old.front looks tried fronts ops (said old.terms) (said new.terms) row args c d
          ∙ ap₂ (λ (m : Mode) (es : List Event). Goes (state_with rest at j (said new.terms) (mode_of m) old.steps es old.front looks tried fronts)) (sym mode) (sym events)
          ∙ ap (λ (m : Machine C). Goes (state_with rest at j (said new.terms) (mode_of new.mode) m.steps new.events.items m.front looks tried fronts)) (sym same);
    }
