-- What a construct does to the mode and the terms, as what the definition does to the engine's states.
use Rattle.std.proofs.Common.{◌≡◌, ℕ, suc, ◌+◌, add-one, List, [], ◌∷◌, ◌++◌, length, take, refl, sym, ap, ap₂, ◌∙◌, arith, append-nil, Vec, Global}
use Rattle.std.specs.List.{cons_option}
use Rattle.std.specs.Prelude.{Option, None, Result, Ok, Err, OnOk, IfOk}
use Rattle.std.proofs.lemmas.List.{length-append}
use Rattle.std.proofs.lemmas.List.Elements.{filter_map-append}
use Rattle.prolog_terms.specs.Tree.{Tree, count}
use Rattle.prolog_terms.specs.Faults.{fault_tree}
use Rattle.prolog_terms.specs.declared.entry.Indicator.{Indicator}
use Rattle.prolog_terms.specs.declared.fault.Fault.{Fault}
use Rattle.term_store.specs.Terms.{trees_of}
use Rattle.term_store.specs.declared.cell.Cell.{Cell}
use Rattle.journal_base.specs.Goals.{Goal}
use Rattle.journals.specs.Journal.{Journal}
use Rattle.wam_machine.specs.States as spec
use Rattle.wam_machine.specs.States.{Next, Alternative, State, Outcome, Goes, Look, Deed, cut_to, onwards, pushed, height, raises}
use Rattle.wam_machine.specs.Terms.{Left, Turn, Saved, Said, AreTerms, KeepsCells, said, call_in, calls_in}
use Rattle.wam_machine.specs.View.{Acts, alternative_of, choice_of, stack_of, state_from, state_with, state_of, mode_of, calls}
use Rattle.wam_machine.specs.declared.run.Event.{Event}
use Rattle.wam_machine.specs.declared.state.Machine.{Machine}
use Rattle.wam_machine.specs.declared.state.Mode.{Mode}
use Rattle.wam_machine.specs.declared.state.Mode.TheVariants.{Raising as RaisingBall}
use Rattle.wam_machine.specs.declared.terms.Terms.{Terms}
use Rattle.wam_machine.proofs.Heights.{newest-append, newest-length, cut_newest}

-- ---- the stack

module _ {C : Type 0} (rest : C → Goal → Journal → List ℕ) (at : C → ℕ) (j : Journal) where
  pub stack-push : (ss : List (Saved C)) (s : Saved C) → stack_of rest at j (ss ++ s ∷ []) ≡ choice_of rest at j s ∷ stack_of rest at j ss
  stack-push ss s = newest-append (choice_of rest at j) ss (s ∷ []) []

  pub stack-height : (ss : List (Saved C)) → length (stack_of rest at j ss) ≡ length ss
  stack-height ss = let h : length (stack_of rest at j ss) ≡ length ss + 0 = newest-length (choice_of rest at j) ss [] in omega arith

  pub stack-cut : (ss : List (Saved C)) (h : ℕ) → cut_to h (stack_of rest at j ss) ≡ stack_of rest at j (take h ss)
  stack-cut ss h = cut_newest (choice_of rest at j) ss h

-- the calls of a stack with one more moment
pub calls-push : {C : Type 0} (ss : List (Saved C)) (s : Saved C) → calls_in (ss ++ s ∷ []) ≡ calls_in ss ++ calls_in (s ∷ [])
calls-push ss s = filter_map-append (λ x. call_in x.turn) ss (s ∷ [])

-- and where that is no call
pub calls-beside : {C : Type 0} (ss : List (Saved C)) (s : Saved C) → call_in s.turn ≡ None → calls_in (ss ++ s ∷ []) ≡ calls_in ss
calls-beside {C} ss s e = calls-push ss s ∙ ap (λ (o : Option (Left C)). calls_in ss ++ cons_option o []) e ∙ append-nil (calls_in ss)

-- ---- by what the terms say

module _ {C : Type 0} (old new : Machine C) (terms : AreTerms new.terms) (same : new ≡ record old { mode = new.mode; terms = new.terms }) where
  pub acts : (f : State → Outcome) (t : Said C) → said new.terms ≡ t → t.shown ≡ (said old.terms).shown → calls_in t.stack ≡ calls old
      → ((rest : C → Goal → Journal → List ℕ) (at : C → ℕ) (j : Journal) (steps : ℕ) (events : List Event) (front : ℕ) (looks : List Deed) (tried : ℕ) (fronts : List ℕ)
      → f (state_with rest at j (said old.terms) (mode_of old.mode) steps events front looks tried fronts) ≡ Goes (state_with rest at j t (mode_of new.mode) steps events front looks tried fronts))
      → Acts f old new
  acts f t is shown calls_are goes = record {
    terms = terms;
    same = same ∙ ap (λ (e : Vec Event Global). let r : Machine C = record old { mode = new.mode; terms = new.terms; events = e } in r) (sym (ap (λ (m : Machine C). m.events) same));
    shown = ap (λ (s : Said C). s.shown) is ∙ shown;
    calls_are = ap (λ (s : Said C). calls_in s.stack) is ∙ calls_are;
    goes = λ rest at j looks tried fronts.
        goes rest at j old.steps old.events.items old.front looks tried fronts
        ∙ ap (λ (s : Said C). Goes (state_with rest at j s (mode_of new.mode) old.steps old.events.items old.front looks tried fronts)) (sym is)
        ∙ ap (λ (m : Machine C). Goes (state_with rest at j (said new.terms) (mode_of new.mode) m.steps m.events.items m.front looks tried fronts)) (sym same);
  }

  -- goals come first, which may depend on the height of the stack
  pub acts-onwards : (ns : ℕ → List Next) → new.mode ≡ old.mode
      → said new.terms ≡ record (said old.terms) { goals = ns (length (said old.terms).stack) ++ (said old.terms).goals } → Acts (λ s. onwards (ns (height s)) s) old new
  acts-onwards ns mode is =
      acts (λ s. onwards (ns (height s)) s) (record (said old.terms) { goals = ns (length (said old.terms).stack) ++ (said old.terms).goals }) is refl refl
      (λ rest at j steps events front looks tried fronts.
      ap (λ (h : ℕ). onwards (ns h) (state_with rest at j (said old.terms) (mode_of old.mode) steps events front looks tried fronts)) (stack-height rest at j (said old.terms).stack)
      ∙ ap (λ (m : Mode). Goes (state_with rest at j (record (said old.terms) { goals = ns (length (said old.terms).stack) ++ (said old.terms).goals }) (mode_of m) steps events front looks tried fronts)) (sym mode))

  -- the same above a moment that is saved, which is no call
  module _ (s : Saved C) (a : Alternative) (beside : call_in s.turn ≡ None) (alike : (rest : C → Goal → Journal → List ℕ) (at : C → ℕ) (j : Journal) → alternative_of rest at j s.turn ≡ a)
      (goals_are : s.goals ≡ (said old.terms).goals) (bindings_are : s.bindings ≡ (said old.terms).bindings) where
    saved_choice : (rest : C → Goal → Journal → List ℕ) (at : C → ℕ) (j : Journal) → choice_of rest at j s ≡ record { what = a; goals = (said old.terms).goals; bindings = (said old.terms).bindings }
    saved_choice rest at j = rw (alike rest at j, goals_are, bindings_are) refl

    pub acts-pushed : (ns : ℕ → List Next) → new.mode ≡ old.mode
        → said new.terms ≡ record (said old.terms) { goals = ns (length (said old.terms).stack) ++ (said old.terms).goals; stack = (said old.terms).stack ++ s ∷ [] }
        → Acts (λ st. onwards (ns (height st)) (pushed a st)) old new
    acts-pushed ns mode is =
        acts (λ st. onwards (ns (height st)) (pushed a st))
        (record (said old.terms) { goals = ns (length (said old.terms).stack) ++ (said old.terms).goals; stack = (said old.terms).stack ++ s ∷ [] }) is refl
        (calls-beside (said old.terms).stack s beside)
        (λ rest at j steps events front looks tried fronts.
        let b = said old.terms in
        ap (λ (h : ℕ). onwards (ns h) (pushed a (state_with rest at j b (mode_of old.mode) steps events front looks tried fronts))) (stack-height rest at j b.stack)
        ∙ ap (λ (cs : List spec.Choice). Goes (state_from (ns (length b.stack) ++ b.goals) cs b.bindings b.fresh (mode_of old.mode) steps events front looks tried fronts))
        (ap (λ (x : spec.Choice). x ∷ stack_of rest at j b.stack) (sym (saved_choice rest at j)) ∙ sym (stack-push rest at j b.stack s))
        ∙ ap (λ (m : Mode). Goes (state_from (ns (length b.stack) ++ b.goals) (stack_of rest at j (b.stack ++ s ∷ [])) b.bindings b.fresh (mode_of m) steps events front looks tried fronts)) (sym mode))

-- ---- what is said, step by step

module _ {C : Type 0} where
  -- a moment was saved
  pub said-saved : (o m n : Said C) (t u : Turn C) → m ≡ o → t ≡ u
      → n ≡ record m { stack = m.stack ++ record { turn = t; goals = m.goals; bindings = m.bindings } ∷ [] }
      → n ≡ record o { stack = o.stack ++ record { turn = u; goals = o.goals; bindings = o.bindings } ∷ [] }
  said-saved o m n t u e f h =
      h ∙ ap₂ (λ (s : Said C) (v : Turn C). let r : Said C = record s { stack = s.stack ++ record { turn = v; goals = s.goals; bindings = s.bindings } ∷ [] } in r) e f

  -- something was put before what is still to be done
  pub said-put : (m k n : Said C) (g h : Next) → m ≡ k → g ≡ h → n ≡ record m { goals = g ∷ m.goals } → n ≡ record k { goals = h ∷ k.goals }
  said-put m k n g h e f is = is ∙ ap₂ (λ (s : Said C) (x : Next). let r : Said C = record s { goals = x ∷ s.goals } in r) e f

-- ---- cells

pub cells-on : {C : Type 0} (a b d : Terms C) → KeepsCells a b → KeepsCells b d → KeepsCells a d
cells-on a b d f g c is = let p = f c is in let q = g c p.0 in (q.0, q.1 ∙ p.1)

-- ---- answers

pub on_ok : {T E : Type 0} (r : Result T E) (P Q : Type 0) → (P → Q) → OnOk r P → OnOk r Q
on_ok (Ok x) P Q f h = f h
on_ok (Err e) P Q f h = tt

pub at_ok : {T E : Type 0} (r : Result T E) (P : Type 0) → P → OnOk r P
at_ok (Ok x) P p = p
at_ok (Err e) P p = tt

-- ---- heights

-- above one more moment
pub higher : {C : Type 0} (o n : Said C) (s : Saved C) (h : ℕ) → h ≡ length n.stack → n ≡ record o { stack = o.stack ++ s ∷ [] } → h ≡ suc (length o.stack)
higher o n s h e is =
    let a : length n.stack ≡ length (o.stack ++ s ∷ []) = ap (λ (t : Said _). length t.stack) is in
    let b : length (o.stack ++ s ∷ []) ≡ length o.stack + 1 = length-append o.stack (s ∷ []) in
    omega arith

-- ---- by another function, and from other terms that say the same

module _ {C : Type 0} (old new : Machine C) where
  -- from terms that say the same
  pub acts-from : (f : State → Outcome) (t : Terms C) → said t ≡ said old.terms → Acts f (record old { terms = t }) new → Acts f old new
  acts-from f t e a = record {
    terms = a.terms;
    same = a.same;
    shown = a.shown ∙ ap (λ (s : Said C). s.shown) e;
    calls_are = a.calls_are ∙ ap (λ (s : Said C). calls_in s.stack) e;
    goes = λ rest at j looks tried fronts.
        ap (λ (s : Said C). f (state_with rest at j s (mode_of old.mode) old.steps old.events.items old.front looks tried fronts)) (sym e) ∙ a.goes rest at j looks tried fronts;
  }

  -- by a function that gives the same
  pub acts-same : (f g : State → Outcome) → ((s : State) → g s ≡ f s) → Acts f old new → Acts g old new
  acts-same f g e a = record {
    terms = a.terms;
    same = a.same;
    shown = a.shown;
    calls_are = a.calls_are;
    goes = λ rest at j looks tried fronts. e (state_of rest at j old looks tried fronts) ∙ a.goes rest at j looks tried fronts;
  }

  pub acts-raised : (fault : Fault) (i k : Indicator) → AreTerms new.terms → new ≡ record old { mode = new.mode; terms = new.terms } → i ≡ k → new.mode ≡ RaisingBall (fault_tree fault i) → said new.terms ≡ said old.terms
      → Acts (raises fault k) old new
  acts-raised fault i k terms same e mode is =
      acts old new terms same (raises fault k) (said old.terms) is refl refl
      (λ rest at j steps events front looks tried fronts.
      ap (λ (m : Mode). Goes (state_with rest at j (said old.terms) (mode_of m) steps events front looks tried fronts)) (ap (λ (l : Indicator). RaisingBall (fault_tree fault l)) (sym e) ∙ sym mode))

pub count-trees : (tree : Cell → Tree) (cs : List Cell) → count (trees_of tree cs) ≡ length cs
count-trees tree [] = refl
count-trees tree (c ∷ cs) = rw add-one (ap suc (count-trees tree cs))

pub if_ok : {T E : Type 0} (r : Result T E) (P Q : T → Type 0) → IfOk r P → ((x : T) → P x → Q x) → IfOk r Q
if_ok (Ok x) P Q h f = f x h
if_ok (Err e) P Q h f = tt
