-- A ball and a catcher that are made one, as what the definition does to the engine's states.
use Rattle.std.proofs.Common.{◌≡◌, ℕ, ◌+◌, List, [], ◌∷◌, ◌++◌, length, map, Bool, true, false, refl, sym, ap, ap₂, ◌∙◌, Option, Some, None}
use Rattle.prolog_terms.specs.Tree.{Tree}
use Rattle.prolog_terms.specs.Clauses.{call_term}
use Rattle.prolog_terms.specs.Substitutions.{substituted, renamed, beyond}
use Rattle.term_store.specs.declared.cell.Cell.{Cell}
use Rattle.term_unifier.specs.Unifier.{unifier}
use Rattle.wam_machine.specs.States as spec
use Rattle.wam_machine.specs.States.{Next, Do, State, Setting, Outcome, Goes, Going, next_under}
use Rattle.wam_machine.specs.Machine.{raise_it, catching_ball, recovering, reached}
use Rattle.wam_machine.specs.Terms.{Said, OfCatch, AreTerms, IsBuilt, KeepsCells, KeepsBound, IsSolved, said, built, calls_in}
use Rattle.wam_machine.specs.View.{Acts, stack_of, state_from, state_with, state_of, mode_of}
use Rattle.wam_machine.specs.declared.state.Machine.{Machine}
use Rattle.wam_machine.specs.declared.state.Mode.{Mode}
use Rattle.wam_machine.specs.declared.state.Mode.TheVariants.{Going as IsGoing, Raising as RaisingBall}
use Rattle.wam_machine.specs.declared.terms.Terms.{Terms}
use Rattle.wam_machine.proofs.Acted.{acts, stack-push, stack-height, calls-beside, said-put}
use Rattle.wam_machine.proofs.Resumed.{moment}

pub same_ball : (a b : Tree) → RaisingBall a ≡ RaisingBall b → a ≡ b
same_ball a b e = cc

-- ---- cells, where they are kept first and then bound

pub bound-after : {C : Type 0} (u : Option (ℕ → Tree)) (a b d : Terms C) → KeepsCells a b → KeepsBound u b d → KeepsBound u a d
bound-after None a b d f g = λ c is. let p = f c is in let q = g c p.0 in (q.0, q.1 ∙ p.1)
bound-after (Some m) a b d f g = λ c is. let p = f c is in let q = g c p.0 in (q.0, q.1 ∙ ap (λ (t : Tree). substituted m t) p.1)

pub bound-built : {C : Type 0} (u : Option (ℕ → Tree)) (a b : Terms C) (c : Cell) → KeepsBound u a b → IsBuilt a c → IsBuilt b c
bound-built None a b c keeps is = (keeps c is).0
bound-built (Some m) a b c keeps is = (keeps c is).0

-- the stack stays
pub solved-stack : {C : Type 0} (goals : List Next) (o n : Said C) (done : Bool) (u : Option (ℕ → Tree)) → IsSolved goals o n done u → n.stack ≡ o.stack
solved-stack goals o n done None h = ap (λ (s : Said _). s.stack) h.1
solved-stack goals o n done (Some m) h = ap (λ (s : Said _). s.stack) h.1

module _ {C : Type 0} (old new : Machine C) where
  -- ---- a ball that is raised

  pub acts-ball : (ball : Tree) → AreTerms new.terms → new ≡ record old { mode = new.mode; terms = new.terms } → new.mode ≡ RaisingBall ball → said new.terms ≡ said old.terms → Acts (raise_it ball) old new
  acts-ball ball terms same mode is =
      acts old new terms same (raise_it ball) (said old.terms) is refl refl
      (λ rest at j steps events front looks tried fronts.
      ap (λ (m : Mode). Goes (state_with rest at j (said old.terms) (mode_of m) steps events front looks tried fronts)) (sym mode))

  -- ---- the catcher is tried

  module _ (ball w : Tree) where
    -- it isn't made one with the ball
    pub not_taken : (r : Tree) → old.mode ≡ RaisingBall ball → AreTerms new.terms → new ≡ record old { terms = new.terms }
        → (u : Option (ℕ → Tree)) → unifier (renamed (said old.terms).fresh ball) w ≡ u → IsSolved [] (record (said old.terms) { fresh = (said old.terms).fresh + beyond ball }) (said new.terms) false u
        → Acts (λ s. catching_ball ball w r (record s { mode = Going })) old new
    not_taken r mode terms same None e h =
        let o = said old.terms in
        let with_ball : Said C = record o { fresh = o.fresh + beyond ball } in
        let mode_is : new.mode ≡ old.mode = ap (λ (m : Machine C). m.mode) same in
        acts old new terms (same ∙ ap (λ (md : Mode). let k : Machine C = record old { mode = md; terms = new.terms } in k) (sym mode_is))
        (λ s. catching_ball ball w r (record s { mode = Going })) with_ball h.1 refl refl
        (λ rest at j steps events front looks tried fronts.
        let s : State = state_from o.goals (stack_of rest at j o.stack) o.bindings (o.fresh + beyond ball) Going steps events front looks tried fronts in
        ap (λ (k : Option (ℕ → Tree)). recovering ball r s k) e
        ∙ ap (λ (md : Mode). Goes (state_with rest at j with_ball (mode_of md) steps events front looks tried fronts)) (sym (mode_is ∙ mode)))
    not_taken r mode terms same (Some m) e h = let t : false ≡ true = h.0 in absurd cc

    -- it is, and the recovery is called
    pub is_taken : (recovery : Cell) → IsBuilt old.terms recovery → (t1 t2 : Terms C) (goal : Cell) (h : ℕ) → AreTerms new.terms → new ≡ record old { mode = new.mode; terms = new.terms } → new.mode ≡ IsGoing
        → (u : Option (ℕ → Tree)) → unifier (renamed (said old.terms).fresh ball) w ≡ u → KeepsBound u old.terms t1 → IsSolved [] (record (said old.terms) { fresh = (said old.terms).fresh + beyond ball }) (said t1) true u
        → said t2 ≡ said t1 → built t2 goal ≡ call_term (built t1 recovery) → h ≡ length (said t2).stack → said new.terms ≡ record (said t2) { goals = Do (built t2 goal) h ∷ (said t2).goals }
        → Acts (λ s. catching_ball ball w (built old.terms recovery) (record s { mode = Going })) old new
    is_taken recovery has t1 t2 goal h terms same mode None e keeps solved two called high put = let t : true ≡ false = solved.0 in absurd cc
    is_taken recovery has t1 t2 goal h terms same mode (Some m) e keeps solved two called high put =
        let o = said old.terms in
        let r = built old.terms recovery in
        let n : ℕ = length o.stack in
        let bound : Said C = record o { fresh = o.fresh + beyond ball; goals = map (next_under m) o.goals; bindings = λ v. substituted m (o.bindings v) } in
        let is : said t2 ≡ bound = two ∙ solved.1 in
        let g : built t2 goal ≡ substituted m (call_term r) = called ∙ ap (λ (t : Tree). call_term t) (keeps recovery has).1 in
        let k : h ≡ n = high ∙ ap (λ (s : Said C). length s.stack) is in
        let after : Said C = record bound { goals = Do (substituted m (call_term r)) n ∷ bound.goals } in
        let done : said new.terms ≡ after = said-put (said t2) bound (said new.terms) (Do (built t2 goal) h) (Do (substituted m (call_term r)) n) is (ap₂ (λ (t : Tree) (l : ℕ). Do t l) g k) put in
        acts old new terms same (λ s. catching_ball ball w r (record s { mode = Going })) after done refl refl
        (λ rest at j steps events front looks tried fronts.
        let s : State = state_from o.goals (stack_of rest at j o.stack) o.bindings (o.fresh + beyond ball) Going steps events front looks tried fronts in
        ap (λ (v : Option (ℕ → Tree)). recovering ball r s v) e
        ∙ ap (λ (l : ℕ). Goes (state_from (Do (substituted m (call_term r)) l ∷ bound.goals) (stack_of rest at j o.stack) bound.bindings bound.fresh Going steps events front looks tried fronts)) (stack-height rest at j o.stack)
        ∙ ap (λ (md : Mode). Goes (state_with rest at j after (mode_of md) steps events front looks tried fronts)) (sym mode))

-- ---- back at the moment of a `catch`

pub recovered : {C : Type 0} (x : Setting) (m new : Machine C) (t : Terms C) (ball w r : Tree) → (said m.terms).stack ≡ (said t).stack ++ moment (OfCatch w r) (said t) ∷ []
    → (said t).fresh ≡ (said m.terms).fresh → (said t).shown ≡ (said m.terms).shown → Acts (λ s. catching_ball ball w r (record s { mode = Going })) (record m { terms = t }) new
    → Acts (λ s. reached x ball s s.stack) m new
recovered x m new t ball w r is fresh shown a = record {
  terms = a.terms;
  same = a.same;
  shown = a.shown ∙ shown;
  calls_are = a.calls_are ∙ sym (ap calls_in is ∙ calls-beside (said t).stack (moment (OfCatch w r) (said t)) refl);
  goes = λ rest at j looks tried fronts.
      ap (λ (cs : List spec.Choice). reached x ball (state_of rest at j m looks tried fronts) cs) (ap (stack_of rest at j) is ∙ stack-push rest at j (said t).stack (moment (OfCatch w r) (said t)))
      ∙ ap (λ (f : ℕ). catching_ball ball w r (state_from (said t).goals (stack_of rest at j (said t).stack) (said t).bindings f Going m.steps m.events.items m.front looks tried fronts)) (sym fresh)
      ∙ a.goes rest at j looks tried fronts;
}
