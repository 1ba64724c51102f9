-- The terms before the first move: no frame at first, and no moment to go back to.
use Rattle.std.proofs.Common.{◌≡◌, ℕ, ◌+◌, List, [], ◌∷◌, length, map, refl, sym, ap, ap₂, ◌∙◌, arith, subst}
use Rattle.prolog_terms.specs.Tree.{Tree, Trees, variable, integer, atom, compound, none, more}
use Rattle.prolog_terms.specs.Substitutions.{substituted, all_substituted, beyond}
use Rattle.term_store.specs.declared.cell.Cell.{Cell}
use Rattle.term_store.specs.Shape.{Shape}
use Rattle.term_store.specs.Terms.{raw, text, meaning, term_of, resolved, bindings_by, HasTerm, AreNamed, IsShape}
use Rattle.term_store.specs.Later.{IsLater, AreLonger}
use Rattle.term_store.proofs.Laws.{raw-stays, has_term-later, longer-length}
use Rattle.term_unifier.proofs.Trees.{substituted-variable}
use Rattle.wam_machine.specs.Control.{first_body}
use Rattle.wam_machine.specs.States.{Next, Do}
use Rattle.wam_machine.specs.Machine.{shown_list}
use Rattle.wam_machine.specs.View.{said_at_first}
use Rattle.wam_machine.specs.declared.run.Goal.{Goal}
use Rattle.wam_machine.specs.Terms.{Said, said, built, IsBuilt, goals_at, saved_of}
use Rattle.wam_machine.specs.declared.terms.Choice.{Choice}
use Rattle.wam_machine.specs.declared.terms.Frame.{Frame}
use Rattle.wam_machine.specs.declared.terms.Terms.{Terms}

said_by : {C : Type 0} → Terms C → List Frame → ℕ → List (Choice C) → Said C
said_by t frames next choices = record {
  goals = goals_at (term_of t.names t.store) frames next;
  bindings = meaning t.names t.store;
  fresh = t.store.variables;
  shown = raw t.names t.store t.shown;
  stack = map (saved_of t.names t.store frames) choices;
}

pub first_said : {C : Type 0} (t : Terms C) → t.frames.items ≡ [] → t.next ≡ 0 → t.choices.items ≡ []
    → said t ≡ record { goals = []; bindings = meaning t.names t.store; fresh = t.store.variables; shown = raw t.names t.store t.shown; stack = [] }
unfolding said said_by goals_at
first_said {C} t frames_are next_is choices_are =
    ap (λ (fs : List Frame). said_by t fs t.next t.choices.items) frames_are
    ∙ ap (λ (n : ℕ). said_by t [] n t.choices.items) next_is
    ∙ ap (λ (cs : List (Choice C)). said_by t [] 0 cs) choices_are

none_mapped : {A B : Type 0} (f : A → B) (xs : List A) → map f xs ≡ [] → xs ≡ []
none_mapped f [] e = refl
none_mapped f (x ∷ xs) e = absurd (cc)

-- no moment is kept where none is said
pub none_kept : {C : Type 0} (t : Terms C) → (said t).stack ≡ [] → t.choices.items ≡ []
unfolding said
none_kept t e = none_mapped (saved_of t.names t.store t.frames.items) t.choices.items e

-- ---- from the first store on

module _ (first fresh put : Shape) (n : ℕ) (new : first ≡ record { compounds = []; bindings = []; variables = 0 }) (grown : fresh ≡ record first { variables = first.variables + n }) where
  pub as_wide : put.variables ≡ fresh.variables → put.variables ≡ n
  as_wide e =
      let none : first.variables ≡ 0 = ap (λ (s : Shape). s.variables) new in
      let wide : fresh.variables ≡ first.variables + n = ap (λ (s : Shape). s.variables) grown in
      omega (arith, e, wide, none)

  pub still_free : put.bindings ≡ fresh.bindings → put.bindings ≡ []
  still_free e = e ∙ ap (λ (s : Shape). s.bindings) grown ∙ ap (λ (s : Shape). s.bindings) new

mutual
  unshifted : (t : Tree) → substituted (λ n. variable (0 + n)) t ≡ t
  unshifted (variable n) = let e : 0 + n ≡ n = omega arith in ap variable e
  unshifted (integer z) = refl
  unshifted (atom a) = refl
  unshifted (compound f ts) = ap (compound f) (all_unshifted ts)

  all_unshifted : (ts : Trees) → all_substituted (λ n. variable (0 + n)) ts ≡ ts
  all_unshifted none = refl
  all_unshifted (more t ts) = ap₂ more (unshifted t) (all_unshifted ts)

-- the goal's cell has the goal's term still when the list is there
pub goal_stays : (goal : Tree) (s u : Shape) (names longer : List (List ℕ)) (c : Cell) → IsShape s → AreNamed (length names) s → IsLater s u → AreLonger names longer → HasTerm (length names) s c
    → raw names s c ≡ substituted (λ n. variable (0 + n)) goal → raw longer u c ≡ goal
goal_stays goal s u names longer c h named later texts has e = raw-stays s u names longer c h named later texts has ∙ e ∙ unshifted goal

pub cell_stays : (s u : Shape) (names longer : List (List ℕ)) (c : Cell) → IsLater s u → AreLonger names longer → HasTerm (length names) s c → HasTerm (length longer) u c
cell_stays s u names longer c later texts has = has_term-later s u (length names) (length longer) c later (longer-length names longer texts) has

unbound : (names : List (List ℕ)) (s : Shape) → s.bindings ≡ [] → meaning names s ≡ variable
unbound names s e = ap {B = ℕ → Tree} (λ (bs : List (ℕ × Cell)) (v : ℕ). resolved (bindings_by (text names) s.compounds bs) v) e

-- ---- the terms that are begun

module _ {C : Type 0} (t : Terms C) (names : List (List ℕ)) (s : Shape) (c : Cell) (store_is : t.store ≡ s) (names_are : t.names ≡ names) where
  pub begun_built : HasTerm (length names) s c → IsBuilt t c
  unfolding IsBuilt
  begun_built has =
      subst (λ (ns : List (List ℕ)). HasTerm (length ns) t.store c) (sym names_are) (subst (λ (u : Shape). HasTerm (length names) u c) (sym store_is) has)

  -- what a cell was built as, it stands for
  pub begun_stands : (goal : Tree) → raw names s c ≡ goal → s.bindings ≡ [] → built t c ≡ goal
  unfolding built
  begun_stands goal is free =
      ap (λ (ns : List (List ℕ)). term_of ns t.store c) names_are
      ∙ ap (λ (u : Shape). term_of names u c) store_is
      ∙ ap (λ (m : ℕ → Tree). substituted m (raw names s c)) (unbound names s free)
      ∙ substituted-variable (raw names s c)
      ∙ is

parts : {C : Type 0} → List Next → (ℕ → Tree) → ℕ → Tree → Said C
parts goals bindings fresh shown = record { goals = goals; bindings = bindings; fresh = fresh; shown = shown; stack = [] }

-- what is said at first
pub said_first : {C : Type 0} (goal : Goal) (names : List (List ℕ)) (s : Shape) (shown : Cell) (b t : Said C) (first : Tree)
    → b ≡ record { goals = []; bindings = meaning names s; fresh = s.variables; shown = raw names s shown; stack = [] }
    → t ≡ record b { goals = Do (first_body first) 0 ∷ b.goals }
    → first ≡ goal.term → s.bindings ≡ [] → s.variables ≡ beyond goal.term → raw names s shown ≡ shown_list goal.shown → t ≡ said_at_first goal
unfolding parts
said_first {C} goal names s shown b t first begun is term free wide list =
    is
    ∙ ap (λ (a : Said C). record a { goals = Do (first_body first) 0 ∷ a.goals }) begun
    ∙ ap (λ (u : Tree). parts {C = C} (Do (first_body u) 0 ∷ []) (meaning names s) s.variables (raw names s shown)) term
    ∙ ap (λ (m : ℕ → Tree). parts {C = C} (Do (first_body goal.term) 0 ∷ []) m s.variables (raw names s shown)) (unbound names s free)
    ∙ ap₂ (λ (n : ℕ) (u : Tree). parts {C = C} (Do (first_body goal.term) 0 ∷ []) variable n u) wide list
