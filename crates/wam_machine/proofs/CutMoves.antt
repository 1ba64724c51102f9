-- A cut is what the machine's definition does to its state.
use Rattle.std.proofs.Common.{◌≡◌, ℕ, ◌+◌, ◌≤◌, List, [], ◌∷◌, ◌++◌, length, take, drop, refl, sym, ap, ◌∙◌, arith, subst, append-nil}
use Rattle.std.specs.Prelude.{All}
use Rattle.std.specs.List.{sum_by}
use Rattle.std.proofs.lemmas.List.{length-append, take-append-drop}
use Rattle.std.proofs.lemmas.List.Elements.{All-nil, All-cons, All-head, All-tail, filter_map-append}
use Rattle.std.proofs.lemmas.List.Sums.{sum_by-append}
use Rattle.journal_base.specs.Goals.{Goal}
use Rattle.journals.specs.Journal.{Journal}
use Rattle.wam_machine.specs.States as spec
use Rattle.journal_base.specs.View.{View, Looks}
use Rattle.wam_machine.specs.States.{State, Outcome, Goes, cut_back, fails}
use Rattle.wam_machine.specs.Terms.{Left, Saved, Said, AreTerms, said, call_in, calls_in}
use Rattle.wam_machine.specs.Cursors.{AreNamed, visits_left}
use Rattle.wam_machine.specs.View.{state_with, state_from, state_of, mode_of, calls, Works, GoesOn, IsHeld, IsHeldIn, IsLeft}
use Rattle.wam_machine.specs.declared.state.Machine.{Machine}
use Rattle.wam_machine.specs.declared.state.Mode.TheVariants.{Failing as IsFailing}
use Rattle.wam_machine.specs.declared.terms.Terms.{Terms}
use Rattle.wam_machine.proofs.Acted.{stack-cut}
use Rattle.wam_machine.proofs.Begins.{below_on}

-- ---- the calls below a height

pub all_prefix : {X : Type 0} (P : X → Type 0) (xs ys : List X) → All P (xs ++ ys) → All P xs
all_prefix P [] ys h = All-nil P
all_prefix P (x ∷ xs) ys h = All-cons P x xs (All-head P x (xs ++ ys) h) (all_prefix P xs ys (All-tail P x (xs ++ ys) h))

calls-split : {C : Type 0} (h : ℕ) (ss : List (Saved C)) → calls_in ss ≡ calls_in (take h ss) ++ calls_in (drop h ss)
calls-split h ss = sym (ap calls_in (take-append-drop h ss)) ∙ filter_map-append (λ s. call_in s.turn) (take h ss) (drop h ss)

sum-cut : {C : Type 0} (f : Left C → ℕ) (h : ℕ) (ss : List (Saved C)) → sum_by f (calls_in (take h ss)) ≤ sum_by f (calls_in ss)
sum-cut f h ss =
    let a : sum_by f (calls_in ss) ≡ sum_by f (calls_in (take h ss) ++ calls_in (drop h ss)) = ap (sum_by f) (calls-split h ss) in
    let b : sum_by f (calls_in (take h ss) ++ calls_in (drop h ss)) ≡ sum_by f (calls_in (take h ss)) + sum_by f (calls_in (drop h ss)) = sum_by-append f (calls_in (take h ss)) (calls_in (drop h ss)) in
    omega arith

few-cut : {C : Type 0} (h : ℕ) (ss : List (Saved C)) → length (calls_in (take h ss)) ≤ length (calls_in ss)
few-cut h ss =
    let a : length (calls_in ss) ≡ length (calls_in (take h ss) ++ calls_in (drop h ss)) = ap length (calls-split h ss) in
    let b : length (calls_in (take h ss) ++ calls_in (drop h ss)) ≡ length (calls_in (take h ss)) + length (calls_in (drop h ss)) = length-append (calls_in (take h ss)) (calls_in (drop h ss)) in
    omega arith

module _ {C : Type 0} (rest : C → Goal → Journal → List ℕ) (may : C → Goal → Journal → ℕ) (at : C → ℕ) (ahead : C → ℕ) (causes : List ℕ) where
  -- ---- a cut

  pub goes_cut : (h : ℕ) (j : Journal) (old : Machine C) (t : Terms C) → said t ≡ record (said old.terms) { stack = take h (said old.terms).stack } → IsHeldIn rest may at j old.tally (calls old)
      → GoesOn rest may at ahead causes [] (λ s. Goes (cut_back h s)) j old (record old { terms = t })
  goes_cut h j old t is held =
      let ss = (said old.terms).stack in
      let now : calls_in (said t).stack ≡ calls_in (take h ss) = ap (λ (s : Said C). calls_in s.stack) is in
      record {
        added = [];
        deeds = [];
        hows = [];
        given = 0;
        made_is = refl;
        fronts_are = sym (append-nil old.fronts.items);
        goes = λ looks tried fronts.
            ap (λ st. Goes (state_from (said old.terms).goals st (said old.terms).bindings (said old.terms).fresh (mode_of old.mode) old.steps old.events.items old.front looks tried fronts)) (stack-cut rest at j ss h)
            ∙ ap (λ (s : Said C). Goes (state_with rest at j s (mode_of old.mode) old.steps old.events.items old.front looks tried fronts)) (sym is)
            ∙ ap (λ l. Goes (state_of rest at j (record old { terms = t }) l tried fronts)) (sym (append-nil looks))
            ∙ ap (λ (n : ℕ). Goes (state_of rest at j (record old { terms = t }) (looks ++ []) n fronts)) (plus tried);
        works = subst (λ cs. Works may at ahead causes j old.tally old.tally (calls old) cs [] [] 0) (sym now) (record {
          fair = tt;
          looks = omega arith;
          scans = omega arith;
          kept = omega arith;
          wants = omega arith;
          most = omega (arith, sum-cut (visits_left may at j) h ss);
          least = omega (arith, sum-cut (λ c. ahead c.cursor) h ss);
          unbuilt = λ _. (refl, refl);
        });
        held = subst (IsHeldIn rest may at j old.tally) (sym now) (record {
          named = all_prefix (AreNamed rest at j) (calls_in (take h ss)) (calls_in (drop h ss)) (subst (All (AreNamed rest at j)) (calls-split h ss) held.named);
          raised = omega (arith, sum-cut (visits_left may at j) h ss, held.raised);
        });
      }
    where
      plus : (n : ℕ) → n ≡ n + 0
      plus n = omega arith

  -- ---- and then a failure

  pub goes_failing : (f : State → State) (j : Journal) (old mid : Machine C) → GoesOn rest may at ahead causes [] (λ s. Goes (f s)) j old mid
      → GoesOn rest may at ahead causes [] (λ s. fails (f s)) j old (record mid { mode = IsFailing })
  goes_failing f j old mid on = record {
    added = on.added;
    deeds = on.deeds;
    hows = on.hows;
    given = on.given;
    made_is = on.made_is;
    fronts_are = on.fronts_are;
    goes = λ looks tried fronts. ap failed (on.goes looks tried fronts);
    works = on.works;
    held = on.held;
  }
    where
      failed : Outcome → Outcome
      failed (Goes s) = fails s
      failed (spec.Ends r) = spec.Ends r
      failed spec.Unfit = spec.Unfit

-- ---- what is left

pub left_cut : {C : Type 0} (budget : ℕ) (v w : View) (h : ℕ) (old : Machine C) (t : Terms C) → AreTerms t → said t ≡ record (said old.terms) { stack = take h (said old.terms).stack }
    → IsHeld budget v old.steps old.front (length (calls old)) old.tally → Looks v w → IsLeft budget w old (record old { terms = t })
left_cut budget v w h old t terms is held seen =
    let now : length (calls_in (said t).stack) ≡ length (calls_in (take h (said old.terms).stack)) = ap (λ (s : Said _). length (calls_in s.stack)) is in
    record {
      terms = terms;
      shown = ap (λ (s : Said _). s.shown) is;
      held = record {
        within = held.within;
        few = omega (arith, now, few-cut h (said old.terms).stack, held.few);
        reached = omega (arith, held.reached, seen.grows.front);
        below = below_on v w old.front seen held.below;
        looks = held.looks;
        scans = held.scans;
        kept = held.kept;
        wants = held.wants;
        built = held.built;
        indexes = held.indexes;
      };
    }
