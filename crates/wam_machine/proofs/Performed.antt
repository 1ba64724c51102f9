-- A goal that is done is the machine's move.
use Rattle.std.proofs.Common.{◌≡◌, ℕ, ◌+◌, List, [], refl, arith, Option, Some}
use Rattle.std.specs.Prelude.{◌≢◌}
use Rattle.prolog_terms.specs.Tree.{Tree}
use Rattle.journal_base.specs.Goals.{Goal}
use Rattle.journals.specs.Journal.{Journal}
use Rattle.journal_base.specs.declared.tally.Tally.{Tally}
use Rattle.term_store.specs.declared.cell.Cell.{Cell}
use Rattle.wam_machine.specs.Control as spec
use Rattle.wam_machine.specs.Control.{control_of}
use Rattle.prolog_terms.specs.declared.entry.Entry.{Entry}
use Rattle.journal_base.specs.View.{View}
use Rattle.wam_machine.specs.States.{Setting}
use Rattle.wam_machine.specs.Machine.{performing}
use Rattle.wam_machine.specs.Goals.{IsSimple, control_in}
use Rattle.wam_machine.specs.View.{state_of, performs_goal, GoesOn, ComesToEnd, Does, IsHeld}
use Rattle.wam_machine.specs.declared.control.Control.{Control}
use Rattle.wam_machine.specs.declared.control.Control.TheVariants.{True, Fail, Cut, Repeat, Both, Either, IfElse, If, Not, Call, Once, Catch, Findall, Throw, Halt, HaltWith, Database, Builtin, User}
use Rattle.wam_machine.specs.declared.run.RunEnd.{RunEnd}
use Rattle.wam_machine.specs.declared.run.RunEnd.TheVariants.{Spent}
use Rattle.wam_machine.specs.declared.state.Machine.{Machine}
use Rattle.wam_machine.proofs.Moves.{TakesStep, goal_steps, goal_spent}
use Rattle.wam_machine.proofs.Steps.{through, does_through}

-- ---- counts

pub held_step : (budget : ℕ) (v : View) (steps front n : ℕ) (t : Tally) → IsHeld budget v steps front n t → steps ≢ budget → IsHeld budget v (steps + 1) front n t
held_step budget v steps front n t h other = record {
  within = omega (arith, h.within, other);
  few = h.few;
  reached = h.reached;
  below = h.below;
  looks = omega (arith, h.looks);
  scans = h.scans;
  kept = h.kept;
  wants = h.wants;
  built = h.built;
  indexes = h.indexes;
}

-- a goal that is no conjunction takes a step
pub takes_step : (tree : Cell → Tree) (c : Control) → IsSimple c → TakesStep (control_in tree c)
takes_step tree True h = tt
takes_step tree Fail h = tt
takes_step tree Cut h = tt
takes_step tree Repeat h = tt
takes_step tree (Both a b) h = absurd h
takes_step tree (Either a b) h = tt
takes_step tree (IfElse c t e) h = tt
takes_step tree (If c t) h = tt
takes_step tree (Not g) h = tt
takes_step tree (Call g added) h = tt
takes_step tree (Once g) h = tt
takes_step tree (Catch g c r) h = tt
takes_step tree (Findall t g l) h = tt
takes_step tree (Throw b) h = tt
takes_step tree Halt h = tt
takes_step tree (HaltWith n) h = tt
takes_step tree (Database a) h = tt
takes_step tree (Builtin row args) h = tt
takes_step tree (User i) h = tt

module _ {C : Type 0} (rest : C → Goal → Journal → List ℕ) (may : C → Goal → Journal → ℕ) (at : C → ℕ) (ahead : C → ℕ) (causes : List ℕ)
    (x : Setting) (m : Machine C) (goal : Tree) (cut : ℕ) (c : spec.Control) (is : control_of goal ≡ Some c) (takes : TakesStep c) where
  -- by a step
  pub performed : {made : List Entry} (j : Journal) (n : Machine C) → m.steps ≢ x.budget → GoesOn rest may at ahead causes made (performing x goal cut c) j (record m { steps = m.steps + 1 }) n → GoesOn rest may at ahead causes made (performs_goal x goal cut) j m n
  performed j n d on =
      through rest may at ahead causes (performing x goal cut c) (performs_goal x goal cut) j m (record m { steps = m.steps + 1 }) n refl refl refl
      (λ looks tried fs. goal_steps x goal cut (state_of rest at j m looks tried fs) c is takes d) on

  pub performed_so : (made : List Entry) (n : Machine C) (o : Option RunEnd) → m.steps ≢ x.budget → Does rest may at ahead causes made (performing x goal cut c) x (record m { steps = m.steps + 1 }) n o → Does rest may at ahead causes made (performs_goal x goal cut) x m n o
  performed_so made n o d on =
      does_through rest may at ahead causes made (performing x goal cut c) (performs_goal x goal cut) x m (record m { steps = m.steps + 1 }) n o refl refl refl
      (λ looks tried fs. goal_steps x goal cut (state_of rest at x.journal m looks tried fs) c is takes d) on

  -- no step is left
  pub is_spent : m.steps ≡ x.budget → ComesToEnd rest at [] (performs_goal x goal cut) x m m (Spent m.steps)
  is_spent d = record {
    made_is = refl;
    fronts_are = refl;
    tally_is = refl;
    ends = λ deeds tried. goal_spent x goal cut (state_of rest at x.journal m deeds tried []) c is takes refl d;
  }
