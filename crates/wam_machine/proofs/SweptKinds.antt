-- Clauses that are erased within one step: what follows by what was found of the procedure.
use Rattle.std.proofs.Common.{◌≡◌, ℕ, List, take, refl, sym, ap, ◌∙◌, Bool, true, false, Option, Some, None}
use Rattle.std.specs.Prelude.{if◌then◌else◌, option_map}
use Rattle.prolog_terms.specs.Tree.{Tree, atom}
use Rattle.prolog_terms.specs.Faults.{fault_tree}
use Rattle.prolog_terms.specs.declared.entry.Indicator.{Indicator}
use Rattle.prolog_terms.specs.declared.entry.Kind.{Kind}
use Rattle.prolog_terms.specs.declared.entry.Kind.TheVariants.{Static, Dynamic}
use Rattle.prolog_terms.specs.declared.entry.What.TheVariants.{Declare}
use Rattle.term_store.specs.declared.cell.Cell.{Cell}
use Rattle.call_patterns.specs.Keys.{keys}
use Rattle.journals.specs.Journal.{Journal, procedure_named}
use Rattle.journal_base.specs.View.{View, Grows, Looks, Appends, IsSound, InSeen}
use Rattle.journal_base.specs.Updates.{IsFull}
use Rattle.wam_machine.specs.Reserved.{is_reserved}
use Rattle.wam_machine.specs.States as spec
use Rattle.wam_machine.specs.States.{State, Setting, Outcome, Goes, taking, raises, no_room, refusing}
use Rattle.wam_machine.specs.Procedures.{no_change, retract_all_at, sweep_at, swept_keys, sweeping_named, sweeping_where, sweeping_kind, absent_swept, declaring_swept, declared_as, declared_meanwhile}
use Rattle.wam_machine.specs.Cursors.{Begins}
use Rattle.wam_machine.specs.Sweeps.{IsSwept, IsSweep}
use Rattle.wam_machine.specs.Terms.{IsBuilt, KeepsCells, built}
use Rattle.wam_machine.specs.View.{setting, IsFronted, IsHostOf, Asks}
use Rattle.wam_machine.specs.declared.state.Host.{Host}
use Rattle.wam_machine.specs.declared.state.Machine.{Machine}
use Rattle.wam_machine.specs.declared.state.Mode.TheVariants.{Raising as RaisingBall}
use Rattle.wam_machine.specs.declared.terms.Terms.{Terms}
use Rattle.wam_machine.proofs.Begins.{begins_before, seen_in, grows_refl, looks_refl, host_on}
use Rattle.wam_machine.proofs.Asked.{IsTaken, taken_front, asks_as, asks_nothing, asks_raised, asks_done, asks_refused, refused_full}
use Rattle.wam_machine.proofs.AsksOn.{asks_front}
use Rattle.wam_machine.proofs.Matches.{named_stays}

-- ---- the goal, if there is one

pub swept_kept : {C : Type 0} (old new : Terms C) (goal : Option Cell) → KeepsCells old new → IsSwept (IsBuilt old) goal → IsSwept (IsBuilt new) goal
swept_kept old new None k h = tt
swept_kept old new (Some c) k h = (k c h).0

pub swept_trees : {C : Type 0} (old new : Terms C) (goal : Option Cell) → KeepsCells old new → IsSwept (IsBuilt old) goal → option_map (built new) goal ≡ option_map (built old) goal
swept_trees old new None k h = refl
swept_trees old new (Some c) k h = ap (λ (t : Tree). Some t) (k c h).1

-- an atom has no key at any position
pub no_keys : (a : List ℕ) → keys (atom a) ≡ swept_keys None
unfolding keys
no_keys a = refl

-- ---- by the definition

module _ (x : Setting) (i : Indicator) (goal : Option Tree) where
  pub sweep_reserved : (s : State) → is_reserved i ≡ true → sweeping_named x goal s i ≡ raises (no_change i) (sweep_at goal) s
  sweep_reserved s e =
      ap (λ (t : Bool). if t then raises (no_change i) (sweep_at goal) s else taking x s (λ seen t. sweeping_where x i goal s.front seen t (procedure_named seen i))) e

  pub sweep_free : (s : State) → is_reserved i ≡ false → sweeping_named x goal s i ≡ taking x s (λ seen t. sweeping_where x i goal s.front seen t (procedure_named seen i))
  sweep_free s e =
      ap (λ (t : Bool). if t then raises (no_change i) (sweep_at goal) s else taking x s (λ seen t. sweeping_where x i goal s.front seen t (procedure_named seen i))) e

  pub sweep_static : (before : ℕ) (seen : Journal) (s : State) (p : ℕ) (k : Kind) (ball : Tree) → procedure_named seen i ≡ Some (p, k) → k ≡ Static → ball ≡ fault_tree (no_change i) (sweep_at goal)
      → sweeping_where x i goal before seen s (procedure_named seen i) ≡ Goes (record s { mode = spec.Raising ball })
  sweep_static before seen s p k ball e static is =
      ap (sweeping_where x i goal before seen s) e ∙ ap (sweeping_kind x i goal before seen s p) static
      ∙ ap (λ (t : Tree). Goes (record s { mode = spec.Raising t })) (sym is)

  pub sweep_search : (from p : ℕ) (k : Kind) → k ≡ Dynamic → procedure_named (take from x.journal) i ≡ Some (p, k)
      → IsSweep x goal from p (λ before seen t. sweeping_where x i goal before seen t (procedure_named seen i))
  sweep_search from p k dynamic e = λ before n s low high.
      ap (sweeping_where x i goal before (take n x.journal) s) (named_stays x.journal from n i p k low e)
      ∙ ap (sweeping_kind x i goal before (take n x.journal) s p) dynamic

-- ---- what isn't declared

-- a static procedure may not be changed
pub declared_static : {C : Type 0} (v : View) (m : Machine C) (i : Indicator) (k : Kind) (ball : Tree) → k ≡ Static → ball ≡ fault_tree (no_change i) retract_all_at → IsFronted v m.front
    → Asks v v (λ j s. declared_as i s k) m (record m { mode = RaisingBall ball })
declared_static v m i k ball static is front =
    asks_as v v (λ j s. raises (no_change i) retract_all_at s) (λ j s. declared_as i s k) m (record m { mode = RaisingBall ball })
    (λ j b s. ap (declared_as i s) static) (asks_raised v v m ball (no_change i) retract_all_at is refl front)

pub declared_dynamic : {C : Type 0} (v : View) (m : Machine C) (i : Indicator) (k : Kind) → k ≡ Dynamic → IsFronted v m.front → Asks v v (λ j s. declared_as i s k) m m
declared_dynamic v m i k dynamic front =
    asks_as v v (λ j s. Goes s) (λ j s. declared_as i s k) m m (λ j b s. ap (declared_as i s) dynamic) (asks_nothing v m front)

module _ {C : Type 0} (v u : View) (h : Host) (old mid : Machine C) (t : IsTaken u old mid) (front : IsFronted v old.front) (k : IsHostOf h v) (i : Indicator) where
  pub swept_declared : IsSound v → Appends v u (Declare i Dynamic) → Asks v u (λ j. declaring_swept (setting h old j) i) old mid
  swept_declared sound a =
      asks_done v u u h old mid mid t (grows_refl u a.grows.sound) front k (Declare i Dynamic) (λ j seen s. Goes s) (λ j seen s. declared_meanwhile (setting h old j) i seen s (procedure_named seen i)) sound a
      (asks_nothing u mid (taken_front u old mid a.grows.sound t))

  pub swept_full : (n q g : ℕ) (ball : Tree) → Looks v u → InSeen u (λ J. procedure_named J i ≡ None) → IsFull u (Declare i Dynamic) n q g → ball ≡ fault_tree no_room retract_all_at
      → Asks v u (λ j. declaring_swept (setting h old j) i) old (record mid { mode = RaisingBall ball })
  swept_full n q g ball l absent full is =
      asks_refused v u u h old mid (record mid { mode = RaisingBall ball }) t (grows_refl u l.grows.sound) front k (Declare i Dynamic) (λ j seen s. Goes s)
      (λ j seen s. declared_meanwhile (setting h old j) i seen s (procedure_named seen i)) l
      (asks_as u u (λ j s. raises no_room retract_all_at s) (λ j s. declared_meanwhile (setting h old j) i (take u.seen j) s (procedure_named (take u.seen j) i)) mid (record mid { mode = RaisingBall ball })
      (λ j b s.
      ap (declared_meanwhile (setting h old j) i (take u.seen j) s) (seen_in u (λ J. procedure_named J i ≡ None) j absent b)
      ∙ refused_full h u retract_all_at (Declare i Dynamic) n q g (setting h old j) j s (host_on h v u l.grows k) refl refl full b)
      (asks_raised u u mid ball no_room retract_all_at is refl (taken_front u old mid l.grows.sound t)))

  pub swept_already : (w : View) (new : Machine C) (p : ℕ) (d : Kind) → Grows u w → Looks v u → InSeen u (λ J. procedure_named J i ≡ Some (p, d)) → Asks u w (λ j s. declared_as i s d) mid new
      → Asks v w (λ j. declaring_swept (setting h old j) i) old new
  swept_already w new p d g l named on =
      asks_refused v u w h old mid new t g front k (Declare i Dynamic) (λ j seen s. Goes s) (λ j seen s. declared_meanwhile (setting h old j) i seen s (procedure_named seen i)) l
      (asks_as u w (λ j s. declared_as i s d) (λ j s. declared_meanwhile (setting h old j) i (take u.seen j) s (procedure_named (take u.seen j) i)) mid new
      (λ j b s. ap (declared_meanwhile (setting h old j) i (take u.seen j) s) (seen_in u (λ J. procedure_named J i ≡ Some (p, d)) j named (begins_before u w j g b)))
      on)

-- the front is taken at which the procedure isn't declared
pub absent_taken : {C : Type 0} (v w : View) (h : Host) (old mid new : Machine C) (i : Indicator) (goal : Option Cell) → IsTaken v old mid → IsSound v → IsFronted v old.front → Grows v w
    → ((j : Journal) → Begins v j → procedure_named (take v.seen j) i ≡ None)
    → Asks v w (λ j. absent_swept (setting h mid j) (option_map (built mid.terms) goal) i) mid new
    → Asks v w (λ j s. taking (setting h old j) s (λ seen t. sweeping_where (setting h old j) i (option_map (built old.terms) goal) s.front seen t (procedure_named seen i))) old new
absent_taken {C} v w h old mid new i goal t sound front g absent on =
    asks_front v v w h old mid new t g front
    (λ j before seen s. sweeping_where (setting h old j) i (option_map (built old.terms) goal) before seen s (procedure_named seen i)) (looks_refl v sound)
    (asks_as v w (λ j. absent_swept (setting h mid j) (option_map (built mid.terms) goal) i)
    (λ j s. sweeping_where (setting h old j) i (option_map (built old.terms) goal) old.front (take v.seen j) s (procedure_named (take v.seen j) i)) mid new
    (λ j b s.
    ap (sweeping_where (setting h old j) i (option_map (built old.terms) goal) old.front (take v.seen j) s) (absent j (begins_before v w j g b))
    ∙ sym (ap (λ (m : Machine C). absent_swept (setting h m j) (option_map (built m.terms) goal) i s) t.same))
    on)
