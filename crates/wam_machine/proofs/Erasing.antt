-- An erasure that is asked for: it is done, the clause is gone, or there is no room for it.
use Rattle.std.proofs.Common.{◌≡◌, ℕ, zero, suc, ◌+◌, ◌≤◌, List, [], ◌∷◌, ◌++◌, length, take, refl, sym, ap, ◌∙◌, subst, arith, append-nil, Bool, true, false, eq-eqb, Some}
use Rattle.std.specs.Prelude.{map, slice_get, nat_lt, ◌==◌, ◌||◌, if◌then◌else◌}
use Rattle.prolog_terms.specs.Tree.{Tree}
use Rattle.prolog_terms.specs.Faults.{fault_tree}
use Rattle.prolog_terms.specs.declared.entry.Entry.{Entry}
use Rattle.prolog_terms.specs.declared.entry.Indicator.{Indicator}
use Rattle.prolog_terms.specs.declared.entry.What.TheVariants.{Erase}
use Rattle.journal_base.specs.Goals.{Goal}
use Rattle.journal_base.specs.Space.{used, need}
use Rattle.journals.specs.Journal.{Journal, is_erased, erases}
use Rattle.journal_base.specs.Legal.{MayChangeClause}
use Rattle.journal_base.specs.View.{View, Looks, Appends, IsSound, InSeen}
use Rattle.wam_machine.specs.States as spec
use Rattle.wam_machine.specs.States.{State, Setting, Outcome, Goes, Unfit, Deed, Updated, ToErase, raises, fails, refusing, no_room, is_full}
use Rattle.wam_machine.specs.Procedures.{serving, retract_at}
use Rattle.wam_machine.specs.Cursors.{Begins, IsChangeable}
use Rattle.wam_machine.specs.Terms.{said}
use Rattle.wam_machine.specs.View.{setting, state_of, state_with, IsFronted, IsHostOf, Asks, Erases, after_erasure}
use Rattle.wam_machine.specs.declared.database.Erasure.{Erasure}
use Rattle.wam_machine.specs.declared.database.Erasure.TheVariants as erasure
use Rattle.wam_machine.specs.declared.state.Host.{Host}
use Rattle.wam_machine.specs.declared.state.Machine.{Machine}
use Rattle.wam_machine.specs.declared.state.Mode.TheVariants.{Failing as IsFailing, Raising as RaisingBall}
use Rattle.wam_machine.proofs.Begins.{long, seen_in}
use Rattle.wam_machine.proofs.Fronted.{done_seen, not_done}
use Rattle.wam_machine.proofs.Asked.{IsTaken, taken_front, state_fronted, asked_done, asked_refused}

-- what any engine may change, this one may
pub change_by : (J : Journal) (k engine : ℕ) → IsChangeable J k → MayChangeClause J engine k
unfolding IsChangeable
change_by J k engine h = h engine

-- ---- what is seen

erased_by : (J : Journal) (k n : ℕ) (x : Entry) → slice_get J n ≡ Some x → erases k x.what ≡ true → is_erased J k ≡ true
erased_by [] k n x at e = absurd cc
erased_by (y ∷ J) k zero x at e =
    let same : y ≡ x = cc in
    ap (λ (b : Bool). b || is_erased J k) (ap (λ (z : Entry). erases k z.what) same ∙ e)
erased_by (y ∷ J) k (suc n) x at e = either (erases k y.what) (is_erased J k) (erased_by J k n x at e)
  where
    either : (p q : Bool) → q ≡ true → (p || q) ≡ true
    either true q e = refl
    either false q e = e

or_last : (p : Bool) (m n : ℕ) → m ≡ n → (p || m == n) ≡ true
or_last true m n e = refl
or_last false m n e = eq-eqb m n e

-- ---- an erasure

module _ {C : Type 0} (v u : View) (h : Host) (old mid : Machine C) (t : IsTaken u old mid) (front : IsFronted v old.front) (k : IsHostOf h v) (clause : ℕ) where
  made_by : ℕ → Entry
  made_by n = record { by = n; what = Erase clause }

  pub erases_done : IsSound v → Appends v u (Erase clause) → Erases h v u clause old mid erasure.Done
  unfolding made_by
  erases_done sound a = record {
    made = made_by u.number ∷ [];
    own = a.own;
    front = taken_front u old mid a.grows.sound t;
    fronts_are = t.fronts ∙ ap (λ (n : ℕ). old.fronts.items ++ n ∷ []) (sym t.front);
    mode = t.mode;
    goes = λ j b rest at deeds tried fs i done gone.
        let is : h.engine ≡ u.number = k.engine ∙ sym a.grows.number in
        let low : old.front ≤ u.seen = omega (arith, front.reached, a.grows.front) in
        let high : u.seen ≤ length j = long u j a.grows.sound b in
        ap (λ (n : ℕ). spec.erasing (setting h old j) i clause (state_of rest at j old deeds tried (n ∷ fs)) done gone) t.front
        ∙ asked_done (setting h old j) (Erase clause) (state_of rest at j old deeds tried (u.seen ∷ fs)) u.seen fs (λ seen s. done s)
        (λ seen s. if is_erased seen clause then gone s else refusing (setting h old j) i (Erase clause) seen s) refl low high
        (done_seen (setting h old j) v u (Erase clause) old.front j is sound front.reached a b)
        ∙ ap done
        (ap (λ (n : ℕ). let r : State = record (state_of rest at j old (deeds ++ Updated (made_by h.engine) ∷ []) tried fs) { front = n } in r) (sym t.front)
        ∙ state_fronted rest at j old mid (deeds ++ Updated (made_by h.engine) ∷ []) tried fs t.same t.mode
        ∙ ap (λ (n : ℕ). state_of rest at j mid (deeds ++ Updated (made_by n) ∷ []) tried fs) is);
  }

  refused_at : Looks v u → (j : Journal) → Begins u j → (rest : C → Goal → Journal → List ℕ) (at : C → ℕ) (deeds : List Deed) (tried : ℕ) (fs : List ℕ) (i : Indicator) (done gone : State → Outcome)
      → spec.erasing (setting h old j) i clause (state_of rest at j old deeds tried (mid.front ∷ fs)) done gone
      ≡ (if is_erased (take u.seen j) clause then gone (state_of rest at j mid (deeds ++ []) tried fs) else refusing (setting h old j) i (Erase clause) (take u.seen j) (state_of rest at j mid (deeds ++ []) tried fs))
  refused_at l j b rest at deeds tried fs i done gone =
      let is : h.engine ≡ u.number = k.engine ∙ sym l.grows.number in
      let low : old.front ≤ u.seen = omega (arith, front.reached, l.grows.front) in
      let high : u.seen ≤ length j = long u j l.grows.sound b in
      let refused : Journal → State → Outcome = λ seen s. if is_erased seen clause then gone s else refusing (setting h old j) i (Erase clause) seen s in
      ap (λ (n : ℕ). spec.erasing (setting h old j) i clause (state_of rest at j old deeds tried (n ∷ fs)) done gone) t.front
      ∙ asked_refused (setting h old j) (Erase clause) (state_of rest at j old deeds tried (u.seen ∷ fs)) u.seen fs (λ seen s. done s) refused refl low high
      (not_done (setting h old j) v u old.front j is l front b)
      ∙ ap (λ (s : State). refused (take u.seen j) s)
      (ap (λ (n : ℕ). let r : State = record (state_of rest at j old deeds tried fs) { front = n } in r) (sym t.front)
      ∙ state_fronted rest at j old mid deeds tried fs t.same t.mode
      ∙ ap (λ (l : List Deed). state_of rest at j mid l tried fs) (sym (append-nil deeds)))

  pub erases_gone : (n : ℕ) → Looks v u → InSeen u (λ J. (x : Entry) × ((slice_get J n ≡ Some x) × (erases clause x.what ≡ true))) → Erases h v u clause old mid erasure.Gone
  erases_gone n l seen = record {
    made = [];
    own = l.own ∙ sym (append-nil v.own);
    front = taken_front u old mid l.grows.sound t;
    fronts_are = t.fronts ∙ ap (λ (n : ℕ). old.fronts.items ++ n ∷ []) (sym t.front);
    mode = t.mode;
    goes = λ j b rest at deeds tried fs i done gone.
        let there = seen_in u (λ J. (x : Entry) × ((slice_get J n ≡ Some x) × (erases clause x.what ≡ true))) j seen b in
        let s = state_of rest at j mid (deeds ++ []) tried fs in
        refused_at l j b rest at deeds tried fs i done gone
        ∙ ap (λ (b : Bool). if b then gone s else refusing (setting h old j) i (Erase clause) (take u.seen j) s) (erased_by (take u.seen j) clause n there.0 there.1.0 there.1.1);
  }

  pub erases_full : (g : ℕ) → Looks v u → InSeen u (λ J. (length J ≡ g) × (is_erased J clause ≡ false)) → g ≡ u.updates → Erases h v u clause old mid erasure.Full
  erases_full g l seen full = record {
    made = [];
    own = l.own ∙ sym (append-nil v.own);
    front = taken_front u old mid l.grows.sound t;
    fronts_are = t.fronts ∙ ap (λ (n : ℕ). old.fronts.items ++ n ∷ []) (sym t.front);
    mode = t.mode;
    goes = λ j b rest at deeds tried fs i done gone.
        let there = seen_in u (λ J. (length J ≡ g) × (is_erased J clause ≡ false)) j seen b in
        let s = state_of rest at j mid (deeds ++ []) tried fs in
        let at_end : h.sizes.updates ≡ length (take u.seen j) = k.updates ∙ sym l.grows.updates ∙ sym full ∙ sym there.0 in
        refused_at l j b rest at deeds tried fs i done gone
        ∙ ap (λ (b : Bool). if b then gone s else refusing (setting h old j) i (Erase clause) (take u.seen j) s) there.1
        ∙ ap (λ (b : Bool). if b then raises no_room i s else Unfit)
        (or_last (nat_lt h.sizes.words (used (take u.seen j) + need (Erase clause))) h.sizes.updates (length (take u.seen j)) at_end);
  }

-- ---- the clause of a retract

module _ {C : Type 0} (v w : View) (h : Host) (old mid : Machine C) (clause : ℕ) where
  served : (asked : Erasure) (new : Machine C) → Erases h v w clause old mid asked → new.front ≡ mid.front → new.fronts.items ≡ mid.fronts.items
      → ((j : Journal) (rest : C → Goal → Journal → List ℕ) (at : C → ℕ) (deeds : List Deed) (tried : ℕ) (fs : List ℕ)
      → after_erasure retract_at (λ s. Goes s) (λ s. fails s) (state_of rest at j mid deeds tried fs) asked ≡ Goes (state_of rest at j new deeds tried fs))
      → Asks v w (λ j s. serving (setting h old j) ToErase clause s) old new
  served asked new e front fronts then_ = record {
    added = mid.front ∷ [];
    made = e.made;
    own = e.own;
    front = subst (IsFronted w) (sym front) e.front;
    fronts_are = fronts ∙ e.fronts_are;
    goes = λ j b rest at deeds tried fs.
        e.goes j b rest at deeds tried fs retract_at (λ s. Goes s) (λ s. fails s) ∙ then_ j rest at (deeds ++ map Updated e.made) tried fs;
  }

  pub served_done : Erases h v w clause old mid erasure.Done → Asks v w (λ j s. serving (setting h old j) ToErase clause s) old mid
  served_done e = served erasure.Done mid e refl refl (λ j rest at deeds tried fs. refl)

  pub served_gone : Erases h v w clause old mid erasure.Gone → Asks v w (λ j s. serving (setting h old j) ToErase clause s) old (record mid { mode = IsFailing })
  served_gone e = served erasure.Gone (record mid { mode = IsFailing }) e refl refl (λ j rest at deeds tried fs. refl)

  pub served_full : (ball : Tree) (i : Indicator) → Erases h v w clause old mid erasure.Full → i ≡ retract_at → ball ≡ fault_tree no_room i
      → Asks v w (λ j s. serving (setting h old j) ToErase clause s) old (record mid { mode = RaisingBall ball })
  served_full ball i e at_is is =
      served erasure.Full (record mid { mode = RaisingBall ball }) e refl refl
      (λ j rest at deeds tried fs.
      ap (λ (b : Tree). Goes (state_with rest at j (said mid.terms) (spec.Raising b) mid.steps mid.events.items mid.front deeds tried fs)) (sym (is ∙ ap (fault_tree no_room) at_is)))
