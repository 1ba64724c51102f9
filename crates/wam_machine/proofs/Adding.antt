-- A clause is added, as the base does it.
use Rattle.std.proofs.Common.{◌≡◌, ℕ, take, refl, sym, ap, ◌∙◌, Bool, true, false, Option, Some, None}
use Rattle.std.specs.Prelude.{if◌then◌else◌}
use Rattle.prolog_terms.specs.Tree.{Tree}
use Rattle.prolog_terms.specs.Faults.{fault_tree}
use Rattle.prolog_terms.specs.Clauses.{IsClause}
use Rattle.prolog_terms.specs.Indicators.{indicator_of}
use Rattle.prolog_terms.specs.declared.entry.Clause.{Clause}
use Rattle.prolog_terms.specs.declared.entry.Indicator.{Indicator}
use Rattle.prolog_terms.specs.declared.entry.Kind.{Kind}
use Rattle.prolog_terms.specs.declared.entry.Kind.TheVariants.{Static, Dynamic}
use Rattle.prolog_terms.specs.declared.entry.End.{End}
use Rattle.prolog_terms.specs.declared.entry.What.TheVariants.{Declare, Add}
use Rattle.journals.specs.Journal.{Journal, procedure_named}
use Rattle.journal_base.specs.Legal.{MayAdd}
use Rattle.journal_base.specs.View.{View, Grows, Looks, Appends, IsSound, InSeen}
use Rattle.journal_base.specs.Updates.{IsFull}
use Rattle.journal_base.proofs.Procedures.{named_there}
use Rattle.prolog_terms.specs.declared.fault.Fault.{Fault}
use Rattle.prolog_terms.specs.Substitutions.{numbered}
use Rattle.prolog_clauses.specs.Formed.{clause_of}
use Rattle.prolog_clauses.specs.declared.clause.Formed.TheVariants.{Clause as Made, Refused}
use Rattle.wam_machine.specs.Reserved.{is_reserved}
use Rattle.wam_machine.specs.States.{State, Setting, Outcome, Goes, Unfit, refusing, raises, no_room}
use Rattle.wam_machine.specs.Procedures.{adding, adding_to, adding_where, adding_named, adding_clause, adding_formed, asserting, declaring, no_change, assert_at}
use Rattle.wam_machine.specs.View.{setting, IsFronted, IsHostOf, Asks}
use Rattle.wam_machine.specs.declared.state.Host.{Host}
use Rattle.wam_machine.specs.declared.state.Machine.{Machine}
use Rattle.wam_machine.specs.declared.state.Mode.TheVariants.{Raising as RaisingBall}
use Rattle.wam_machine.proofs.Begins.{begins_before, seen_in, grows_refl, host_on}
use Rattle.wam_machine.proofs.Asked.{IsTaken, asked_setting, taken_front, asks_as, asks_nothing, asks_raised, asks_taking, asks_done, asks_refused, refused_full}

-- what an addition needs
pub may_add : (J : Journal) (engine p : ℕ) (i : Indicator) (c : Clause) → IsClause c → indicator_of c.head ≡ Some i → procedure_named J i ≡ Some (p, Dynamic) → MayAdd J engine p c
may_add J engine p i c clause headed named = record {
  procedure = (i, Dynamic);
  declared = named_there J i p Dynamic named;
  headed = headed;
  permitted = tt;
  clause = clause;
}

-- what was found in what is seen is added to
pub where_found : (x : Setting) (end : End) (i : Indicator) (c : Clause) (s : State) (o : Option (ℕ × Kind)) (p : ℕ) (k : Kind) (absent : Outcome) → o ≡ Some (p, k)
    → adding_where x end i c s o absent ≡ adding_to x end i c s p k
where_found x end i c s o p k absent e = ap (λ (d : Option (ℕ × Kind)). adding_where x end i c s d absent) e

pub where_absent : (x : Setting) (end : End) (i : Indicator) (c : Clause) (s : State) (o : Option (ℕ × Kind)) (absent : Outcome) → o ≡ None → adding_where x end i c s o absent ≡ absent
where_absent x end i c s o absent e = ap (λ (d : Option (ℕ × Kind)). adding_where x end i c s d absent) e

module _ {C : Type 0} (v u : View) (h : Host) (old mid : Machine C) (t : IsTaken u old mid) (front : IsFronted v old.front) (k : IsHostOf h v) (end : End) (c : Clause) where
  -- ---- an addition

  pub added_done : (p : ℕ) → IsSound v → Appends v u (Add end p c) → Asks v u (λ j s. adding (setting h old j) end c s p) old mid
  added_done p sound a =
      asks_done v u u h old mid mid t (grows_refl u a.grows.sound) front k (Add end p c) (λ j seen s. Goes s) (λ j. refusing (setting h old j) (assert_at end) (Add end p c)) sound a
      (asks_nothing u mid (taken_front u old mid a.grows.sound t))

  pub added_full : (p n q g : ℕ) (ball : Tree) → Looks v u → IsFull u (Add end p c) n q g → ball ≡ fault_tree no_room (assert_at end)
      → Asks v u (λ j s. adding (setting h old j) end c s p) old (record mid { mode = RaisingBall ball })
  added_full p n q g ball l full is =
      asks_refused v u u h old mid (record mid { mode = RaisingBall ball }) t (grows_refl u l.grows.sound) front k (Add end p c) (λ j seen s. Goes s) (λ j. refusing (setting h old j) (assert_at end) (Add end p c)) l
      (asks_as u u (λ j s. raises no_room (assert_at end) s) (λ j s. refusing (setting h old j) (assert_at end) (Add end p c) (take u.seen j) s) mid (record mid { mode = RaisingBall ball })
      (λ j b s. refused_full h u (assert_at end) (Add end p c) n q g (setting h old j) j s (host_on h v u l.grows k) refl refl full b)
      (asks_raised u u mid ball no_room (assert_at end) is refl (taken_front u old mid l.grows.sound t)))

  -- ---- a declaration

  pub declared_full : (i : Indicator) (n q g : ℕ) (ball : Tree) → Looks v u → InSeen u (λ J. procedure_named J i ≡ None) → IsFull u (Declare i Dynamic) n q g → ball ≡ fault_tree no_room (assert_at end)
      → Asks v u (λ j. declaring (setting h old j) end i c) old (record mid { mode = RaisingBall ball })
  declared_full i n q g ball l absent full is =
      asks_refused v u u h old mid (record mid { mode = RaisingBall ball }) t (grows_refl u l.grows.sound) front k (Declare i Dynamic)
      (λ j seen s. adding_where (setting h old j) end i c s (procedure_named seen i) Unfit)
      (λ j seen s. adding_where (setting h old j) end i c s (procedure_named seen i) (refusing (setting h old j) (assert_at end) (Declare i Dynamic) seen s)) l
      (asks_as u u (λ j s. raises no_room (assert_at end) s)
      (λ j s. adding_where (setting h old j) end i c s (procedure_named (take u.seen j) i) (refusing (setting h old j) (assert_at end) (Declare i Dynamic) (take u.seen j) s)) mid (record mid { mode = RaisingBall ball })
      (λ j b s.
      where_absent (setting h old j) end i c s (procedure_named (take u.seen j) i) _ (seen_in u (λ J. procedure_named J i ≡ None) j absent b)
      ∙ refused_full h u (assert_at end) (Declare i Dynamic) n q g (setting h old j) j s (host_on h v u l.grows k) refl refl full b)
      (asks_raised u u mid ball no_room (assert_at end) is refl (taken_front u old mid l.grows.sound t)))

  module _ (w : View) (new : Machine C) (i : Indicator) (g : Grows u w) where
    pub declared_done : (p : ℕ) → IsSound v → Appends v u (Declare i Dynamic) → InSeen u (λ J. procedure_named J i ≡ Some (p, Dynamic))
        → Asks u w (λ j s. adding (setting h mid j) end c s p) mid new → Asks v w (λ j. declaring (setting h old j) end i c) old new
    declared_done p sound a named on =
        asks_done v u w h old mid new t g front k (Declare i Dynamic)
        (λ j seen s. adding_where (setting h old j) end i c s (procedure_named seen i) Unfit)
        (λ j seen s. adding_where (setting h old j) end i c s (procedure_named seen i) (refusing (setting h old j) (assert_at end) (Declare i Dynamic) seen s)) sound a
        (asks_as u w (λ j s. adding (setting h mid j) end c s p) (λ j s. adding_where (setting h old j) end i c s (procedure_named (take u.seen j) i) Unfit) mid new
        (λ j b s.
        where_found (setting h old j) end i c s (procedure_named (take u.seen j) i) p Dynamic Unfit (seen_in u (λ J. procedure_named J i ≡ Some (p, Dynamic)) j named (begins_before u w j g b))
        ∙ ap (λ (x : Setting). adding x end c s p) (sym (asked_setting h old mid j t.same)))
        on)

    pub declared_already : (p : ℕ) (d : Kind) → Looks v u → InSeen u (λ J. procedure_named J i ≡ Some (p, d))
        → Asks u w (λ j s. adding_to (setting h mid j) end i c s p d) mid new → Asks v w (λ j. declaring (setting h old j) end i c) old new
    declared_already p d l named on =
        asks_refused v u w h old mid new t g front k (Declare i Dynamic)
        (λ j seen s. adding_where (setting h old j) end i c s (procedure_named seen i) Unfit)
        (λ j seen s. adding_where (setting h old j) end i c s (procedure_named seen i) (refusing (setting h old j) (assert_at end) (Declare i Dynamic) seen s)) l
        (asks_as u w (λ j s. adding_to (setting h mid j) end i c s p d)
        (λ j s. adding_where (setting h old j) end i c s (procedure_named (take u.seen j) i) (refusing (setting h old j) (assert_at end) (Declare i Dynamic) (take u.seen j) s)) mid new
        (λ j b s.
        where_found (setting h old j) end i c s (procedure_named (take u.seen j) i) p d _ (seen_in u (λ J. procedure_named J i ≡ Some (p, d)) j named (begins_before u w j g b))
        ∙ ap (λ (x : Setting). adding_to x end i c s p d) (sym (asked_setting h old mid j t.same)))
        on)

    -- ---- by name

    pub named_found : (p : ℕ) (d : Kind) → Looks v u → InSeen u (λ J. procedure_named J i ≡ Some (p, d))
        → Asks u w (λ j s. adding_to (setting h mid j) end i c s p d) mid new → Asks v w (λ j. adding_named (setting h old j) end i c) old new
    named_found p d l named on =
        asks_taking v u w h old mid new t g front (λ j seen s. adding_where (setting h old j) end i c s (procedure_named seen i) (declaring (setting h old j) end i c s)) l
        (asks_as u w (λ j s. adding_to (setting h mid j) end i c s p d)
        (λ j s. adding_where (setting h old j) end i c s (procedure_named (take u.seen j) i) (declaring (setting h old j) end i c s)) mid new
        (λ j b s.
        where_found (setting h old j) end i c s (procedure_named (take u.seen j) i) p d _ (seen_in u (λ J. procedure_named J i ≡ Some (p, d)) j named (begins_before u w j g b))
        ∙ ap (λ (x : Setting). adding_to x end i c s p d) (sym (asked_setting h old mid j t.same)))
        on)

    pub named_absent : Looks v u → InSeen u (λ J. procedure_named J i ≡ None)
        → Asks u w (λ j. declaring (setting h mid j) end i c) mid new → Asks v w (λ j. adding_named (setting h old j) end i c) old new
    named_absent l absent on =
        asks_taking v u w h old mid new t g front (λ j seen s. adding_where (setting h old j) end i c s (procedure_named seen i) (declaring (setting h old j) end i c s)) l
        (asks_as u w (λ j. declaring (setting h mid j) end i c)
        (λ j s. adding_where (setting h old j) end i c s (procedure_named (take u.seen j) i) (declaring (setting h old j) end i c s)) mid new
        (λ j b s.
        where_absent (setting h old j) end i c s (procedure_named (take u.seen j) i) _ (seen_in u (λ J. procedure_named J i ≡ None) j absent (begins_before u w j g b))
        ∙ ap (λ (x : Setting). declaring x end i c s) (sym (asked_setting h old mid j t.same)))
        on)

-- to a static procedure nothing is added
pub static_stays : {C : Type 0} (v : View) (h : Host) (m : Machine C) (end : End) (i : Indicator) (c : Clause) (p : ℕ) (k : Kind) (ball : Tree) → k ≡ Static → ball ≡ fault_tree (no_change i) (assert_at end)
    → IsFronted v m.front → Asks v v (λ j s. adding_to (setting h m j) end i c s p k) m (record m { mode = RaisingBall ball })
static_stays v h m end i c p k ball static is front =
    asks_as v v (λ j s. raises (no_change i) (assert_at end) s) (λ j s. adding_to (setting h m j) end i c s p k) m (record m { mode = RaisingBall ball })
    (λ j b s. ap (λ (d : Kind). adding_to (setting h m j) end i c s p d) static)
    (asks_raised v v m ball (no_change i) (assert_at end) is refl front)

-- ---- by the clause's head

pub reserved_stays : {C : Type 0} (v : View) (h : Host) (m : Machine C) (end : End) (c : Clause) (i : Indicator) (ball : Tree) → indicator_of c.head ≡ Some i → is_reserved i ≡ true
    → ball ≡ fault_tree (no_change i) (assert_at end) → IsFronted v m.front → Asks v v (λ j s. adding_clause (setting h m j) end c s (indicator_of c.head)) m (record m { mode = RaisingBall ball })
reserved_stays v h m end c i ball headed reserved is front =
    asks_as v v (λ j s. raises (no_change i) (assert_at end) s) (λ j s. adding_clause (setting h m j) end c s (indicator_of c.head)) m (record m { mode = RaisingBall ball })
    (λ j b s.
    ap (adding_clause (setting h m j) end c s) headed
    ∙ ap (λ (t : Bool). if t then raises (no_change i) (assert_at end) s else adding_named (setting h m j) end i c s) reserved)
    (asks_raised v v m ball (no_change i) (assert_at end) is refl front)

pub unreserved_adds : {C : Type 0} (v w : View) (h : Host) (m new : Machine C) (end : End) (c : Clause) (i : Indicator) → indicator_of c.head ≡ Some i → is_reserved i ≡ false
    → Asks v w (λ j. adding_named (setting h m j) end i c) m new → Asks v w (λ j s. adding_clause (setting h m j) end c s (indicator_of c.head)) m new
unreserved_adds v w h m new end c i headed free on =
    asks_as v w (λ j. adding_named (setting h m j) end i c) (λ j s. adding_clause (setting h m j) end c s (indicator_of c.head)) m new
    (λ j b s.
    ap (adding_clause (setting h m j) end c s) headed
    ∙ ap (λ (t : Bool). if t then raises (no_change i) (assert_at end) s else adding_named (setting h m j) end i c s) free)
    on

-- ---- by the term

pub formed_refused : {C : Type 0} (v : View) (h : Host) (m : Machine C) (end : End) (t : Tree) (fault : Fault) (ball : Tree) → clause_of (numbered t) ≡ Refused fault
    → ball ≡ fault_tree fault (assert_at end) → IsFronted v m.front → Asks v v (λ j. asserting (setting h m j) end t) m (record m { mode = RaisingBall ball })
formed_refused v h m end t fault ball formed is front =
    asks_as v v (λ j s. raises fault (assert_at end) s) (λ j. asserting (setting h m j) end t) m (record m { mode = RaisingBall ball })
    (λ j b s. ap (adding_formed (setting h m j) end s) formed)
    (asks_raised v v m ball fault (assert_at end) is refl front)

pub formed_adds : {C : Type 0} (v w : View) (h : Host) (m new : Machine C) (end : End) (t : Tree) (c : Clause) → clause_of (numbered t) ≡ Made c
    → Asks v w (λ j s. adding_clause (setting h m j) end c s (indicator_of c.head)) m new → Asks v w (λ j. asserting (setting h m j) end t) m new
formed_adds v w h m new end t c formed on =
    asks_as v w (λ j s. adding_clause (setting h m j) end c s (indicator_of c.head)) (λ j. asserting (setting h m j) end t) m new
    (λ j b s. ap (adding_formed (setting h m j) end s) formed)
    on
