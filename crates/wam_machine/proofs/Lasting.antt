-- Where the database is asked for something, a property lasts that the goals, the stack and the steps of a state decide, if it lasts where
-- clauses are tried.
use Rattle.std.proofs.Common.{◌≡◌, ℕ, ◌+◌, List, [], ◌∷◌, ◌++◌, Bool, true, false, length, refl}
use Rattle.std.specs.Prelude.{Option, Some, None, ◌&&◌, if◌then◌else◌, nat_le, take}
use Rattle.prolog_terms.specs.Tree.{Tree, variable, integer, atom, compound, count}
use Rattle.prolog_terms.specs.Substitutions.{numbered}
use Rattle.prolog_terms.specs.Faults.{fault_tree}
use Rattle.prolog_terms.specs.Indicators.{indicator_of}
use Rattle.prolog_terms.specs.declared.entry.Clause.{Clause}
use Rattle.prolog_terms.specs.declared.entry.Indicator.{Indicator}
use Rattle.prolog_terms.specs.declared.entry.Kind.{Kind}
use Rattle.prolog_terms.specs.declared.entry.Kind.TheVariants.{Static, Dynamic}
use Rattle.prolog_terms.specs.declared.entry.End.{End}
use Rattle.prolog_terms.specs.declared.entry.What.{What}
use Rattle.prolog_terms.specs.declared.entry.What.TheVariants.{Declare, Add, Erase}
use Rattle.prolog_terms.specs.declared.fault.Fault.{Fault}
use Rattle.prolog_terms.specs.declared.fault.Fault.TheVariants.{Instantiation, Existence}
use Rattle.journals.specs.Journal.{Journal, number_of, procedure_named, is_erased}
use Rattle.call_patterns.specs.Keys.{keys}
use Rattle.prolog_clauses.specs.Formed.{Parts, parts_of, clause_of}
use Rattle.prolog_clauses.specs.declared.clause.Formed.{Formed}
use Rattle.prolog_clauses.specs.declared.clause.Formed.TheVariants.{Clause as Made, Refused}
use Rattle.wam_machine.specs.Naming.{naming_of}
use Rattle.wam_machine.specs.Reserved.{is_reserved}
use Rattle.wam_machine.specs.Control.{Access, Assert, Inspect, Retract, RetractAll, Abolish}
use Rattle.wam_machine.specs.declared.naming.Naming.{Naming}
use Rattle.wam_machine.specs.declared.naming.Naming.TheVariants.{Names, NamesNone}
use Rattle.wam_machine.specs.States.{Next, Purpose, ToShow, ToErase, Use, Enter, Match, Candidate, Failing, Raising, Looked, State, Setting, Outcome, Goes, Unfit, taking, fails, raises, updated, is_done, is_full, asking, no_room, refusing, erasing, bound_further, not_callable}
use Rattle.wam_machine.specs.Procedures.{numbering, serving, using, meeting, retract_at, trying, candidate_clauses, looked, searching, called, calling, no_change, assert_at, adding, adding_to, adding_where, declaring, adding_named, adding_clause, adding_formed, headed, clause_at, call_for, refusal_for, matching_kind, matching_where, matching, unless_integer, inspecting, retracting, is_swept, one_tried, retract_all_at, abolish_at, sweep_at, sweeping, swept_keys, sweeping_all, sweeping_kind, declared_as, declared_meanwhile, absent_swept, sweeping_where, sweeping_named, abolishing, accessing}

-- the same goals, stack and steps
pub record IsNear (s t : State) : Type 0 where
  pub goals : t.goals ≡ s.goals
  pub stack : t.stack ≡ s.stack
  pub steps : t.steps ≡ s.steps

module _ (x : Setting) (I : State → Type 0) (P : Outcome → Type 0) (goes : (t : State) → I t → P (Goes t)) (unfit : P Unfit) (near : (s t : State) → IsNear s t → I s → I t) where
  raises-lasts : (f : Fault) (i : Indicator) (t : State) → I t → P (raises f i t)
  raises-lasts f i t h = goes (record t { mode = Raising (fault_tree f i) }) (near t (record t { mode = Raising (fault_tree f i) }) (record { goals = refl; stack = refl; steps = refl }) h)

  fails-lasts : (t : State) → I t → P (fails t)
  fails-lasts t h = goes (record t { mode = Failing }) (near t (record t { mode = Failing }) (record { goals = refl; stack = refl; steps = refl }) h)

  -- ---- fronts and updates

  taking-lasts : (t : State) (with_ : Journal → State → Outcome) → I t → ((f : ℕ) (u : State) → I u → P (with_ (take f x.journal) u)) → P (taking x t with_)
  taking-lasts t with_ h k = go t.fronts
    where
      at : (f : ℕ) (fs : List ℕ) (b : Bool) → P (if b then with_ (take f x.journal) (record t { front = f; fronts = fs }) else Unfit)
      at f fs true = k f (record t { front = f; fronts = fs }) (near t (record t { front = f; fronts = fs }) (record { goals = refl; stack = refl; steps = refl }) h)
      at f fs false = unfit

      go : (fs : List ℕ) → P (elim fs [ [] ↦ Unfit | f ∷ gs ↦ if nat_le t.front f && nat_le f (length x.journal) then with_ (take f x.journal) (record t { front = f; fronts = gs }) else Unfit ])
      go [] = unfit
      go (f ∷ gs) = at f gs (nat_le t.front f && nat_le f (length x.journal))

  updated-lasts : (what : What) (t : State) → I t → I (updated x what t)
  updated-lasts what t h = near t (updated x what t) (record { goals = refl; stack = refl; steps = refl }) h

  asking-lasts : (what : What) (t : State) (done refused : Journal → State → Outcome) → I t → ((f : ℕ) (u : State) → I u → P (done (take f x.journal) u))
      → ((f : ℕ) (u : State) → I u → P (refused (take f x.journal) u)) → P (asking x what t done refused)
  asking-lasts what t done refused h d r =
      taking-lasts t (λ seen u. if is_done x t.front seen then done seen (updated x what u) else refused seen u) h (λ f u k. go f u k (is_done x t.front (take f x.journal)))
    where
      go : (f : ℕ) (u : State) → I u → (b : Bool) → P (if b then done (take f x.journal) (updated x what u) else refused (take f x.journal) u)
      go f u k true = d f (updated x what u) (updated-lasts what u k)
      go f u k false = r f u k

  refusing-lasts : (at : Indicator) (what : What) (seen : Journal) (t : State) → I t → P (refusing x at what seen t)
  refusing-lasts at what seen t h = go (is_full x seen what)
    where
      go : (b : Bool) → P (if b then raises no_room at t else Unfit)
      go true = raises-lasts no_room at t h
      go false = unfit

  erasing-lasts : (at : Indicator) (k : ℕ) (t : State) (done gone : State → Outcome) → I t → ((u : State) → I u → P (done u)) → ((u : State) → I u → P (gone u)) → P (erasing x at k t done gone)
  erasing-lasts at k t done gone h d g =
      asking-lasts (Erase k) t (λ seen u. done u) (λ seen u. if is_erased seen k then gone u else refusing x at (Erase k) seen u) h (λ f u i. d u i) (λ f u i. go f u i (is_erased (take f x.journal) k))
    where
      go : (f : ℕ) (u : State) → I u → (b : Bool) → P (if b then gone u else refusing x at (Erase k) (take f x.journal) u)
      go f u i true = g u i
      go f u i false = refusing-lasts at (Erase k) (take f x.journal) u i

  -- ---- where two sides are made one

  serving-lasts : (purpose : Purpose) (k : ℕ) (t : State) → I t → P (serving x purpose k t)
  serving-lasts ToShow k t h = goes t h
  serving-lasts ToErase k t h = erasing-lasts retract_at k t (λ u. Goes u) (λ u. fails u) h goes fails-lasts

  using-lasts : (used : Use) (k : ℕ) (t : State) → I t → P (using x used k t)
  using-lasts Enter k t h = goes t h
  using-lasts (Match purpose body) k t h = serving-lasts purpose k t h

  pub meeting-lasts : (used : Use) (k : ℕ) (new : List Next) (s : State) (o : Option (ℕ → Tree)) → I s → ((m : ℕ → Tree) → I (bound_further m (record s { goals = new ++ s.goals }))) → P (meeting x used k new s o)
  meeting-lasts used k new s None h b = fails-lasts s h
  meeting-lasts used k new s (Some m) h b = using-lasts used k (bound_further m (record s { goals = new ++ s.goals })) (b m)

  -- ---- clauses that are added

  adding-lasts : (end : End) (c : Clause) (t : State) (p : ℕ) → I t → P (adding x end c t p)
  adding-lasts end c t p h =
      asking-lasts (Add end p c) t (λ seen u. Goes u) (refusing x (assert_at end) (Add end p c)) h (λ f u k. goes u k) (λ f u k. refusing-lasts (assert_at end) (Add end p c) (take f x.journal) u k)

  adding_to-lasts : (end : End) (i : Indicator) (c : Clause) (t : State) (p : ℕ) (k : Kind) → I t → P (adding_to x end i c t p k)
  adding_to-lasts end i c t p Static h = raises-lasts (no_change i) (assert_at end) t h
  adding_to-lasts end i c t p Dynamic h = adding-lasts end c t p h

  adding_where-lasts : (end : End) (i : Indicator) (c : Clause) (t : State) (o : Option (ℕ × Kind)) (absent : Outcome) → I t → P absent → P (adding_where x end i c t o absent)
  adding_where-lasts end i c t None absent h a = a
  adding_where-lasts end i c t (Some d) absent h a = adding_to-lasts end i c t d.0 d.1 h

  declaring-lasts : (end : End) (i : Indicator) (c : Clause) (t : State) → I t → P (declaring x end i c t)
  declaring-lasts end i c t h =
      asking-lasts (Declare i Dynamic) t
      (λ seen u. adding_where x end i c u (procedure_named seen i) Unfit)
      (λ seen u. adding_where x end i c u (procedure_named seen i) (refusing x (assert_at end) (Declare i Dynamic) seen u))
      h
      (λ f u k. adding_where-lasts end i c u (procedure_named (take f x.journal) i) Unfit k unfit)
      (λ f u k. adding_where-lasts end i c u (procedure_named (take f x.journal) i) (refusing x (assert_at end) (Declare i Dynamic) (take f x.journal) u) k
      (refusing-lasts (assert_at end) (Declare i Dynamic) (take f x.journal) u k))

  adding_named-lasts : (end : End) (i : Indicator) (c : Clause) (t : State) → I t → P (adding_named x end i c t)
  adding_named-lasts end i c t h =
      taking-lasts t (λ seen u. adding_where x end i c u (procedure_named seen i) (declaring x end i c u)) h
      (λ f u k. adding_where-lasts end i c u (procedure_named (take f x.journal) i) (declaring x end i c u) k (declaring-lasts end i c u k))

  adding_clause-lasts : (end : End) (c : Clause) (s : State) (o : Option Indicator) → I s → P (adding_clause x end c s o)
  adding_clause-lasts end c s None h = unfit
  adding_clause-lasts end c s (Some i) h = go (is_reserved i)
    where
      go : (b : Bool) → P (if b then raises (no_change i) (assert_at end) s else adding_named x end i c s)
      go true = raises-lasts (no_change i) (assert_at end) s h
      go false = adding_named-lasts end i c s h

  adding_formed-lasts : (end : End) (s : State) (f : Formed) → I s → P (adding_formed x end s f)
  adding_formed-lasts end s (Refused fault) h = raises-lasts fault (assert_at end) s h
  adding_formed-lasts end s (Made c) h = adding_clause-lasts end c s (indicator_of c.head) h

  -- ---- by a head

  headed-lasts : (at : Indicator) (t : Tree) (s : State) (with_ : Indicator → Outcome) → I s → ((i : Indicator) → P (with_ i)) → P (headed at t s with_)
  headed-lasts at (variable n) s with_ h k = raises-lasts Instantiation at s h
  headed-lasts at (integer z) s with_ h k = raises-lasts (not_callable (integer z)) at s h
  headed-lasts at (atom a) s with_ h k = k (record { name = a; arity = 0 })
  headed-lasts at (compound f ts) s with_ h k = k (record { name = f; arity = count ts })

  unless_integer-lasts : (at : Indicator) (t : Tree) (s : State) (then_ : Outcome) → I s → P then_ → P (unless_integer at t s then_)
  unless_integer-lasts at (variable n) s then_ h k = k
  unless_integer-lasts at (integer z) s then_ h k = raises-lasts (not_callable (integer z)) at s h
  unless_integer-lasts at (atom a) s then_ h k = k
  unless_integer-lasts at (compound f ts) s then_ h k = k

  -- ---- clauses that are erased in one step

  one_tried-lasts : (goal : Option Tree) (c : Clause) (t : State) → I t → I (one_tried goal c t)
  one_tried-lasts None c t h = near t (record t { tried = t.tried + 1 }) (record { goals = refl; stack = refl; steps = refl }) h
  one_tried-lasts (Some g) c t h = near t (numbering c (record t { tried = t.tried + 1 })) (record { goals = refl; stack = refl; steps = refl }) h

  sweeping-lasts : (goal : Option Tree) (cs : List Candidate) (t : State) → I t → P (sweeping x goal cs t)
  sweeping-lasts goal [] t h = goes t h
  sweeping-lasts goal (c ∷ cs) t h = go (λ u k. sweeping-lasts goal cs u k) (is_swept goal c.clause t)
    where
      v : State
      v = one_tried goal c.clause t

      go : ((u : State) → I u → P (sweeping x goal cs u)) → (b : Bool) → P (if b then erasing x (sweep_at goal) c.name v (λ u. sweeping x goal cs u) (λ u. sweeping x goal cs u) else sweeping x goal cs v)
      go next true = erasing-lasts (sweep_at goal) c.name v (λ u. sweeping x goal cs u) (λ u. sweeping x goal cs u) (one_tried-lasts goal c.clause t h) next next
      go next false = next v (one_tried-lasts goal c.clause t h)

  sweeping_all-lasts : (goal : Option Tree) (before : ℕ) (seen : Journal) (t : State) (p : ℕ) → I t → P (sweeping_all x goal before seen t p)
  sweeping_all-lasts goal before seen t p h = sweeping-lasts goal (candidate_clauses seen p (swept_keys goal)) u (near t u (record { goals = refl; stack = refl; steps = refl }) h)
    where
      u : State
      u = record t { deeds = t.deeds ++ Looked (record { before = before; front = t.front; call = record { procedure = p; keys = swept_keys goal } }) ∷ [] }

  sweeping_kind-lasts : (i : Indicator) (goal : Option Tree) (before : ℕ) (seen : Journal) (t : State) (p : ℕ) (k : Kind) → I t → P (sweeping_kind x i goal before seen t p k)
  sweeping_kind-lasts i goal before seen t p Static h = raises-lasts (no_change i) (sweep_at goal) t h
  sweeping_kind-lasts i goal before seen t p Dynamic h = sweeping_all-lasts goal before seen t p h

  declared_as-lasts : (i : Indicator) (t : State) (k : Kind) → I t → P (declared_as i t k)
  declared_as-lasts i t Static h = raises-lasts (no_change i) retract_all_at t h
  declared_as-lasts i t Dynamic h = goes t h

  declared_meanwhile-lasts : (i : Indicator) (seen : Journal) (t : State) (o : Option (ℕ × Kind)) → I t → P (declared_meanwhile x i seen t o)
  declared_meanwhile-lasts i seen t None h = refusing-lasts retract_all_at (Declare i Dynamic) seen t h
  declared_meanwhile-lasts i seen t (Some d) h = declared_as-lasts i t d.1 h

  absent_swept-lasts : (goal : Option Tree) (i : Indicator) (t : State) → I t → P (absent_swept x goal i t)
  absent_swept-lasts None i t h = goes t h
  absent_swept-lasts (Some goal) i t h =
      asking-lasts (Declare i Dynamic) t (λ seen u. Goes u) (λ seen u. declared_meanwhile x i seen u (procedure_named seen i)) h
      (λ f u k. goes u k) (λ f u k. declared_meanwhile-lasts i (take f x.journal) u (procedure_named (take f x.journal) i) k)

  sweeping_where-lasts : (i : Indicator) (goal : Option Tree) (before : ℕ) (seen : Journal) (t : State) (o : Option (ℕ × Kind)) → I t → P (sweeping_where x i goal before seen t o)
  sweeping_where-lasts i goal before seen t None h = absent_swept-lasts goal i t h
  sweeping_where-lasts i goal before seen t (Some d) h = sweeping_kind-lasts i goal before seen t d.0 d.1 h

  sweeping_named-lasts : (goal : Option Tree) (s : State) (i : Indicator) → I s → P (sweeping_named x goal s i)
  sweeping_named-lasts goal s i h = go (is_reserved i)
    where
      go : (b : Bool) → P (if b then raises (no_change i) (sweep_at goal) s else taking x s (λ seen t. sweeping_where x i goal s.front seen t (procedure_named seen i)))
      go true = raises-lasts (no_change i) (sweep_at goal) s h
      go false =
          taking-lasts s (λ seen t. sweeping_where x i goal s.front seen t (procedure_named seen i)) h
          (λ f u k. sweeping_where-lasts i goal s.front (take f x.journal) u (procedure_named (take f x.journal) i) k)

  abolishing-lasts : (s : State) (n : Naming) → I s → P (abolishing x s n)
  abolishing-lasts s (Names i) h = sweeping_named-lasts None s i h
  abolishing-lasts s (NamesNone fault) h = raises-lasts fault abolish_at s h

  -- ---- where clauses are tried

  module _ (tries : (used : Use) (goal : Tree) (f p : ℕ) (t : State) → I t → P (trying x used goal (candidate_clauses (take f x.journal) p (keys goal)) t)) where
    searching-lasts : (used : Use) (goal : Tree) (before f : ℕ) (t : State) (p : ℕ) → I t → P (searching x used goal before (take f x.journal) t p)
    searching-lasts used goal before f t p h = tries used goal f p (looked before t p goal) (near t (looked before t p goal) (record { goals = refl; stack = refl; steps = refl }) h)

    called-lasts : (goal : Tree) (i : Indicator) (before f : ℕ) (t : State) (o : Option ℕ) → I t → P (called x goal i before (take f x.journal) t o)
    called-lasts goal i before f t None h = raises-lasts (Existence i) i t h
    called-lasts goal i before f t (Some p) h = searching-lasts Enter goal before f t p h

    pub calling-lasts : (s : State) (goal : Tree) (i : Indicator) → I s → P (calling x s goal i)
    calling-lasts s goal i h =
        taking-lasts s (λ seen t. called x goal i s.front seen t (number_of seen i)) h (λ f t k. called-lasts goal i s.front f t (number_of (take f x.journal) i) k)

    matching_kind-lasts : (purpose : Purpose) (h b : Tree) (i : Indicator) (before f : ℕ) (t : State) (p : ℕ) (k : Kind) → I t → P (matching_kind x purpose h b i before (take f x.journal) t p k)
    matching_kind-lasts purpose h b i before f t p Static k = raises-lasts (refusal_for purpose i) (call_for purpose) t k
    matching_kind-lasts purpose h b i before f t p Dynamic k = searching-lasts (Match purpose b) h before f t p k

    matching_where-lasts : (purpose : Purpose) (h b : Tree) (i : Indicator) (before f : ℕ) (t : State) (o : Option (ℕ × Kind)) → I t → P (matching_where x purpose h b i before (take f x.journal) t o)
    matching_where-lasts purpose h b i before f t None k = fails-lasts t k
    matching_where-lasts purpose h b i before f t (Some d) k = matching_kind-lasts purpose h b i before f t d.0 d.1 k

    matching-lasts : (purpose : Purpose) (h b : Tree) (s : State) (i : Indicator) → I s → P (matching x purpose h b s i)
    matching-lasts purpose h b s i k = go (is_reserved i)
      where
        go : (r : Bool) → P (if r then raises (refusal_for purpose i) (call_for purpose) s else taking x s (λ seen t. matching_where x purpose h b i s.front seen t (procedure_named seen i)))
        go true = raises-lasts (refusal_for purpose i) (call_for purpose) s k
        go false =
            taking-lasts s (λ seen t. matching_where x purpose h b i s.front seen t (procedure_named seen i)) k
            (λ f t l. matching_where-lasts purpose h b i s.front f t (procedure_named (take f x.journal) i) l)

    inspecting-lasts : (h b : Tree) (s : State) → I s → P (inspecting x h b s)
    inspecting-lasts h b s k =
        headed-lasts clause_at h s (λ i. unless_integer clause_at b s (matching x ToShow h b s i)) k
        (λ i. unless_integer-lasts clause_at b s (matching x ToShow h b s i) k (matching-lasts ToShow h b s i k))

    retracting-lasts : (c : Parts) (s : State) → I s → P (retracting x c s)
    retracting-lasts c s k = headed-lasts retract_at c.head s (λ i. matching x ToErase c.head c.body s i) k (λ i. matching-lasts ToErase c.head c.body s i k)

    pub accessing-lasts : (a : Access) (s : State) → I s → P (accessing x a s)
    unfolding accessing
    accessing-lasts (Assert end t) s h = adding_formed-lasts end s (clause_of (numbered t)) h
    accessing-lasts (Inspect h b) s k = inspecting-lasts h b s k
    accessing-lasts (Retract t) s h = retracting-lasts (parts_of t) s h
    accessing-lasts (RetractAll h) s k = headed-lasts retract_all_at h s (λ i. sweeping_named x (Some h) s i) k (λ i. sweeping_named-lasts (Some h) s i k)
    accessing-lasts (Abolish t) s h = abolishing-lasts s (naming_of t) h
