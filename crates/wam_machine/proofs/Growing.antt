-- What is asked of the database goes on, over a journal that grows by it: an update that has room is made at once.
use Rattle.std.proofs.Common.{◌≡◌, ℕ, zero, suc, ◌+◌, ◌-◌, ◌<◌, ◌≤◌, List, [], ◌∷◌, ◌++◌, Bool, true, false, length, length-append, take, drop, Option, Some, None, refl, sym, ap, ◌∙◌, subst, arith}
use Rattle.std.specs.Prelude.{IsTrue, IfSome, ◌==◌, if◌then◌else◌, nat_lt, slice_get, is_some}
use Rattle.std.specs.Option.{option_map_or}
use Rattle.std.proofs.Math.Seq.{take-append_seam, drop-length}
use Rattle.std.proofs.lemmas.Bool.{le-leb}
use Rattle.std.proofs.lemmas.Bool.Decides.{nat_tests}
use Rattle.std.proofs.lemmas.List.{append-nil, append_assoc}
use Rattle.std.proofs.lemmas.List.Elements.{All-nil, All-cons, filter_map-append}
use Rattle.prolog_terms.specs.Tree.{Tree, variable, integer, atom, compound, count}
use Rattle.prolog_terms.specs.Substitutions.{renamed, numbered}
use Rattle.prolog_terms.specs.Indicators.{indicator_of}
use Rattle.prolog_terms.specs.Clauses.{IsClause}
use Rattle.prolog_terms.specs.Faults.{fault_tree}
use Rattle.prolog_terms.specs.declared.entry.Clause.{Clause}
use Rattle.prolog_terms.specs.declared.entry.Entry.{Entry}
use Rattle.prolog_terms.specs.declared.entry.Indicator.{Indicator}
use Rattle.prolog_terms.specs.declared.entry.Kind.{Kind}
use Rattle.prolog_terms.specs.declared.entry.Kind.TheVariants.{Static, Dynamic}
use Rattle.prolog_terms.specs.declared.entry.End.{End}
use Rattle.prolog_terms.specs.declared.entry.What.{What}
use Rattle.prolog_terms.specs.declared.entry.What.TheVariants.{Declare, Add, Erase}
use Rattle.prolog_terms.specs.declared.fault.Fault.{Fault}
use Rattle.prolog_terms.specs.declared.fault.Fault.TheVariants.{Instantiation, Existence}
use Rattle.journals.specs.Journal.{Journal, number_of, procedures, procedure_named, added, is_erased}
use Rattle.journal_base.specs.View.{entries_by}
use Rattle.journal_base.proofs.Procedures.{no_number, declared-there}
use Rattle.call_patterns.specs.Keys.{keys}
use Rattle.term_unifier.specs.Unifier.{unifier}
use Rattle.prolog_clauses.specs.Formed.{Parts, parts_of, clause_of}
use Rattle.prolog_clauses.specs.declared.clause.Formed.{Formed}
use Rattle.prolog_clauses.specs.declared.clause.Formed.TheVariants.{Clause as Made, Refused}
use Rattle.prolog_clauses.proofs.Laws.{made_clause}
use Rattle.wam_machine.specs.Naming.{naming_of}
use Rattle.wam_machine.specs.Reserved.{is_reserved}
use Rattle.wam_machine.specs.Control.{Access, Assert, Inspect, Retract, RetractAll, Abolish}
use Rattle.wam_machine.specs.declared.naming.Naming.{Naming}
use Rattle.wam_machine.specs.declared.naming.Naming.TheVariants.{Names, NamesNone}
use Rattle.wam_machine.specs.States.{Next, Purpose, ToShow, ToErase, Use, Enter, Match, Candidate, Failing, Raising, Look, Deed, Looked, Updated, entry_in, made_in, State, Setting, Outcome, Goes, Unfit, taking, fails, raises, height, bound_further, updated, ends_with_own, is_done, is_full, asking, no_room, refusing, erasing, not_callable}
use Rattle.wam_machine.specs.Procedures.{numbering, side_of_clause, side_of_call, first_goals, retract_at, serving, using, meeting, leaving, trying, candidate_clauses, looked, searching, called, calling, no_change, assert_at, adding, adding_to, adding_where, declaring, adding_named, adding_clause, adding_formed, headed, clause_at, call_for, refusal_for, matching_kind, matching_where, matching, unless_integer, inspecting, retracting, is_swept, one_tried, retract_all_at, abolish_at, sweep_at, sweeping, swept_keys, sweeping_all, sweeping_kind, declared_meanwhile, declaring_swept, absent_swept, sweeping_where, sweeping_named, abolishing, accessing}
use Rattle.wam_machine.specs.Laws.{HasBody, HasBodies}

-- the state at other fronts to come
unfoldable pub at : State → List ℕ → State
at s fs = record s { fronts = fs }

-- the same setting over another journal
abbrev pub on : Setting → Journal → Setting
on x K = record x { journal = K }

-- a journal begins with another
abbrev pub Starts : Journal → Journal → Type 0
Starts M K = (more : Journal) × (K ≡ M ++ more)

pub starts-shorter : (M m K : Journal) → Starts (M ++ m) K → Starts M K
starts-shorter M m K (more, e) = (m ++ more, e ∙ append_assoc M m more)

starts-seen : (M K : Journal) → Starts M K → take (length M) K ≡ M
starts-seen M K (more, e) = ap (take (length M)) e ∙ take-append_seam M more

starts-long : (M K : Journal) → Starts M K → length M ≤ length K
starts-long M K (more, e) = let l = ap length e in let n = length-append M more in omega (arith, l, n)

-- ---- one front

pub taking-at : (x : Setting) (M K : Journal) (s : State) (fs : List ℕ) (with_ : Journal → State → Outcome) → Starts M K → s.front ≤ length M
    → taking (on x K) (at s (length M ∷ fs)) with_ ≡ with_ M (at (record s { front = length M }) fs)
unfolding at
taking-at x M K s fs with_ st le = rw (le-leb s.front (length M) le, le-leb (length M) (length K) (starts-long M K st), starts-seen M K st) refl

-- an update of the run's engine
abbrev pub entry : Setting → What → Entry
entry x what = record { by = x.engine; what = what }

same-number : (n : ℕ) → (n == n) ≡ true
same-number n = grind (arith, nat_tests)

last-get : {X : Type 0} (xs : List X) (x : X) → slice_get (xs ++ x ∷ []) (length xs) ≡ Some x
last-get [] x = refl
last-get (y ∷ xs) x = last-get xs x

ends-own : (x : Setting) (M : Journal) (what : What) → ends_with_own x.engine (M ++ entry x what ∷ []) ≡ true
ends-own x M what =
    let n : length (M ++ entry x what ∷ []) - 1 ≡ length M = (let l = length-append M (entry x what ∷ []) in omega (arith, l)) in
    ap (λ (o : Option Entry). option_map_or (λ e. e.by == x.engine) o false) (ap (slice_get (M ++ entry x what ∷ [])) n ∙ last-get M (entry x what)) ∙ same-number x.engine

is-done : (x : Setting) (M : Journal) (what : What) (before : ℕ) → before ≤ length M → is_done x before (M ++ entry x what ∷ []) ≡ true
is-done x M what before le = rw (past, ends-own x M what) refl
  where
    longer : before < length (M ++ entry x what ∷ [])
    longer = let l = length-append M (entry x what ∷ []) in omega (arith, l, le)

    past : nat_lt before (length (M ++ entry x what ∷ [])) ≡ true
    past = let l = longer in grind (arith, nat_tests)

-- where the last entries are no engine's own, the last of them isn't either
quiet-first : (engine : ℕ) (e : Entry) (L : Journal) → entries_by engine (e ∷ L) ≡ [] → (e.by == engine) ≡ false
quiet-first engine e L h = go (e.by == engine) refl
  where
    go : (b : Bool) → (e.by == engine) ≡ b → (e.by == engine) ≡ false
    go false q = q
    go true q =
        let same : entries_by engine (e ∷ L) ≡ e ∷ entries_by engine L = rw q refl in
        let k : e ∷ entries_by engine L ≡ [] = sym same ∙ h in
        absurd (cc k)

quiet-more : (engine : ℕ) (e : Entry) (L : Journal) → entries_by engine (e ∷ L) ≡ [] → entries_by engine L ≡ []
quiet-more engine e L h = sym same ∙ h
  where
    same : entries_by engine (e ∷ L) ≡ entries_by engine L
    same = rw (quiet-first engine e L h) refl

ends-later : (engine : ℕ) (e d : Entry) (L : Journal) → ends_with_own engine (e ∷ d ∷ L) ≡ ends_with_own engine (d ∷ L)
ends-later engine e d L =
    ap (λ (o : Option Entry). option_map_or (λ f. f.by == engine) o false)
    (ap (slice_get (e ∷ d ∷ L)) long ∙ sym (ap (slice_get (d ∷ L)) short))
  where
    long : length (e ∷ d ∷ L) - 1 ≡ suc (length L)
    long = omega arith

    short : length (d ∷ L) - 1 ≡ length L
    short = omega arith

ends-other : (engine : ℕ) (L : Journal) → entries_by engine L ≡ [] → ends_with_own engine L ≡ false
ends-other engine [] h = refl
ends-other engine (e ∷ []) h = quiet-first engine e [] h
ends-other engine (e ∷ d ∷ L) h = ends-later engine e d L ∙ ends-other engine (d ∷ L) (quiet-more engine e (d ∷ L) h)

ends-quiet : (engine f : ℕ) (L : Journal) → f < length L → entries_by engine (drop f L) ≡ [] → ends_with_own engine L ≡ false
ends-quiet engine zero L l h = ends-other engine L h
ends-quiet engine (suc f) [] l h = refl
ends-quiet engine (suc f) (e ∷ []) l h = absurd (omega (arith, l))
ends-quiet engine (suc f) (e ∷ d ∷ L) l h = ends-later engine e d L ∙ ends-quiet engine f (d ∷ L) (omega (arith, l)) h

-- a front is no higher than a journal is long, and no entry from there on is the run's own
pub record IsQuiet (x : Setting) (M : Journal) (f : ℕ) : Type 0 where
  pub below : f ≤ length M
  pub others : entries_by x.engine (drop f M) ≡ []

-- so it is at the journal's end
pub quiet-end : (x : Setting) (M : Journal) → IsQuiet x M (length M)
quiet-end x M = record { below = omega arith; others = ap (entries_by x.engine) (drop-length M) }

not-done : (x : Setting) (M : Journal) (before : ℕ) → IsQuiet x M before → is_done x before M ≡ false
not-done x M before q = go (nat_lt before (length M)) refl
  where
    lower : nat_lt before (length M) ≡ true → before < length M
    lower e = grind (arith, nat_tests)

    go : (b : Bool) → nat_lt before (length M) ≡ b → is_done x before M ≡ false
    go true e = rw (e, ends-quiet x.engine before M (lower e) q.others) refl
    go false e = rw e refl

-- an update is made at its front
asking-made : (x : Setting) (M K : Journal) (s : State) (fs : List ℕ) (what : What) (done refused : Journal → State → Outcome) → Starts (M ++ entry x what ∷ []) K → s.front ≤ length M
    → asking (on x K) what (at s (length (M ++ entry x what ∷ []) ∷ fs)) done refused
    ≡ done (M ++ entry x what ∷ []) (at (record s { front = length (M ++ entry x what ∷ []); deeds = s.deeds ++ Updated (entry x what) ∷ [] }) fs)
unfolding at
asking-made x M K s fs what done refused st le =
    taking-at x (M ++ entry x what ∷ []) K s fs (λ seen t. if is_done (on x K) s.front seen then done seen (updated (on x K) what t) else refused seen t) st longer
    ∙ rw (is-done x M what s.front le) refl
  where
    longer : s.front ≤ length (M ++ entry x what ∷ [])
    longer = let l = length-append M (entry x what ∷ []) in omega (arith, l, le)

-- or it isn't made at its front
asking-full : (x : Setting) (M K : Journal) (s : State) (fs : List ℕ) (what : What) (done refused : Journal → State → Outcome) → Starts M K → IsQuiet x M s.front
    → asking (on x K) what (at s (length M ∷ fs)) done refused ≡ refused M (at (record s { front = length M }) fs)
unfolding at
asking-full x M K s fs what done refused st q =
    taking-at x M K s fs (λ seen t. if is_done (on x K) s.front seen then done seen (updated (on x K) what t) else refused seen t) st q.below
    ∙ rw (not-done x M s.front q) refl

-- ---- going on

-- Over a journal with the entries that it makes behind it, and with the fronts that it takes before any others, this goes on to one state.
pub record Continues (x : Setting) (J : Journal) (s : State) (o : Journal → List ℕ → Outcome) : Type 0 where
  pub next : State
  pub made : List Entry
  pub fronts : List ℕ
  pub goes_on : (K : Journal) (fs : List ℕ) → Starts (J ++ made) K → o K (fronts ++ fs) ≡ Goes (at next fs)
  pub front_is : IsQuiet x (J ++ made) next.front
  pub steps_is : next.steps ≡ s.steps
  pub made_is : made_in next.deeds ≡ made_in s.deeds ++ made
  pub own : entries_by x.engine made ≡ made
  pub bodies : HasBodies made

-- so it does without an entry and a front
pub continues-plain : (x : Setting) (J : Journal) (s t : State) (o : Journal → List ℕ → Outcome) → ((K : Journal) (fs : List ℕ) → o K fs ≡ Goes (at t fs)) → IsQuiet x J t.front
    → t.steps ≡ s.steps → made_in t.deeds ≡ made_in s.deeds → Continues x J s o
continues-plain x J s t o h q e m = record {
  next = t;
  made = [];
  fronts = [];
  goes_on = λ K fs st. h K fs;
  front_is = subst (λ (M : Journal). IsQuiet x M t.front) (sym (append-nil J)) q;
  steps_is = e;
  made_is = m ∙ sym (append-nil (made_in s.deeds));
  own = refl;
  bodies = All-nil (λ e. IfSome (added e.what) HasBody);
}

-- and from a state with the same steps and entries
pub continues-from : (x : Setting) (J : Journal) (s t : State) (o : Journal → List ℕ → Outcome) → t.steps ≡ s.steps → made_in t.deeds ≡ made_in s.deeds → Continues x J t o → Continues x J s o
continues-from x J s t o e m c = record {
  next = c.next;
  made = c.made;
  fronts = c.fronts;
  goes_on = c.goes_on;
  front_is = c.front_is;
  steps_is = c.steps_is ∙ e;
  made_is = c.made_is ∙ ap (λ (l : List Entry). l ++ c.made) m;
  own = c.own;
  bodies = c.bodies;
}

-- what goes the same way
continues-same : (x : Setting) (J : Journal) (s : State) (o p : Journal → List ℕ → Outcome) → ((K : Journal) (fs : List ℕ) → o K fs ≡ p K fs) → Continues x J s p → Continues x J s o
continues-same x J s o p h c = record {
  next = c.next;
  made = c.made;
  fronts = c.fronts;
  goes_on = λ K fs st. h K (c.fronts ++ fs) ∙ c.goes_on K fs st;
  front_is = c.front_is;
  steps_is = c.steps_is;
  made_is = c.made_is;
  own = c.own;
  bodies = c.bodies;
}

raises-continues : (x : Setting) (J : Journal) (s : State) (f : Fault) (i : Indicator) → IsQuiet x J s.front → Continues x J s (λ K fs. raises f i (at s fs))
unfolding at
raises-continues x J s f i q = continues-plain x J s (record s { mode = Raising (fault_tree f i) }) (λ K fs. raises f i (at s fs)) (λ K fs. refl) q refl refl

fails-continues : (x : Setting) (J : Journal) (s : State) → IsQuiet x J s.front → Continues x J s (λ K fs. fails (at s fs))
unfolding at
fails-continues x J s q = continues-plain x J s (record s { mode = Failing }) (λ K fs. fails (at s fs)) (λ K fs. refl) q refl refl

goes-continues : (x : Setting) (J : Journal) (s : State) → IsQuiet x J s.front → Continues x J s (λ K fs. Goes (at s fs))
goes-continues x J s q = continues-plain x J s s (λ K fs. Goes (at s fs)) (λ K fs. refl) q refl refl

-- a front is taken first
pub taking-continues : (x : Setting) (J : Journal) (s : State) (with_ : Journal → Journal → State → Outcome) → s.front ≤ length J
    → Continues x J (record s { front = length J }) (λ K fs. with_ K J (at (record s { front = length J }) fs)) → Continues x J s (λ K fs. taking (on x K) (at s fs) (with_ K))
taking-continues x J s with_ le c = record {
  next = c.next;
  made = c.made;
  fronts = length J ∷ c.fronts;
  goes_on = λ K fs st. taking-at x J K s (c.fronts ++ fs) (with_ K) (starts-shorter J c.made K st) le ∙ c.goes_on K fs st;
  front_is = c.front_is;
  steps_is = c.steps_is;
  made_is = c.made_is;
  own = c.own;
  bodies = c.bodies;
}

-- an update is made first
making-continues : (x : Setting) (J : Journal) (s : State) (what : What) (done refused : Journal → Journal → State → Outcome) → IfSome (added what) HasBody → s.front ≤ length J
    → Continues x (J ++ entry x what ∷ []) (record s { front = length (J ++ entry x what ∷ []); deeds = s.deeds ++ Updated (entry x what) ∷ [] })
    (λ K fs. done K (J ++ entry x what ∷ []) (at (record s { front = length (J ++ entry x what ∷ []); deeds = s.deeds ++ Updated (entry x what) ∷ [] }) fs))
    → Continues x J s (λ K fs. asking (on x K) what (at s fs) (done K) (refused K))
making-continues x J s what done refused b le c = record {
  next = c.next;
  made = entry x what ∷ c.made;
  fronts = length (J ++ entry x what ∷ []) ∷ c.fronts;
  goes_on = λ K fs st. asking-made x J K s (c.fronts ++ fs) what (done K) (refused K) (starts-shorter (J ++ entry x what ∷ []) c.made K (apart K st)) le ∙ c.goes_on K fs (apart K st);
  front_is = subst (λ (L : Journal). IsQuiet x L c.next.front) joined c.front_is;
  steps_is = c.steps_is;
  made_is = c.made_is ∙ ap (λ (l : List Entry). l ++ c.made) (filter_map-append entry_in s.deeds (Updated (entry x what) ∷ [])) ∙ append_assoc (made_in s.deeds) (entry x what ∷ []) c.made;
  own = rw (same-number x.engine) (ap (λ (l : List Entry). entry x what ∷ l) c.own);
  bodies = All-cons (λ e. IfSome (added e.what) HasBody) (entry x what) c.made b c.bodies;
}
  where
    joined : (J ++ entry x what ∷ []) ++ c.made ≡ J ++ entry x what ∷ c.made
    joined = append_assoc J (entry x what ∷ []) c.made

    apart : (K : Journal) → Starts (J ++ entry x what ∷ c.made) K → Starts ((J ++ entry x what ∷ []) ++ c.made) K
    apart K st = subst (λ (L : Journal). Starts L K) (sym joined) st

-- an update has no room
full-continues : (x : Setting) (J : Journal) (s : State) (what : What) (done refused : Journal → Journal → State → Outcome) → IsQuiet x J s.front
    → Continues x J (record s { front = length J }) (λ K fs. refused K J (at (record s { front = length J }) fs))
    → Continues x J s (λ K fs. asking (on x K) what (at s fs) (done K) (refused K))
full-continues x J s what done refused q c = record {
  next = c.next;
  made = c.made;
  fronts = length J ∷ c.fronts;
  goes_on = λ K fs st. asking-full x J K s (c.fronts ++ fs) what (done K) (refused K) (starts-shorter J c.made K st) q ∙ c.goes_on K fs st;
  front_is = c.front_is;
  steps_is = c.steps_is;
  made_is = c.made_is;
  own = c.own;
  bodies = c.bodies;
}

module _ (x : Setting) where
  refusing-continues : (J : Journal) (s : State) (i : Indicator) (what : What) → is_full x J what ≡ true → IsQuiet x J s.front → Continues x J s (λ K fs. refusing (on x K) i what J (at s fs))
  refusing-continues J s i what e q = rw e (raises-continues x J s no_room i q)

  -- what follows an erasure, or its place, is any other way on
  erasing-continues : (J : Journal) (s : State) (i : Indicator) (k : ℕ) (done gone : Journal → State → Outcome) → IsQuiet x J s.front
      → ((M : Journal) (t : State) → IsQuiet x M t.front → Continues x M t (λ K fs. done K (at t fs)))
      → ((M : Journal) (t : State) → IsQuiet x M t.front → Continues x M t (λ K fs. gone K (at t fs)))
      → Continues x J s (λ K fs. erasing (on x K) i k (at s fs) (done K) (gone K))
  erasing-continues J s i k done gone q d g = go (is_erased J k) (is_full x J (Erase k)) refl refl
    where
      M : Journal
      M = J ++ entry x (Erase k) ∷ []

      t : State
      t = record s { front = length M; deeds = s.deeds ++ Updated (entry x (Erase k)) ∷ [] }

      u : State
      u = record s { front = length J }

      made : Journal → Journal → State → Outcome
      made K seen v = done K v

      refused : Journal → Journal → State → Outcome
      refused K seen v = if is_erased seen k then gone K v else refusing (on x K) i (Erase k) seen v

      go : (e f : Bool) → is_erased J k ≡ e → is_full x J (Erase k) ≡ f → Continues x J s (λ K fs. asking (on x K) (Erase k) (at s fs) (made K) (refused K))
      go true f a b =
          full-continues x J s (Erase k) made refused q
          (subst (λ (c : Bool). Continues x J u (λ K fs. if c then gone K (at u fs) else refusing (on x K) i (Erase k) J (at u fs))) (sym a) (g J u (quiet-end x J)))
      go false true a b =
          full-continues x J s (Erase k) made refused q
          (subst (λ (c : Bool). Continues x J u (λ K fs. if c then gone K (at u fs) else refusing (on x K) i (Erase k) J (at u fs))) (sym a) (refusing-continues J u i (Erase k) b (quiet-end x J)))
      go false false a b = making-continues x J s (Erase k) made refused tt q.below (d M t (quiet-end x M))

  -- ---- clauses that are tried

  serving-continues : (J : Journal) (s : State) (purpose : Purpose) (k : ℕ) → IsQuiet x J s.front → Continues x J s (λ K fs. serving (on x K) purpose k (at s fs))
  serving-continues J s ToShow k q = goes-continues x J s q
  serving-continues J s ToErase k q = erasing-continues J s retract_at k (λ K u. Goes u) (λ K u. fails u) q (λ M t p. goes-continues x M t p) (λ M t p. fails-continues x M t p)

  using-continues : (J : Journal) (s : State) (used : Use) (k : ℕ) → IsQuiet x J s.front → Continues x J s (λ K fs. using (on x K) used k (at s fs))
  using-continues J s Enter k q = goes-continues x J s q
  using-continues J s (Match purpose body) k q = serving-continues J s purpose k q

  meeting-continues : (J : Journal) (s : State) (used : Use) (k : ℕ) (new : List Next) (o : Option (ℕ → Tree)) → IsQuiet x J s.front
      → Continues x J s (λ K fs. meeting (on x K) used k new (at s fs) o)
  unfolding at
  meeting-continues J s used k new None q = fails-continues x J s q
  meeting-continues J s used k new (Some m) q =
      let t : State = bound_further m (record s { goals = new ++ s.goals }) in
      continues-from x J s t (λ K fs. using (on x K) used k (at t fs)) refl refl (using-continues J t used k q)

  pub trying-continues : (J : Journal) (s : State) (used : Use) (goal : Tree) (cs : List Candidate) → IsQuiet x J s.front → Continues x J s (λ K fs. trying (on x K) used goal cs (at s fs))
  unfolding at
  trying-continues J s used goal [] q = fails-continues x J s q
  trying-continues J s used goal (c ∷ []) q =
      let t : State = numbering c.clause (record s { tried = s.tried + 1 }) in
      continues-from x J s t (λ K fs. trying (on x K) used goal (c ∷ []) (at s fs)) refl refl
      (meeting-continues J t used c.name (first_goals used s.fresh (height s) c.clause) (unifier (renamed s.fresh (side_of_clause used c.clause)) (side_of_call used goal)) q)
  trying-continues J s used goal (c ∷ d ∷ ds) q =
      let t : State = numbering c.clause (leaving used goal (d ∷ ds) (record s { tried = s.tried + 1 })) in
      continues-from x J s t (λ K fs. trying (on x K) used goal (c ∷ d ∷ ds) (at s fs)) refl refl
      (meeting-continues J t used c.name (first_goals used s.fresh (height s) c.clause) (unifier (renamed s.fresh (side_of_clause used c.clause)) (side_of_call used goal)) q)

  -- a look is no entry
  look_made : (deeds : List Deed) (look : Look) → made_in (deeds ++ Looked look ∷ []) ≡ made_in deeds
  look_made deeds look = filter_map-append entry_in deeds (Looked look ∷ []) ∙ append-nil (made_in deeds)

  searching-continues : (J seen : Journal) (s : State) (used : Use) (goal : Tree) (before p : ℕ) → IsQuiet x J s.front → Continues x J s (λ K fs. searching (on x K) used goal before seen (at s fs) p)
  unfolding at
  searching-continues J seen s used goal before p q =
      let t : State = looked before s p goal in
      continues-from x J s t (λ K fs. searching (on x K) used goal before seen (at s fs) p) refl (look_made s.deeds _)
      (trying-continues J t used goal (candidate_clauses seen p (keys goal)) q)

  called-continues : (J seen : Journal) (s : State) (goal : Tree) (i : Indicator) (before : ℕ) (o : Option ℕ) → IsQuiet x J s.front
      → Continues x J s (λ K fs. called (on x K) goal i before seen (at s fs) o)
  called-continues J seen s goal i before None q = raises-continues x J s (Existence i) i q
  called-continues J seen s goal i before (Some p) q = searching-continues J seen s Enter goal before p q

  -- a call takes the journal's length
  pub calling-continues : (J : Journal) (goal : Tree) (i : Indicator) (s : State) → IsQuiet x J s.front → Continues x J s (λ K fs. calling (on x K) (at s fs) goal i)
  unfolding at
  calling-continues J goal i s q =
      taking-continues x J s (λ K seen t. called (on x K) goal i s.front seen t (number_of seen i)) q.below
      (called-continues J J (record s { front = length J }) goal i s.front (number_of J i) (quiet-end x J))

-- ---- additions

module _ (x : Setting) (end : End) where
  adding-continues : (J : Journal) (s : State) (c : Clause) (p : ℕ) → HasBody c → IsQuiet x J s.front → Continues x J s (λ K fs. adding (on x K) end c (at s fs) p)
  adding-continues J s c p b q = go (is_full x J (Add end p c)) refl
    where
      M : Journal
      M = J ++ entry x (Add end p c) ∷ []

      t : State
      t = record s { front = length M; deeds = s.deeds ++ Updated (entry x (Add end p c)) ∷ [] }

      go : (f : Bool) → is_full x J (Add end p c) ≡ f → Continues x J s (λ K fs. adding (on x K) end c (at s fs) p)
      go false f =
          making-continues x J s (Add end p c) (λ K seen u. Goes u) (λ K. refusing (on x K) (assert_at end) (Add end p c)) b q.below
          (goes-continues x M t (quiet-end x M))
      go true f =
          full-continues x J s (Add end p c) (λ K seen u. Goes u) (λ K. refusing (on x K) (assert_at end) (Add end p c)) q
          (refusing-continues x J (record s { front = length J }) (assert_at end) (Add end p c) f (quiet-end x J))

  adding_to-continues : (J : Journal) (s : State) (i : Indicator) (c : Clause) (p : ℕ) (k : Kind) → HasBody c → IsQuiet x J s.front → Continues x J s (λ K fs. adding_to (on x K) end i c (at s fs) p k)
  adding_to-continues J s i c p Static b q = raises-continues x J s (no_change i) (assert_at end) q
  adding_to-continues J s i c p Dynamic b q = adding-continues J s c p b q

  declaring-continues : (J : Journal) (s : State) (i : Indicator) (c : Clause) → HasBody c → IsQuiet x J s.front → procedure_named J i ≡ None
      → Continues x J s (λ K fs. declaring (on x K) end i c (at s fs))
  declaring-continues J s i c b q absent = go (is_full x J (Declare i Dynamic)) refl
    where
      M : Journal
      M = J ++ entry x (Declare i Dynamic) ∷ []

      t : State
      t = record s { front = length M; deeds = s.deeds ++ Updated (entry x (Declare i Dynamic)) ∷ [] }

      u : State
      u = record s { front = length J }

      there : procedure_named M i ≡ Some (length (procedures J), Dynamic)
      there = declared-there J (entry x (Declare i Dynamic)) i Dynamic (length (procedures J)) refl (no_number J i absent) refl

      done : Journal → Journal → State → Outcome
      done K seen v = adding_where (on x K) end i c v (procedure_named seen i) Unfit

      refused : Journal → Journal → State → Outcome
      refused K seen v = adding_where (on x K) end i c v (procedure_named seen i) (refusing (on x K) (assert_at end) (Declare i Dynamic) seen v)

      go : (f : Bool) → is_full x J (Declare i Dynamic) ≡ f → Continues x J s (λ K fs. declaring (on x K) end i c (at s fs))
      go false f =
          making-continues x J s (Declare i Dynamic) done refused tt q.below
          (subst (λ (o : Option (ℕ × Kind)). Continues x M t (λ K fs. adding_where (on x K) end i c (at t fs) o Unfit)) (sym there)
          (adding-continues M t c (length (procedures J)) b (quiet-end x M)))
      go true f =
          full-continues x J s (Declare i Dynamic) done refused q
          (subst (λ (o : Option (ℕ × Kind)). Continues x J u (λ K fs. adding_where (on x K) end i c (at u fs) o (refusing (on x K) (assert_at end) (Declare i Dynamic) J (at u fs)))) (sym absent)
          (refusing-continues x J u (assert_at end) (Declare i Dynamic) f (quiet-end x J)))

  adding_named-continues : (J : Journal) (s : State) (i : Indicator) (c : Clause) → HasBody c → IsQuiet x J s.front → Continues x J s (λ K fs. adding_named (on x K) end i c (at s fs))
  adding_named-continues J s i c b q =
      taking-continues x J s (λ K seen v. adding_where (on x K) end i c v (procedure_named seen i) (declaring (on x K) end i c v)) q.below (go (procedure_named J i) refl)
    where
      u : State
      u = record s { front = length J }

      go : (o : Option (ℕ × Kind)) → procedure_named J i ≡ o → Continues x J u (λ K fs. adding_where (on x K) end i c (at u fs) o (declaring (on x K) end i c (at u fs)))
      go None e = declaring-continues J u i c b (quiet-end x J) e
      go (Some d) e = adding_to-continues J u i c d.0 d.1 b (quiet-end x J)

  adding_clause-continues : (J : Journal) (s : State) (c : Clause) (o : Option Indicator) → HasBody c → IsTrue (is_some o) → IsQuiet x J s.front
      → Continues x J s (λ K fs. adding_clause (on x K) end c (at s fs) o)
  adding_clause-continues J s c None b h q = absurd cc
  adding_clause-continues J s c (Some i) b h q = go (is_reserved i)
    where
      go : (r : Bool) → Continues x J s (λ K fs. if r then raises (no_change i) (assert_at end) (at s fs) else adding_named (on x K) end i c (at s fs))
      go true = raises-continues x J s (no_change i) (assert_at end) q
      go false = adding_named-continues J s i c b q

  adding_formed-continues : (J : Journal) (s : State) (f : Formed) → ((c : Clause) → f ≡ Made c → IsClause c) → IsQuiet x J s.front → Continues x J s (λ K fs. adding_formed (on x K) end (at s fs) f)
  adding_formed-continues J s (Refused fault) k q = raises-continues x J s fault (assert_at end) q
  adding_formed-continues J s (Made c) k q = let h = k c refl in adding_clause-continues J s c (indicator_of c.head) h.body h.head q

-- ---- clauses that are read and erased

module _ (x : Setting) where
  headed-continues : (J : Journal) (s : State) (i : Indicator) (t : Tree) (with_ : Journal → List ℕ → Indicator → Outcome) → IsQuiet x J s.front
      → ((j : Indicator) → Continues x J s (λ K fs. with_ K fs j)) → Continues x J s (λ K fs. headed i t (at s fs) (with_ K fs))
  headed-continues J s i (variable n) with_ q k = raises-continues x J s Instantiation i q
  headed-continues J s i (integer z) with_ q k = raises-continues x J s (not_callable (integer z)) i q
  headed-continues J s i (atom a) with_ q k = k (record { name = a; arity = 0 })
  headed-continues J s i (compound f ts) with_ q k = k (record { name = f; arity = count ts })

  unless_integer-continues : (J : Journal) (s : State) (i : Indicator) (t : Tree) (then_ : Journal → List ℕ → Outcome) → IsQuiet x J s.front → Continues x J s then_
      → Continues x J s (λ K fs. unless_integer i t (at s fs) (then_ K fs))
  unless_integer-continues J s i (variable n) then_ q k = k
  unless_integer-continues J s i (integer z) then_ q k = raises-continues x J s (not_callable (integer z)) i q
  unless_integer-continues J s i (atom a) then_ q k = k
  unless_integer-continues J s i (compound f ts) then_ q k = k

  matching_kind-continues : (J : Journal) (s : State) (purpose : Purpose) (h b : Tree) (i : Indicator) (before p : ℕ) (k : Kind) → IsQuiet x J s.front
      → Continues x J s (λ K fs. matching_kind (on x K) purpose h b i before J (at s fs) p k)
  matching_kind-continues J s purpose h b i before p Static q = raises-continues x J s (refusal_for purpose i) (call_for purpose) q
  matching_kind-continues J s purpose h b i before p Dynamic q = searching-continues x J J s (Match purpose b) h before p q

  matching_where-continues : (J : Journal) (s : State) (purpose : Purpose) (h b : Tree) (i : Indicator) (before : ℕ) (o : Option (ℕ × Kind)) → IsQuiet x J s.front
      → Continues x J s (λ K fs. matching_where (on x K) purpose h b i before J (at s fs) o)
  matching_where-continues J s purpose h b i before None q = fails-continues x J s q
  matching_where-continues J s purpose h b i before (Some d) q = matching_kind-continues J s purpose h b i before d.0 d.1 q

  matching-continues : (J : Journal) (s : State) (purpose : Purpose) (h b : Tree) (i : Indicator) → IsQuiet x J s.front → Continues x J s (λ K fs. matching (on x K) purpose h b (at s fs) i)
  unfolding at
  matching-continues J s purpose h b i q = go (is_reserved i)
    where
      go : (r : Bool) → Continues x J s (λ K fs. if r then raises (refusal_for purpose i) (call_for purpose) (at s fs)
          else taking (on x K) (at s fs) (λ seen t. matching_where (on x K) purpose h b i s.front seen t (procedure_named seen i)))
      go true = raises-continues x J s (refusal_for purpose i) (call_for purpose) q
      go false =
          taking-continues x J s (λ K seen t. matching_where (on x K) purpose h b i s.front seen t (procedure_named seen i)) q.below
          (matching_where-continues J (record s { front = length J }) purpose h b i s.front (procedure_named J i) (quiet-end x J))

  inspecting-continues : (J : Journal) (s : State) (h b : Tree) → IsQuiet x J s.front → Continues x J s (λ K fs. inspecting (on x K) h b (at s fs))
  inspecting-continues J s h b q =
      headed-continues J s clause_at h (λ K fs i. unless_integer clause_at b (at s fs) (matching (on x K) ToShow h b (at s fs) i)) q
      (λ i. unless_integer-continues J s clause_at b (λ K fs. matching (on x K) ToShow h b (at s fs) i) q (matching-continues J s ToShow h b i q))

  retracting-continues : (J : Journal) (s : State) (c : Parts) → IsQuiet x J s.front → Continues x J s (λ K fs. retracting (on x K) c (at s fs))
  retracting-continues J s c q =
      headed-continues J s retract_at c.head (λ K fs i. matching (on x K) ToErase c.head c.body (at s fs) i) q (λ i. matching-continues J s ToErase c.head c.body i q)

  -- ---- clauses that are erased in one step

  tried-front : (goal : Option Tree) (c : Clause) (s : State) → (one_tried goal c s).front ≡ s.front
  tried-front None c s = refl
  tried-front (Some g) c s = refl

  tried-steps : (goal : Option Tree) (c : Clause) (s : State) → (one_tried goal c s).steps ≡ s.steps
  tried-steps None c s = refl
  tried-steps (Some g) c s = refl

  tried-deeds : (goal : Option Tree) (c : Clause) (s : State) → (one_tried goal c s).deeds ≡ s.deeds
  tried-deeds None c s = refl
  tried-deeds (Some g) c s = refl

  -- one clause, and then the others
  sweeping_one : Journal → Option Tree → Candidate → List Candidate → Bool → State → Outcome
  sweeping_one K goal c cs swept v =
      if swept then erasing (on x K) (sweep_at goal) c.name v (λ u. sweeping (on x K) goal cs u) (λ u. sweeping (on x K) goal cs u) else sweeping (on x K) goal cs v

  one-first : (goal : Option Tree) (c : Candidate) (cs : List Candidate) (s : State) (K : Journal) (fs : List ℕ)
      → sweeping (on x K) goal (c ∷ cs) (at s fs) ≡ sweeping_one K goal c cs (is_swept goal c.clause s) (at (one_tried goal c.clause s) fs)
  unfolding at sweeping_one
  one-first None c cs s K fs = refl
  one-first (Some g) c cs s K fs = refl

  sweeping-continues : (goal : Option Tree) (cs : List Candidate) (J : Journal) (s : State) → IsQuiet x J s.front → Continues x J s (λ K fs. sweeping (on x K) goal cs (at s fs))
  unfolding sweeping_one
  sweeping-continues goal [] J s q = goes-continues x J s q
  sweeping-continues goal (c ∷ cs) J s q =
      continues-same x J s (λ K fs. sweeping (on x K) goal (c ∷ cs) (at s fs)) (λ K fs. sweeping_one K goal c cs (is_swept goal c.clause s) (at v fs)) (one-first goal c cs s)
      (continues-from x J s v (λ K fs. sweeping_one K goal c cs (is_swept goal c.clause s) (at v fs)) (tried-steps goal c.clause s) (ap made_in (tried-deeds goal c.clause s))
      (go (λ M t p. sweeping-continues goal cs M t p) (is_swept goal c.clause s)))
    where
      v : State
      v = one_tried goal c.clause s

      quiet : IsQuiet x J v.front
      quiet = subst (IsQuiet x J) (sym (tried-front goal c.clause s)) q

      go : ((M : Journal) (t : State) → IsQuiet x M t.front → Continues x M t (λ K fs. sweeping (on x K) goal cs (at t fs))) → (b : Bool) → Continues x J v (λ K fs. sweeping_one K goal c cs b (at v fs))
      go next true = erasing-continues x J v (sweep_at goal) c.name (λ K u. sweeping (on x K) goal cs u) (λ K u. sweeping (on x K) goal cs u) quiet next next
      go next false = next J v quiet

  sweeping_all-continues : (J : Journal) (s : State) (goal : Option Tree) (before p : ℕ) → IsQuiet x J s.front → Continues x J s (λ K fs. sweeping_all (on x K) goal before J (at s fs) p)
  unfolding at
  sweeping_all-continues J s goal before p q =
      continues-from x J s t (λ K fs. sweeping_all (on x K) goal before J (at s fs) p) refl (look_made x s.deeds _)
      (sweeping-continues goal (candidate_clauses J p (swept_keys goal)) J t q)
    where
      t : State
      t = record s { deeds = s.deeds ++ Looked (record { before = before; front = s.front; call = record { procedure = p; keys = swept_keys goal } }) ∷ [] }

  sweeping_kind-continues : (J : Journal) (s : State) (i : Indicator) (goal : Option Tree) (before p : ℕ) (k : Kind) → IsQuiet x J s.front
      → Continues x J s (λ K fs. sweeping_kind (on x K) i goal before J (at s fs) p k)
  sweeping_kind-continues J s i goal before p Static q = raises-continues x J s (no_change i) (sweep_at goal) q
  sweeping_kind-continues J s i goal before p Dynamic q = sweeping_all-continues J s goal before p q

  declaring_swept-continues : (J : Journal) (s : State) (i : Indicator) → IsQuiet x J s.front → procedure_named J i ≡ None → Continues x J s (λ K fs. declaring_swept (on x K) i (at s fs))
  declaring_swept-continues J s i q absent = go (is_full x J (Declare i Dynamic)) refl
    where
      M : Journal
      M = J ++ entry x (Declare i Dynamic) ∷ []

      t : State
      t = record s { front = length M; deeds = s.deeds ++ Updated (entry x (Declare i Dynamic)) ∷ [] }

      u : State
      u = record s { front = length J }

      done : Journal → Journal → State → Outcome
      done K seen v = Goes v

      refused : Journal → Journal → State → Outcome
      refused K seen v = declared_meanwhile (on x K) i seen v (procedure_named seen i)

      go : (f : Bool) → is_full x J (Declare i Dynamic) ≡ f → Continues x J s (λ K fs. asking (on x K) (Declare i Dynamic) (at s fs) (done K) (refused K))
      go false f = making-continues x J s (Declare i Dynamic) done refused tt q.below (goes-continues x M t (quiet-end x M))
      go true f =
          full-continues x J s (Declare i Dynamic) done refused q
          (subst (λ (o : Option (ℕ × Kind)). Continues x J u (λ K fs. declared_meanwhile (on x K) i J (at u fs) o)) (sym absent)
          (refusing-continues x J u retract_all_at (Declare i Dynamic) f (quiet-end x J)))

  absent_swept-continues : (J : Journal) (s : State) (goal : Option Tree) (i : Indicator) → IsQuiet x J s.front → procedure_named J i ≡ None → Continues x J s (λ K fs. absent_swept (on x K) goal i (at s fs))
  absent_swept-continues J s None i q absent = goes-continues x J s q
  absent_swept-continues J s (Some g) i q absent = declaring_swept-continues J s i q absent

  sweeping_named-continues : (J : Journal) (s : State) (goal : Option Tree) (i : Indicator) → IsQuiet x J s.front → Continues x J s (λ K fs. sweeping_named (on x K) goal (at s fs) i)
  unfolding at
  sweeping_named-continues J s goal i q = go (is_reserved i)
    where
      u : State
      u = record s { front = length J }

      where_ : (o : Option (ℕ × Kind)) → procedure_named J i ≡ o → Continues x J u (λ K fs. sweeping_where (on x K) i goal s.front J (at u fs) o)
      where_ None e = absent_swept-continues J u goal i (quiet-end x J) e
      where_ (Some d) e = sweeping_kind-continues J u i goal s.front d.0 d.1 (quiet-end x J)

      go : (r : Bool) → Continues x J s (λ K fs. if r then raises (no_change i) (sweep_at goal) (at s fs)
          else taking (on x K) (at s fs) (λ seen t. sweeping_where (on x K) i goal s.front seen t (procedure_named seen i)))
      go true = raises-continues x J s (no_change i) (sweep_at goal) q
      go false = taking-continues x J s (λ K seen t. sweeping_where (on x K) i goal s.front seen t (procedure_named seen i)) q.below (where_ (procedure_named J i) refl)

  abolishing-continues : (J : Journal) (s : State) (n : Naming) → IsQuiet x J s.front → Continues x J s (λ K fs. abolishing (on x K) (at s fs) n)
  abolishing-continues J s (Names i) q = sweeping_named-continues J s None i q
  abolishing-continues J s (NamesNone fault) q = raises-continues x J s fault abolish_at q

pub accessing-continues : (x : Setting) (J : Journal) (a : Access) (s : State) → IsQuiet x J s.front → Continues x J s (λ K fs. accessing (on x K) a (at s fs))
unfolding accessing
accessing-continues x J (Assert end t) s q = adding_formed-continues x end J s (clause_of (numbered t)) (λ c e. made_clause (numbered t) c e) q
accessing-continues x J (Inspect h b) s q = inspecting-continues x J s h b q
accessing-continues x J (Retract t) s q = retracting-continues x J s (parts_of t) q
accessing-continues x J (RetractAll h) s q =
    headed-continues x J s retract_all_at h (λ K fs i. sweeping_named (on x K) (Some h) (at s fs) i) q (λ i. sweeping_named-continues x J s (Some h) i q)
accessing-continues x J (Abolish t) s q = abolishing-continues x J s (naming_of t) q
