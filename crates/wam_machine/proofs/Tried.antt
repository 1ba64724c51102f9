-- Clauses are tried: the engine's step is the machine's.
use Rattle.std.proofs.Common.{◌≡◌, ℕ, ◌+◌, ◌≤◌, List, [], ◌∷◌, ◌++◌, length, take, Bool, true, false, refl, sym, ap, ◌∙◌, subst, arith, append-nil, inl, inr, Option, Some, None}
use Rattle.std.specs.Prelude.{if◌then◌else◌, All, IsSome, filter_map, option_map, map}
use Rattle.std.specs.List.{cons_option}
use Rattle.std.proofs.lemmas.Bool.{false≢true}
use Rattle.std.proofs.lemmas.List.{length-append}
use Rattle.std.proofs.lemmas.List.Elements.{All-head, All-tail, All-push, All-weaker}
use Rattle.std.proofs.lemmas.List.Sums.{sum_by_push}
use Rattle.prolog_terms.specs.Tree.{Tree}
use Rattle.prolog_terms.specs.Substitutions.{renamed}
use Rattle.prolog_terms.specs.declared.entry.Clause.{Clause}
use Rattle.prolog_terms.specs.declared.entry.Entry.{Entry}
use Rattle.journal_base.specs.Goals.{Goal}
use Rattle.journals.specs.Journal.{Journal, clause_named}
use Rattle.journal_base.specs.Looks.{CountsVisits}
use Rattle.journal_base.specs.View.{has_more}
use Rattle.journal_base.specs.declared.tally.Tally.{Tally}
use Rattle.term_store.specs.declared.cell.Cell.{Cell}
use Rattle.term_unifier.specs.Unifier.{unifier}
use Rattle.wam_machine.specs.States as spec
use Rattle.wam_machine.specs.States.{State, Setting, Outcome, Goes, Clauses, Candidate, Look, Deed, Updated, Next}
use Rattle.wam_machine.specs.Procedures.{numbering, entering, meeting, leaving, trying, candidate_named, side_of_clause, side_of_call, first_goals}
use Rattle.wam_machine.specs.Terms.{Left, OfCall, Saved, Said, AreTerms, IsBuilt, IsOfUse, IsOfCall, KeepsCells, said, built, use_of, purpose_of, calls_in, call_now, saved_now, IsSolved, IsEntered}
use Rattle.wam_machine.specs.Cursors.{part, names_left, clauses_left, visits_left, IsUsable, AreNamed}
use Rattle.wam_machine.specs.View.{mode_of, choice_of, stack_of, state_with, state_of, all_visits, aheads, Spends, Attempts, HasOnlyAsked, IsPushed, KeepsCounts, where_met, calls}
use Rattle.wam_machine.specs.declared.run.Event.{Event}
use Rattle.wam_machine.specs.declared.state.Mode.{Mode}
use Rattle.wam_machine.specs.declared.state.Mode.TheVariants.{Failing as IsFailing}
use Rattle.wam_machine.specs.declared.state.Machine.{Machine}
use Rattle.wam_machine.specs.declared.terms.Alternative.TheVariants as is
use Rattle.wam_machine.specs.declared.terms.Call.{Call}
use Rattle.wam_machine.specs.declared.terms.Use.{Use}
use Rattle.wam_machine.specs.declared.terms.Use.TheVariants as use_is
use Rattle.wam_machine.specs.declared.terms.Terms.{Terms}
use Rattle.wam_machine.proofs.Heights.{newest-append, newest-length}
use Rattle.wam_machine.proofs.Kept.{all_front, all_last}
use Rattle.wam_machine.proofs.Acted.{calls-push}

-- ---- a call that is left

module _ {C : Type 0} (old mid : Terms C) (cells : KeepsCells old mid) where
  -- what a call does with its clauses is the same where its cells stand for what they stood for
  pub use_same : (u : Use) → IsOfUse (IsBuilt old) u → use_of (built mid) u ≡ use_of (built old) u
  use_same use_is.Enter h = refl
  use_same (use_is.Match p body) h = ap (λ (t : Tree). spec.Match (purpose_of p) t) (cells body h).1

  pub use_kept : (u : Use) → IsOfUse (IsBuilt old) u → IsOfUse (IsBuilt mid) u
  use_kept use_is.Enter h = tt
  use_kept (use_is.Match p body) h = (cells body h).0

  pub call_kept : (call : Call C) → IsOfCall (IsBuilt old) call → IsOfCall (IsBuilt mid) call
  call_kept call h = ((cells call.goal h.0).0, use_kept call.used h.1)

module _ {C : Type 0} (old mid : Terms C) (call : Call C) (cells : KeepsCells old mid) (of : IsOfCall (IsBuilt old) call) where
  left_as : spec.Use → Tree → Left C
  left_as u goal = record { used = u; goal = goal; procedure = call.procedure; cursor = call.cursor }

  pub call-same : call_now mid call ≡ call_now old call
  unfolding left_as
  call-same = ap (λ (u : spec.Use). left_as u (built mid call.goal)) (use_same old mid cells call.used of.1) ∙ ap (left_as (use_of (built old) call.used)) (cells call.goal of.0).1

module _ {C : Type 0} (old mid : Terms C) (call : Call C) (unsaid : said mid ≡ said old) (cells : KeepsCells old mid) (of : IsOfCall (IsBuilt old) call) where
  moment : Said C → Left C → Saved C
  moment t left = record { turn = OfCall left; goals = t.goals; bindings = t.bindings }

  -- the moment is the same where nothing else is said, and the call's cells stand for what they stood for
  saved-now-same : saved_now mid (is.Clauses call) ≡ saved_now old (is.Clauses call)
  unfolding moment
  saved-now-same = ap (moment (said mid)) (call-same old mid call cells of) ∙ ap (λ (t : Said C). moment t (call_now old call)) unsaid

  pub stack-left : (new : Terms C) → said new ≡ record (said mid) { stack = (said mid).stack ++ saved_now mid (is.Clauses call) ∷ [] }
      → (said new).stack ≡ (said old).stack ++ saved_now old (is.Clauses call) ∷ []
  stack-left new left =
      ap (λ (t : Said C). t.stack) left
      ∙ ap (λ (s : Saved C). (said mid).stack ++ s ∷ []) saved-now-same
      ∙ ap (λ (t : Said C). t.stack ++ saved_now old (is.Clauses call) ∷ []) unsaid

  pub calls-left : (new : Terms C) → said new ≡ record (said mid) { stack = (said mid).stack ++ saved_now mid (is.Clauses call) ∷ [] }
      → calls_in (said new).stack ≡ calls_in (said old).stack ++ call_now old call ∷ []
  calls-left new left = ap calls_in (stack-left new left) ∙ calls-push (said old).stack (saved_now old (is.Clauses call))

  pub said-left : (new : Terms C) → said new ≡ record (said mid) { stack = (said mid).stack ++ saved_now mid (is.Clauses call) ∷ [] }
      → said new ≡ record (said old) { stack = (said new).stack }
  said-left new left =
      left
      ∙ ap (λ (l : List (Saved C)). record (said mid) { stack = l }) (sym (ap (λ (t : Said C). t.stack) left))
      ∙ ap (λ (t : Said C). record t { stack = (said new).stack }) unsaid

-- what follows where two sides were made one depends on a purpose alone
pub met_alike : (x : Setting) (tree other : Cell → Tree) (u : Use) (k : ℕ) (s : State) (met : Bool) → where_met x (use_of tree u) k s met ≡ where_met x (use_of other u) k s met
met_alike x tree other use_is.Enter k s true = refl
met_alike x tree other (use_is.Match p body) k s true = refl
met_alike x tree other u k s false = refl

-- ---- terms that are made one

module _ {C : Type 0} (rest : C → Goal → Journal → List ℕ) (at : C → ℕ) (j : Journal) (goals : List Next) (old new : Said C) (mode : Mode) (steps : ℕ) (events : List Event) (front : ℕ) (looks : List Deed) (tried : ℕ) (fronts : List ℕ) (done : Bool)
    (x : Setting) (used : spec.Use) (k : ℕ) where
  met : (o : Option (ℕ → Tree)) → IsSolved goals old new done o
      → meeting x used k goals (state_with rest at j old (mode_of mode) steps events front looks tried fronts) o ≡ where_met x used k (state_with rest at j new (mode_of mode) steps events front looks tried fronts) done
  met None h = rw (h.0, h.1) refl
  met (Some m) h = rw (h.0, h.1) refl

-- ---- one clause

abbrev pub candidate : ℕ → Clause → Candidate
candidate k c = record { name = k; clause = c }

some_candidate : (k : ℕ) (o : Option Clause) → IsSome o → IsSome (option_map (candidate k) o)
some_candidate k None some = absurd (false≢true some)
some_candidate k (Some c) some = refl

named_candidates : (used : spec.Use) (J : Journal) (ns : List ℕ) → All (IsUsable used J) ns → All (λ k. IsSome (candidate_named J k)) ns
named_candidates used J ns h = All-weaker (IsUsable used J) (λ k. IsSome (candidate_named J k)) (λ k u. some_candidate k (clause_named J k) u.named) ns h

-- an alternative is left exactly where a name is left
leaves : (used : spec.Use) (goal : Tree) (f : ℕ → Option Candidate) (ns : List ℕ) (s : State) → All (λ k. IsSome (f k)) ns
    → leaving used goal (filter_map f ns) s
    ≡ (if has_more ns then record s { stack = record { what = Clauses used goal (filter_map f ns); goals = s.goals; bindings = s.bindings } ∷ s.stack } else s)
leaves used goal f [] s h = refl
leaves used goal f (k ∷ ks) s h = go (f k) (filter_map f ks) (All-head (λ k. IsSome (f k)) k ks h)
  where
    go : (o : Option Candidate) (cs : List Candidate) → IsSome o
        → leaving used goal (cons_option o cs) s ≡ record s { stack = record { what = Clauses used goal (cons_option o cs); goals = s.goals; bindings = s.bindings } ∷ s.stack }
    go None cs some = absurd (false≢true some)
    go (Some c) cs some = refl

module _ {C : Type 0} (rest : C → Goal → Journal → List ℕ) (at : C → ℕ) (j : Journal) where
  stack_pushed : (stack : List (Saved C)) (s : Saved C) → stack_of rest at j (stack ++ s ∷ []) ≡ choice_of rest at j s ∷ stack_of rest at j stack
  stack_pushed stack s = newest-append (choice_of rest at j) stack (s ∷ []) []

  -- a call is left where a name is left
  left_over : (c : Left C) (s : State) → AreNamed rest at j c
      → leaving c.used c.goal (clauses_left rest at j c) s
      ≡ (if has_more (names_left rest at j c) then record s { stack = choice_of rest at j (record { turn = OfCall c; goals = s.goals; bindings = s.bindings }) ∷ s.stack } else s)
  unfolding clauses_left AreNamed
  left_over c s named = leaves c.used c.goal (candidate_named (part at j c)) (names_left rest at j c) s (named_candidates c.used (part at j c) (names_left rest at j c) named)

  module _ (c : Left C) (clause : Clause) (old kept new : Said C) (mode : Mode) (steps : ℕ) (events : List Event) (front : ℕ) (looks : List Deed) (tried : ℕ) (fronts : List ℕ) where
    at_terms : Said C → State
    at_terms t = state_with rest at j t (mode_of mode) steps events front looks tried fronts

    now : Saved C
    now = record { turn = OfCall c; goals = old.goals; bindings = old.bindings }

    left_or_not : AreNamed rest at j c → kept ≡ record old { stack = kept.stack }
        → kept.stack ≡ (if has_more (names_left rest at j c) then old.stack ++ record { turn = OfCall c; goals = old.goals; bindings = old.bindings } ∷ [] else old.stack)
        → leaving c.used c.goal (clauses_left rest at j c) (at_terms old) ≡ at_terms kept
    unfolding at_terms now
    left_or_not named same stack =
        left_over c (at_terms old) named
        ∙ go (has_more (names_left rest at j c))
        ∙ ap (λ (cs : List (Saved C)). at_terms (record old { stack = cs })) (sym stack)
        ∙ ap at_terms (sym same)
      where
        go : (b : Bool) → ◌≡◌ {A = State} (if b then record (at_terms old) { stack = choice_of rest at j now ∷ stack_of rest at j old.stack } else at_terms old)
            (at_terms (record old { stack = if b then old.stack ++ now ∷ [] else old.stack }))
        go true = ap (λ (st : List spec.Choice). record (at_terms old) { stack = st }) (sym (stack_pushed old.stack now))
        go false = refl

    -- the call is left where a name is left, and then the clause is tried; its cut goes back to a height
    entered : (x : Setting) (k cut : ℕ) → AreNamed rest at j c → kept ≡ record old { stack = kept.stack }
        → kept.stack ≡ (if has_more (names_left rest at j c) then old.stack ++ record { turn = OfCall c; goals = old.goals; bindings = old.bindings } ∷ [] else old.stack)
        → (done : Bool) → IsEntered c.used c.goal clause cut kept new done
        → entering x c.used c.goal (candidate k clause) old.fresh cut (numbering clause (leaving c.used c.goal (clauses_left rest at j c) (at_terms old)))
        ≡ where_met x c.used k (state_with rest at j new (mode_of mode) steps events front looks tried fronts) done
    unfolding at_terms
    entered x k cut named same stack done enters =
        ap (λ s. entering x c.used c.goal (candidate k clause) old.fresh cut (numbering clause s)) (left_or_not named same stack)
        ∙ ap (λ (n : ℕ). entering x c.used c.goal (candidate k clause) n cut (numbering clause (at_terms kept))) (sym (ap (λ (t : Said C). t.fresh) same))
        ∙ met rest at j (first_goals c.used kept.fresh cut clause) (record kept { fresh = kept.fresh + clause.vars }) new mode steps events front looks tried fronts done x c.used k
        (unifier (renamed kept.fresh (side_of_clause c.used clause)) (side_of_call c.used c.goal)) enters

  stack_height : (ss : List (Saved C)) → length (stack_of rest at j ss) ≡ length ss
  stack_height ss = let h : length (stack_of rest at j ss) ≡ length ss + 0 = newest-length (choice_of rest at j) ss [] in omega arith

  -- a clause is tried before those that are left
  pub attempted : (c : Left C) (k : ℕ) (clause : Clause) (old kept new : Machine C) (cut : ℕ) (done : Bool) → AreNamed rest at j c
      → said kept.terms ≡ record (said old.terms) { stack = (said kept.terms).stack }
      → (said kept.terms).stack ≡ (if has_more (names_left rest at j c) then (said old.terms).stack ++ record { turn = OfCall c; goals = (said old.terms).goals; bindings = (said old.terms).bindings } ∷ [] else (said old.terms).stack)
      → cut ≡ length (said old.terms).stack
      → IsEntered c.used c.goal clause cut (said kept.terms) (said new.terms) done
      → new ≡ record old { terms = new.terms }
      → (x : Setting) (looks : List Deed) (tried : ℕ) (fronts : List ℕ)
      → trying x c.used c.goal (candidate k clause ∷ clauses_left rest at j c) (state_of rest at j old looks tried fronts) ≡ where_met x c.used k (state_of rest at j new looks (tried + 1) fronts) done
  unfolding at_terms
  attempted c k clause old kept new cut done named same stack height enters changed x looks tried fronts =
      let o = said old.terms in
      let mode : new.mode ≡ old.mode = ap (λ (m : Machine C). m.mode) changed in
      let steps : new.steps ≡ old.steps = ap (λ (m : Machine C). m.steps) changed in
      let events : new.events.items ≡ old.events.items = ap (λ (m : Machine C). m.events.items) changed in
      let front : new.front ≡ old.front = ap (λ (m : Machine C). m.front) changed in
      ap (λ (h : ℕ). entering x c.used c.goal (candidate k clause) o.fresh h
      (numbering clause (leaving c.used c.goal (clauses_left rest at j c) (state_with rest at j o (mode_of old.mode) old.steps old.events.items old.front looks (tried + 1) fronts))))
      (stack_height o.stack ∙ sym height)
      ∙ entered c clause o (said kept.terms) (said new.terms) old.mode old.steps old.events.items old.front looks (tried + 1) fronts x k cut named same stack done enters
      ∙ rw (mode, steps, events, front) refl

-- ---- the first clause that is left

module _ {C : Type 0} (rest : C → Goal → Journal → List ℕ) (may : C → Goal → Journal → ℕ) (at : C → ℕ) (ahead : C → ℕ) (j : Journal) (c d : Left C) where
  -- no name is left
  none_left : names_left rest at j c ≡ [] → clauses_left rest at j c ≡ []
  unfolding clauses_left
  none_left e = ap (filter_map (candidate_named (part at j c))) e

  -- the cursor has gone on by one name
  next_named : (k : ℕ) → at d.cursor ≡ at c.cursor → d.used ≡ c.used → names_left rest at j c ≡ k ∷ names_left rest at j d → AreNamed rest at j c → AreNamed rest at j d × IsUsable d.used (part at j d) k
  unfolding AreNamed
  next_named k same used e named =
      let all : All (IsUsable d.used (part at j d)) (k ∷ names_left rest at j d) =
      subst (λ (u : spec.Use). All (IsUsable u (part at j d)) (k ∷ names_left rest at j d)) (sym used)
      (subst (λ (J : Journal). All (IsUsable c.used J) (k ∷ names_left rest at j d)) (ap (λ n. take n j) (sym same))
      (subst (All (IsUsable c.used (part at j c))) e named)) in
      (All-tail (IsUsable d.used (part at j d)) k (names_left rest at j d) all, All-head (IsUsable d.used (part at j d)) k (names_left rest at j d) all)

  next_clause : (k : ℕ) (clause : Clause) → at d.cursor ≡ at c.cursor → names_left rest at j c ≡ k ∷ names_left rest at j d → clause_named (part at j d) k ≡ Some clause
      → clauses_left rest at j c ≡ candidate k clause ∷ clauses_left rest at j d
  unfolding clauses_left
  next_clause k clause same e named =
      ap (λ (J : Journal). filter_map (candidate_named J) (names_left rest at j c)) (ap (λ n. take n j) (sym same))
      ∙ ap (filter_map (candidate_named (part at j d))) e
      ∙ ap (λ (o : Option Clause). cons_option (option_map (candidate k) o) (filter_map (candidate_named (part at j d)) (names_left rest at j d))) named

  -- the calls that are kept have names
  pub all_named : (k : ℕ) (cs : List (Left C)) → at d.cursor ≡ at c.cursor → d.used ≡ c.used → names_left rest at j c ≡ k ∷ names_left rest at j d → All (AreNamed rest at j) (cs ++ c ∷ []) → All (AreNamed rest at j) (cs ++ d ∷ [])
  all_named k cs same used e h =
      All-push (AreNamed rest at j) cs d (all_front (AreNamed rest at j) cs c h) (next_named k same used e (all_last (AreNamed rest at j) cs c h)).0

  -- the name that was given may be used
  pub name_usable : (k : ℕ) (cs : List (Left C)) → at d.cursor ≡ at c.cursor → d.used ≡ c.used → names_left rest at j c ≡ k ∷ names_left rest at j d → All (AreNamed rest at j) (cs ++ c ∷ []) → IsUsable d.used (part at j d) k
  name_usable k cs same used e h = (next_named k same used e (all_last (AreNamed rest at j) cs c h)).1

  -- no clause is left
  pub tries_none : (x : Setting) (old : Machine C) (t : Tally) → names_left rest at j c ≡ [] → All (AreNamed rest at j) ((calls old) ++ c ∷ [])
      → t.visits + visits_left may at j d ≤ old.tally.visits + visits_left may at j c
      → old.tally.visits + ahead d.cursor ≤ t.visits + ahead c.cursor
      → Spends rest may at ahead [] (trying x c.used c.goal) j c old (record old { mode = IsFailing; tally = t })
  tries_none x old t none named visits least = record {
    given = 0;
    added = [];
    fronts_are = sym (append-nil old.fronts.items);
    goes = λ looks tried fronts.
        ap (λ cs. trying x c.used c.goal cs (state_of rest at j old looks tried fronts)) (none_left none)
        ∙ ap (λ (n : ℕ). Goes (record (state_of rest at j old looks tried fronts) { mode = spec.Failing; tried = n })) (let e : tried ≡ tried + 0 = omega arith in e)
        ∙ ap (λ (ds : List Deed). Goes (record (state_of rest at j old ds (tried + 0) fronts) { mode = spec.Failing })) (sym (append-nil looks));
    most = omega (arith, sum_by_push (visits_left may at j) (calls old) c);
    least = omega (arith, sum_by_push (λ (x : Left C). ahead x.cursor) (calls old) c);
    named = all_front (AreNamed rest at j) (calls old) c named;
  }

  -- a clause was attempted, and then it was served
  pub tries_some : (x : Setting) (old mid new : Machine C) (t : Tally) (k : ℕ) (met : Bool) (added : List ℕ) (made : List Entry)
      → at d.cursor ≡ at c.cursor → d.used ≡ c.used → d.goal ≡ c.goal → names_left rest at j c ≡ k ∷ names_left rest at j d
      → All (AreNamed rest at j) ((calls old) ++ c ∷ [])
      → t.visits + visits_left may at j d ≤ old.tally.visits + visits_left may at j c
      → old.tally.visits + 1 + ahead d.cursor ≤ t.visits + ahead c.cursor
      → mid ≡ record old { tally = t; terms = mid.terms } → IsPushed d (calls old) (calls mid) → Attempts rest may at j k d (record old { tally = t }) mid met
      → HasOnlyAsked mid new → new.fronts.items ≡ mid.fronts.items ++ added
      → ((looks : List Deed) (tried : ℕ) (fronts : List ℕ) → where_met x d.used k (state_of rest at j mid looks tried (added ++ fronts)) met ≡ Goes (state_of rest at j new (looks ++ map Updated made) tried fronts))
      → Spends rest may at ahead made (trying x c.used c.goal) j c old new
  tries_some x old mid new t k met added made same used goal names named visits least changed pushed attempt asked fronts served = record {
    given = 1;
    added = added;
    fronts_are = fronts ∙ ap (λ (m : Machine C). m.fronts.items ++ added) changed;
    goes = λ looks tried fs.
        let s = state_of rest at j old looks tried (added ++ fs) in
        ap (λ cs. trying x c.used c.goal cs s) (next_clause k attempt.clause same names attempt.clause_is)
        ∙ ap (λ (u : spec.Use). trying x u c.goal (candidate k attempt.clause ∷ clauses_left rest at j d) s) (sym used)
        ∙ ap (λ (g : Tree). trying x d.used g (candidate k attempt.clause ∷ clauses_left rest at j d) s) (sym goal)
        ∙ attempt.tried x looks tried (added ++ fs)
        ∙ served looks (tried + 1) fs;
    most = (parts pushed).0;
    least = (parts pushed).1;
    named = (parts pushed).2;
  }
    where
      visited : new.tally.visits ≡ t.visits
      visited = ap (λ (m : Machine C). m.tally.visits) asked ∙ ap (λ (m : Machine C). m.tally.visits) changed

      same_calls : calls new ≡ calls mid
      same_calls = ap (λ (m : Machine C). calls m) asked

      parts : IsPushed d (calls old) (calls mid)
          → (new.tally.visits + all_visits may at j (calls new) ≤ old.tally.visits + all_visits may at j ((calls old) ++ c ∷ []))
          × (old.tally.visits + 1 + aheads ahead (calls new) ≤ new.tally.visits + aheads ahead ((calls old) ++ c ∷ []))
          × All (AreNamed rest at j) (calls new)
      parts (inl e) = (
        omega (arith, visited, ap (all_visits may at j) (same_calls ∙ e), sum_by_push (visits_left may at j) (calls old) c),
        omega (arith, visited, ap (aheads ahead) (same_calls ∙ e), sum_by_push (λ (x : Left C). ahead x.cursor) (calls old) c),
        subst (All (AreNamed rest at j)) (sym (same_calls ∙ e)) (all_front (AreNamed rest at j) (calls old) c named),
      )
      parts (inr e) = (
        omega (arith, visited, ap (all_visits may at j) (same_calls ∙ e), sum_by_push (visits_left may at j) (calls old) c, sum_by_push (visits_left may at j) (calls old) d),
        omega (arith, visited, ap (aheads ahead) (same_calls ∙ e), sum_by_push (λ (x : Left C). ahead x.cursor) (calls old) c, sum_by_push (λ (x : Left C). ahead x.cursor) (calls old) d),
        subst (All (AreNamed rest at j)) (sym (same_calls ∙ e)) (all_named k (calls old) same used names named),
      )

-- ---- what was done then

module _ {C : Type 0} (old mid new : Machine C) where
  pub pushed_few : (d : Left C) → IsPushed d (calls old) (calls mid) → HasOnlyAsked mid new → length (calls new) ≤ length (calls old) + 1
  pushed_few d pushed asked = go pushed
    where
      same : length (calls new) ≡ length (calls mid)
      same = ap (λ (m : Machine C). length (calls m)) asked

      go : IsPushed d (calls old) (calls mid) → length (calls new) ≤ length (calls old) + 1
      go (inl e) = omega (arith, same, ap length e)
      go (inr e) = omega (arith, same, ap length e, length-append (calls old) (d ∷ []))

  pub counts_served : (t : Tally) → AreTerms mid.terms → (said mid.terms).shown ≡ (said old.terms).shown → mid ≡ record old { tally = t; terms = mid.terms } → CountsVisits old.tally t → HasOnlyAsked mid new → KeepsCounts old new
  counts_served t terms shown changed counts asked = record {
    terms = subst (λ (m : Machine C). AreTerms m.terms) (sym asked) terms;
    shown = ap (λ (m : Machine C). (said m.terms).shown) asked ∙ shown;
    steps = ap (λ (m : Machine C). m.steps) asked ∙ ap (λ (m : Machine C). m.steps) changed;
    events = ap (λ (m : Machine C). m.events.items) asked ∙ ap (λ (m : Machine C). m.events.items) changed;
    tally =
        let same : new.tally ≡ t = ap (λ (m : Machine C). m.tally) asked ∙ ap (λ (m : Machine C). m.tally) changed in
        subst (λ (u : Tally). u ≡ record old.tally { visits = u.visits }) (sym same) counts;
  }
