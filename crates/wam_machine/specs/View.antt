-- What the engine keeps, as a state of the machine, over a journal.
use Rattle.std.specs.Prelude.{◌≡◌, ℕ, ◌+◌, ◌*◌, ◌≤◌, ◌⊎◌, List, [], ◌∷◌, ◌++◌, length, All, Option, Some, MatchOption, map, take, Bool, true, false}
use Rattle.std.specs.List.{sum_by, AllZip}
use Rattle.prolog_terms.specs.Tree.{Tree, variable}
use Rattle.prolog_terms.specs.Substitutions.{beyond}
use Rattle.prolog_terms.specs.declared.shown.Shown.{Shown}
use Rattle.prolog_terms.specs.declared.entry.Clause.{Clause}
use Rattle.journal_base.specs.Goals.{Goal as Asked}
use Rattle.journals.specs.Journal.{Journal, clause_named}
use Rattle.journal_base.specs.Looks.{most_raised, scans_of, kept_of, wants_of}
use Rattle.prolog_terms.specs.declared.entry.Entry.{Entry}
use Rattle.prolog_terms.specs.declared.entry.Indicator.{Indicator}
use Rattle.journal_base.specs.View.{View, IsSound, Out, none_out, opened, entries_by}
use Rattle.journal_base.specs.declared.cause.How.{How}
use Rattle.journal_base.specs.declared.tally.Tally.{Tally}
use Rattle.wam_machine.specs.Terms.{Left, Turn, OfCall, OfRight, OfRepeat, OfNot, OfCatch, OfFindall, Saved, Said, AreTerms, said, calls_in}
use Rattle.wam_machine.specs.Cursors.{Begins, goal_of, part, clauses_left, visits_left, AreNamed}
use Rattle.wam_machine.specs.States as spec
use Rattle.wam_machine.specs.States.{State, Setting, Outcome, Goes, Ends, Look, Deed, Updated, Next, Do, Clauses, Right, Again, NotMark, CatchMark, FindallMark, Going, Failing, Raising, Candidate, onwards, fails, raises, no_room, erasing, looks_in, made_in, Report}
use Rattle.wam_machine.specs.Procedures.{searching, trying, using}
use Rattle.wam_machine.specs.Machine.{goal_move, repeating, gathered, Runs, beginning, shown_list}
use Rattle.wam_machine.specs.Laws.{newest}
use Rattle.wam_machine.specs.Control.{control_of, first_body}
use Rattle.wam_machine.specs.Runs.{IsFairLook, allowances}
use Rattle.wam_machine.specs.declared.run.Event.{Event}
use Rattle.wam_machine.specs.declared.run.Goal.{Goal}
use Rattle.wam_machine.specs.declared.run.Run.{Run}
use Rattle.wam_machine.specs.declared.run.RunEnd.{RunEnd}
use Rattle.wam_machine.specs.declared.database.Erasure.{Erasure}
use Rattle.wam_machine.specs.declared.database.Erasure.TheVariants as erasure
use Rattle.wam_machine.specs.declared.state.Mode.{Mode}
use Rattle.wam_machine.specs.declared.state.Mode.TheVariants.{Going as IsGoing, Failing as IsFailing, Raising as RaisingBall}
use Rattle.wam_machine.specs.declared.state.Machine.{Machine}
use Rattle.wam_machine.specs.declared.state.Host.{Host}

abbrev pub setting : {C : Type 0} → Host → Machine C → Journal → Setting
setting h m j = record { engine = h.engine; journal = j; words = h.sizes.words; updates = h.sizes.updates; start = h.start; budget = h.budget; shown = (said m.terms).shown; ops = h.ops.now }

-- ---- states

abbrev pub mode_of : Mode → spec.Mode
mode_of IsGoing = Going
mode_of IsFailing = Failing
mode_of (RaisingBall ball) = Raising ball

abbrev pub alternative_of : {C : Type 0} → (C → Asked → Journal → List ℕ) → (C → ℕ) → Journal → Turn C → spec.Alternative
alternative_of rest at j (OfCall c) = Clauses c.used c.goal (clauses_left rest at j c)
alternative_of rest at j (OfRight goal cut) = Right goal cut
alternative_of rest at j OfRepeat = Again
alternative_of rest at j OfNot = NotMark
alternative_of rest at j (OfCatch c r) = CatchMark c r
alternative_of rest at j (OfFindall l f) = FindallMark l f

-- what may be gone back to
abbrev pub choice_of : {C : Type 0} → (C → Asked → Journal → List ℕ) → (C → ℕ) → Journal → Saved C → spec.Choice
choice_of rest at j s = record { what = alternative_of rest at j s.turn; goals = s.goals; bindings = s.bindings }

abbrev pub stack_of : {C : Type 0} → (C → Asked → Journal → List ℕ) → (C → ℕ) → Journal → List (Saved C) → List spec.Choice
stack_of rest at j ss = newest (choice_of rest at j) ss []

abbrev pub state_from : List Next → List spec.Choice → (ℕ → Tree) → ℕ → spec.Mode → ℕ → List Event → ℕ → List Deed → ℕ → List ℕ → State
state_from goals stack bindings fresh mode steps events front deeds tried fronts = record {
  mode = mode;
  goals = goals;
  stack = stack;
  bindings = bindings;
  fresh = fresh;
  steps = steps;
  events = events;
  deeds = deeds;
  tried = tried;
  front = front;
  fronts = fronts;
}

-- what the terms say, as a state
abbrev pub state_with : {C : Type 0} → (C → Asked → Journal → List ℕ) → (C → ℕ) → Journal → Said C → spec.Mode → ℕ → List Event → ℕ → List Deed → ℕ → List ℕ → State
state_with rest at j t mode steps events front deeds tried fronts =
    state_from t.goals (stack_of rest at j t.stack) t.bindings t.fresh mode steps events front deeds tried fronts

-- the machine's state after this was done at the database and so many clauses were tried, with these fronts still to come
abbrev pub state_of : {C : Type 0} → (C → Asked → Journal → List ℕ) → (C → ℕ) → Journal → Machine C → List Deed → ℕ → List ℕ → State
state_of rest at j m deeds tried fronts =
    state_with rest at j (said m.terms) (mode_of m.mode) m.steps m.events.items m.front deeds tried fronts

-- the calls with clauses left
abbrev pub calls : {C : Type 0} → Machine C → List (Left C)
calls m = calls_in (said m.terms).stack

-- ---- cursors

-- so many cursors are out, with those of these calls
abbrev pub all_out : {C : Type 0} → (C → ℕ) → Out → List (Left C) → Out
all_out group o [] = o
all_out group o (c ∷ cs) = all_out group (opened (group c.cursor) o) cs

-- each call's cursor may be used, and no other cursor is out
pub record AreKept {C : Type 0} (serves : C → Asked → Type 0) (group : C → ℕ) (out : Out) (calls : List (Left C)) : Type 0 where
  pub serve : All (λ c. serves c.cursor (goal_of c)) calls
  pub out_is : out ≡ all_out group none_out calls

-- ---- counts

abbrev pub all_visits : {C : Type 0} → (C → Asked → Journal → ℕ) → (C → ℕ) → Journal → List (Left C) → ℕ
all_visits may at j cs = sum_by (visits_left may at j) cs

abbrev pub aheads : {C : Type 0} → (C → ℕ) → List (Left C) → ℕ
aheads ahead cs = sum_by (λ c. ahead c.cursor) cs

-- all entries of its engine are below a front, in each journal
abbrev pub AreBelow : View → ℕ → Type 0
AreBelow v front = (j : Journal) → Begins v j → entries_by v.number (take front j) ≡ v.own

-- what an engine keeps from move to move: its counts are within its steps, and its entries are below the front that was taken last
pub record IsHeld (budget : ℕ) (v : View) (steps front calls : ℕ) (t : Tally) : Type 0 where
  pub within : steps ≤ budget
  pub few : calls ≤ t.looks
  pub reached : front ≤ v.seen
  pub below : AreBelow v front
  pub looks : t.looks ≤ steps
  pub scans : t.scans ≤ t.looks
  pub kept : t.kept ≤ t.looks
  pub wants : t.wants ≤ t.looks
  pub built : t.built ≤ t.looks * most_raised
  pub indexes : t.indexes ≤ t.looks * most_raised

-- the same over a journal: the clauses that are left have names, and the visits still to come are within the counts
pub record IsHeldIn {C : Type 0} (rest : C → Asked → Journal → List ℕ) (may : C → Asked → Journal → ℕ) (at : C → ℕ) (j : Journal) (t : Tally) (calls : List (Left C)) : Type 0 where
  pub named : All (AreNamed rest at j) calls
  pub raised : t.visits + all_visits may at j calls ≤ t.looks * most_raised

-- the engine is ready for a move
pub record IsReady {C : Type 0} (v : View) (serves : C → Asked → Type 0) (group : C → ℕ) (out : Out) (rest : C → Asked → Journal → List ℕ) (may : C → Asked → Journal → ℕ) (at : C → ℕ)
    (budget : ℕ) (m : Machine C) : Type 0 where
  pub sound : IsSound v
  pub terms : AreTerms m.terms
  pub kept : AreKept serves group out (calls m)
  pub held : IsHeld budget v m.steps m.front (length (calls m)) m.tally
  pub each : (j : Journal) → Begins v j → IsHeldIn rest may at j m.tally (calls m)

-- what a move leaves: terms that are well kept, the same shown term, and counts within its steps
pub record IsLeft {C : Type 0} (budget : ℕ) (v : View) (old new : Machine C) : Type 0 where
  pub terms : AreTerms new.terms
  pub shown : (said new.terms).shown ≡ (said old.terms).shown
  pub held : IsHeld budget v new.steps new.front (length (calls new)) new.tally

-- what was done between two moments, over a journal: looks, how each was made, and how many clauses were tried
pub record Works {C : Type 0} (may : C → Asked → Journal → ℕ) (at : C → ℕ) (ahead : C → ℕ) (causes : List ℕ) (j : Journal)
    (old new : Tally) (before after : List (Left C)) (looked : List Look) (hows : List How) (given : ℕ) : Type 0 where
  pub fair : AllZip (IsFairLook causes j) looked hows
  pub looks : new.looks ≡ old.looks + length looked
  pub scans : new.scans ≡ old.scans + sum_by scans_of hows
  pub kept : new.kept ≡ old.kept + sum_by kept_of hows
  pub wants : new.wants ≡ old.wants + sum_by wants_of hows
  pub most : new.visits + all_visits may at j after ≤ old.visits + all_visits may at j before + allowances j looked hows
  pub least : old.visits + given + aheads ahead after ≤ new.visits + aheads ahead before
  pub unbuilt : causes ≡ 0 ∷ [] → (new.built ≡ old.built) × (new.indexes ≡ old.indexes)

-- ---- moves

-- a function of states goes on from the old machine to the new one, over a journal, and makes these entries
pub record GoesOn {C : Type 0} (rest : C → Asked → Journal → List ℕ) (may : C → Asked → Journal → ℕ) (at : C → ℕ) (ahead : C → ℕ) (causes : List ℕ) (made : List Entry) (f : State → Outcome) (j : Journal)
    (old new : Machine C) : Type 0 where
  pub added : List ℕ
  pub deeds : List Deed
  pub hows : List How
  pub given : ℕ
  pub made_is : made_in deeds ≡ made
  pub fronts_are : new.fronts.items ≡ old.fronts.items ++ added
  pub goes : (before : List Deed) (tried : ℕ) (fronts : List ℕ) → f (state_of rest at j old before tried (added ++ fronts)) ≡ Goes (state_of rest at j new (before ++ deeds) (tried + given) fronts)
  pub works : Works may at ahead causes j old.tally new.tally (calls old) (calls new) (looks_in deeds) hows given
  pub held : IsHeldIn rest may at j new.tally (calls new)

-- the function of states ends the run, and makes no entry
pub record ComesToEnd {C : Type 0} (rest : C → Asked → Journal → List ℕ) (at : C → ℕ) (made : List Entry) (f : State → Outcome) (x : Setting) (old new : Machine C) (end : RunEnd) : Type 0 where
  pub made_is : made ≡ []
  pub fronts_are : new.fronts.items ≡ old.fronts.items
  pub tally_is : new.tally ≡ old.tally
  pub ends : (deeds : List Deed) (tried : ℕ) → f (state_of rest at x.journal old deeds tried [])
      ≡ Ends (record { events = new.events.items; deeds = deeds; tried = tried; steps = new.steps; end = end })

abbrev pub Does : {C : Type 0} → (C → Asked → Journal → List ℕ) → (C → Asked → Journal → ℕ) → (C → ℕ) → (C → ℕ) → List ℕ → List Entry → (State → Outcome) → Setting → Machine C → Machine C → Option RunEnd → Type 0
Does rest may at ahead causes made f x old new o = MatchOption o (GoesOn rest may at ahead causes made f x.journal old new) (λ end. ComesToEnd rest at made f x old new end)

-- the base's engine made these entries, and nothing else became of what the base shows but that it grew
pub record Makes (old new : View) (P : List Entry → Type 0) : Type 0 where
  pub made : List Entry
  pub own : new.own ≡ old.own ++ made
  pub so : P made

-- a host knows its base: its engine, and its sizes
pub record IsHostOf (h : Host) (v : View) : Type 0 where
  pub engine : h.engine ≡ v.number
  pub words : h.sizes.words ≡ v.words
  pub updates : h.sizes.updates ≡ v.updates

-- a goal's move, its cut going back to a height
abbrev pub performs_goal : Setting → Tree → ℕ → State → Outcome
performs_goal x goal cut s = goal_move x goal cut s (control_of goal)

-- A function of states goes on from the old machine to the new one, with nothing done but to the mode, the terms and the events: no
-- call is looked up, tried or given up.
pub record Acts {C : Type 0} (f : State → Outcome) (old new : Machine C) : Type 0 where
  pub terms : AreTerms new.terms
  pub same : new ≡ record old { mode = new.mode; terms = new.terms; events = new.events }
  pub shown : (said new.terms).shown ≡ (said old.terms).shown
  pub calls_are : calls new ≡ calls old
  pub goes : (rest : C → Asked → Journal → List ℕ) (at : C → ℕ) (j : Journal) (deeds : List Deed) (tried : ℕ) (fronts : List ℕ)
      → f (state_of rest at j old deeds tried fronts) ≡ Goes (state_of rest at j new deeds tried fronts)

-- ---- updates

-- a front is seen, and all entries of the base's engine are below it
pub record IsFronted (v : View) (front : ℕ) : Type 0 where
  pub reached : front ≤ v.seen
  pub below : AreBelow v front

-- nothing was done but to the mode and the fronts
abbrev pub HasOnlyAsked : {C : Type 0} → Machine C → Machine C → Type 0
HasOnlyAsked old new = new ≡ record old { mode = new.mode; front = new.front; fronts = new.fronts }

-- A function of states takes the next fronts and goes on, with the entries that the base's engine made meanwhile.
pub record Asks {C : Type 0} (v w : View) (f : Journal → State → Outcome) (old new : Machine C) : Type 0 where
  pub added : List ℕ
  pub made : List Entry
  pub own : w.own ≡ v.own ++ made
  pub front : IsFronted w new.front
  pub fronts_are : new.fronts.items ≡ old.fronts.items ++ added
  pub goes : (j : Journal) → Begins w j → (rest : C → Asked → Journal → List ℕ) (at : C → ℕ) (deeds : List Deed) (tried : ℕ) (fronts : List ℕ)
      → f j (state_of rest at j old deeds tried (added ++ fronts)) ≡ Goes (state_of rest at j new (deeds ++ map Updated made) tried fronts)

-- What follows where an erasure was done, where the clause was gone, and where there was no room.
abbrev pub after_erasure : Indicator → (State → Outcome) → (State → Outcome) → State → Erasure → Outcome
after_erasure at done gone s erasure.Done = done s
after_erasure at done gone s erasure.Gone = gone s
after_erasure at done gone s erasure.Full = raises no_room at s

-- an erasure is asked for at the next front, with the entries that the base's engine made meanwhile
pub record Erases {C : Type 0} (h : Host) (v w : View) (k : ℕ) (old new : Machine C) (asked : Erasure) : Type 0 where
  pub made : List Entry
  pub own : w.own ≡ v.own ++ made
  pub front : IsFronted w new.front
  pub fronts_are : new.fronts.items ≡ old.fronts.items ++ new.front ∷ []
  pub mode : new.mode ≡ old.mode
  pub goes : (j : Journal) → Begins w j → (rest : C → Asked → Journal → List ℕ) (at : C → ℕ) (deeds : List Deed) (tried : ℕ) (fronts : List ℕ) (i : Indicator) (done gone : State → Outcome)
      → erasing (setting h old j) i k (state_of rest at j old deeds tried (new.front ∷ fronts)) done gone
      ≡ after_erasure i done gone (state_of rest at j new (deeds ++ map Updated made) tried fronts) asked

-- a ball is raised
abbrev pub IsRaising : Mode → Type 0
IsRaising mode = (ball : Tree) × (mode ≡ RaisingBall ball)

-- ---- clauses that are tried

abbrev pub settled_mode : Mode → Bool → Mode
settled_mode mode true = mode
settled_mode mode false = IsFailing

-- At each front from one on, this does what the search for the clauses of a procedure does.
abbrev pub IsSearch : Setting → spec.Use → Tree → ℕ → ℕ → (ℕ → Journal → State → Outcome) → Type 0
IsSearch x used goal from p with =
    (before n : ℕ) (s : State) → from ≤ n → n ≤ length x.journal → with before (take n x.journal) s ≡ searching x used goal before (take n x.journal) s p

-- A function of the clauses that are left of a call goes on, over a journal: the next fronts are taken, and these entries made.
pub record Spends {C : Type 0} (rest : C → Asked → Journal → List ℕ) (may : C → Asked → Journal → ℕ) (at : C → ℕ) (ahead : C → ℕ) (made : List Entry) (f : List Candidate → State → Outcome) (j : Journal)
    (c : Left C) (old new : Machine C) : Type 0 where
  pub given : ℕ
  pub added : List ℕ
  pub fronts_are : new.fronts.items ≡ old.fronts.items ++ added
  pub goes : (deeds : List Deed) (tried : ℕ) (fronts : List ℕ)
      → f (clauses_left rest at j c) (state_of rest at j old deeds tried (added ++ fronts)) ≡ Goes (state_of rest at j new (deeds ++ map Updated made) (tried + given) fronts)
  pub most : new.tally.visits + all_visits may at j (calls new) ≤ old.tally.visits + all_visits may at j ((calls old) ++ c ∷ [])
  pub least : old.tally.visits + given + aheads ahead (calls new) ≤ new.tally.visits + aheads ahead ((calls old) ++ c ∷ [])
  pub named : All (AreNamed rest at j) (calls new)

-- the first clause that is left of a call is tried
abbrev pub Tries : {C : Type 0} → (C → Asked → Journal → List ℕ) → (C → Asked → Journal → ℕ) → (C → ℕ) → (C → ℕ) → List Entry → Setting → Left C → Machine C → Machine C → Type 0
Tries rest may at ahead made x c old new = Spends rest may at ahead made (trying x c.used c.goal) x.journal c old new

-- going on with an alternative that was taken
abbrev pub resuming : Setting → spec.Alternative → State → Outcome
resuming x (Clauses used goal rest) s = trying x used goal rest s
resuming x (Right goal cut) s = onwards (Do goal cut ∷ []) s
resuming x Again s = repeating s
resuming x NotMark s = Goes s
resuming x (CatchMark c r) s = fails s
resuming x (FindallMark l f) s = gathered l f s

-- the calls with clauses left of a turn: one at most
abbrev pub turn_calls : {C : Type 0} → Turn C → List (Left C)
turn_calls (OfCall c) = c ∷ []
turn_calls (OfRight goal cut) = []
turn_calls OfRepeat = []
turn_calls OfNot = []
turn_calls (OfCatch c r) = []
turn_calls (OfFindall l f) = []

-- the machine goes on with a turn, over a journal: the next fronts are taken, and these entries made
pub record Resumes {C : Type 0} (rest : C → Asked → Journal → List ℕ) (may : C → Asked → Journal → ℕ) (at : C → ℕ) (ahead : C → ℕ) (made : List Entry) (x : Setting) (turn : Turn C) (old new : Machine C) : Type 0 where
  pub given : ℕ
  pub added : List ℕ
  pub fronts_are : new.fronts.items ≡ old.fronts.items ++ added
  pub resumed : (deeds : List Deed) (tried : ℕ) (fronts : List ℕ)
      → resuming x (alternative_of rest at x.journal turn) (state_of rest at x.journal old deeds tried (added ++ fronts)) ≡ Goes (state_of rest at x.journal new (deeds ++ map Updated made) (tried + given) fronts)
  pub most : new.tally.visits + all_visits may at x.journal (calls new) ≤ old.tally.visits + all_visits may at x.journal ((calls old) ++ turn_calls turn)
  pub least : old.tally.visits + given + aheads ahead (calls new) ≤ new.tally.visits + aheads ahead ((calls old) ++ turn_calls turn)
  pub named : All (AreNamed rest at x.journal) (calls new)

-- what follows where two sides were made one, and where they have no unifier
abbrev pub where_met : Setting → spec.Use → ℕ → State → Bool → Outcome
where_met x used k s true = using x used k s
where_met x used k s false = fails s

-- a clause of a call, by its name, is tried before those that are left, over a journal: so far as to whether two sides were made one
pub record Attempts {C : Type 0} (rest : C → Asked → Journal → List ℕ) (may : C → Asked → Journal → ℕ) (at : C → ℕ) (j : Journal) (name : ℕ) (c : Left C) (old new : Machine C) (met : Bool) : Type 0 where
  pub clause : Clause
  pub clause_is : clause_named (part at j c) name ≡ Some clause
  pub tried : (x : Setting) (deeds : List Deed) (tried : ℕ) (fronts : List ℕ)
      → trying x c.used c.goal (record { name = name; clause = clause } ∷ clauses_left rest at j c) (state_of rest at j old deeds tried fronts)
      ≡ where_met x c.used name (state_of rest at j new deeds (tried + 1) fronts) met

-- the stack is as it was, or the call lies on it
abbrev pub IsPushed : {C : Type 0} → Left C → List (Left C) → List (Left C) → Type 0
IsPushed c old new = (new ≡ old) ⊎ (new ≡ old ++ c ∷ [])

-- nothing was done but to the mode, the terms, the fronts and the count of visits; the shown term is the same
pub record KeepsCounts {C : Type 0} (old new : Machine C) : Type 0 where
  pub terms : AreTerms new.terms
  pub shown : (said new.terms).shown ≡ (said old.terms).shown
  pub steps : new.steps ≡ old.steps
  pub events : new.events.items ≡ old.events.items
  pub tally : new.tally ≡ record old.tally { visits = new.tally.visits }

-- ---- whole runs

abbrev pub no_tally : Tally
no_tally = record { looks = 0; scans = 0; kept = 0; wants = 0; visits = 0; built = 0; indexes = 0 }

-- what the terms say before the first move
abbrev pub said_at_first : {C : Type 0} → Goal → Said C
said_at_first goal = record { goals = Do (first_body goal.term) 0 ∷ []; bindings = variable; fresh = beyond goal.term; shown = shown_list goal.shown; stack = [] }

-- the machine before its first move
pub record IsBeginning {C : Type 0} (goal : Goal) (start : ℕ) (m : Machine C) : Type 0 where
  pub mode : m.mode ≡ IsGoing
  pub terms : AreTerms m.terms
  pub said_is : said m.terms ≡ said_at_first goal
  pub steps : m.steps ≡ 0
  pub events : m.events.items ≡ []
  pub front : m.front ≡ start
  pub fronts : m.fronts.items ≡ []
  pub tally : m.tally ≡ no_tally

-- what the machine did, as a run
abbrev pub run_of : {C : Type 0} → ℕ → List Shown → Machine C → RunEnd → Run
run_of engine shown m end =
    record { engine = engine; line = 0; shown = shown; transcript = m.events.items; fronts = m.fronts.items; tally = m.tally; steps = m.steps; end = end }

-- Whichever fronts come, a run from the machine's state on is the rest of a run of the goal from the beginning, which took the
-- machine's fronts and made these entries.
pub record IsLed {C : Type 0} (rest : C → Asked → Journal → List ℕ) (may : C → Asked → Journal → ℕ) (at : C → ℕ) (ahead : C → ℕ) (causes : List ℕ) (made : List Entry) (x : Setting) (goal : Tree) (m : Machine C) : Type 0 where
  pub deeds : List Deed
  pub hows : List How
  pub tried : ℕ
  pub made_is : made_in deeds ≡ made
  pub leads : (fronts : List ℕ) (r : Report) → Runs x (state_of rest at x.journal m deeds tried fronts) r → Runs x (beginning x goal (m.fronts.items ++ fronts)) r
  pub works : Works may at ahead causes x.journal no_tally m.tally [] (calls m) (looks_in deeds) hows tried
