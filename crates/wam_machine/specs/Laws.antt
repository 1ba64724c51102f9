-- Laws of the abstract machine: each goal is a body, each goal has a transcript, each active `catch` has its mark; and of what an
-- engine keeps of a state.
use Rattle.std.specs.Prelude.{IsTrue, IfSome, IsSome, All, ◌≡◌, ℕ, suc, ◌≤◌, Bool, true, false, List, [], ◌∷◌, ◌++◌, length, take, drop, Some, map}
use Rattle.prolog_terms.specs.Tree.{Tree, variable}
use Rattle.prolog_terms.specs.Substitutions.{substituted, renamed}
use Rattle.prolog_terms.specs.Clauses.{is_body}
use Rattle.prolog_terms.specs.declared.entry.Clause.{Clause}
use Rattle.prolog_terms.specs.declared.entry.Entry.{Entry}
use Rattle.journals.specs.Journal.{Journal, added}
use Rattle.journal_base.specs.Legal.{Legal}
use Rattle.journal_base.specs.View.{entries_by}
use Rattle.wam_machine.specs.Control.{control_of}
use Rattle.wam_machine.specs.States.{Next, Do, ConditionEnd, NotEnd, CatchEnd, FindallEnd, Alternative, Clauses, Right, Again, NotMark, CatchMark, FindallMark, Choice, State, Setting, Report, Goes, cut_to, next_under}
use Rattle.wam_machine.specs.Machine.{active_catch, move, beginning, Transcript}

-- ---- goals are bodies

abbrev pub CanBeDone : Next → Type 0
CanBeDone (Do goal cut) = IsTrue (is_body goal)
CanBeDone (ConditionEnd h) = Unit {0}
CanBeDone (NotEnd h) = Unit {0}
CanBeDone (CatchEnd h) = Unit {0}
CanBeDone (FindallEnd t h) = Unit {0}

abbrev pub HasBody : Clause → Type 0
HasBody c = IsTrue (is_body c.body)

abbrev pub CanBeTaken : Alternative → Type 0
CanBeTaken (Clauses used goal rest) = All (λ c. HasBody c.clause) rest
CanBeTaken (Right goal cut) = IsTrue (is_body goal)
CanBeTaken Again = Unit {0}
CanBeTaken NotMark = Unit {0}
CanBeTaken (CatchMark c r) = Unit {0}
CanBeTaken (FindallMark l f) = Unit {0}

pub record CanGoBack (c : Choice) : Type 0 where
  pub what : CanBeTaken c.what
  pub goals : All CanBeDone c.goals

-- each goal of a state is a body, so no variable and no integer ever stands as a goal
pub record IsWellMade (s : State) : Type 0 where
  pub goals : All CanBeDone s.goals
  pub stack : All CanGoBack s.stack

-- each clause that a journal adds has a body
abbrev pub HasBodies : Journal → Type 0
HasBodies J = All (λ e. IfSome (added e.what) HasBody) J

pub record GoalsAreBodies : Type 0 where
  pub begins : (x : Setting) (goal : Tree) (fronts : List ℕ) → IsWellMade (beginning x goal fronts)
  pub goes : (x : Setting) (s t : State) → HasBodies x.journal → IsWellMade s → move x s ≡ Goes t → IsWellMade t
  pub controlled : (goal : Tree) → IsTrue (is_body goal) → IsSome (control_of goal)

-- so it is in a legal journal
abbrev pub LegalHasBodies : Type 0
LegalHasBodies = (words updates : ℕ) (J : Journal) → Legal words updates J → HasBodies J

-- the same setting, with these entries behind the journal
abbrev pub with_entries : Setting → Journal → Setting
with_entries x behind = record x { journal = x.journal ++ behind }

-- Over clauses with bodies each goal has a transcript, where the engine has no entries of its own yet: that over the journal with the
-- run's updates behind it.
abbrev pub EachGoalRuns : Type 0
EachGoalRuns = (x : Setting) (goal : Tree) → HasBodies x.journal → entries_by x.engine (drop x.start x.journal) ≡ [] → x.start ≤ length x.journal
    → (made : List Entry) × ((fronts : List ℕ) × ((r : Report) × Transcript (with_entries x made) goal fronts r))

-- ---- catches have their marks

-- a run comes from one state to another
pub data Reaches (x : Setting) (s : State) : State → Type 0 where
  here : Reaches x s s
  further : {t u : State} → Reaches x s t → move x t ≡ Goes u → Reaches x s u

abbrev pub is_mark : Alternative → Bool
is_mark (CatchMark catcher recovery) = true
is_mark (Clauses used goal rest) = false
is_mark (Right goal cut) = false
is_mark Again = false
is_mark NotMark = false
is_mark (FindallMark l f) = false

-- the mark of a `catch` stands there, and the stack has this height with the mark on it
abbrev pub HasMark : ℕ → List Choice → Type 0
HasMark h stack = (c : Choice) × ((below : List Choice) × ((cut_to h stack ≡ c ∷ below) × (suc (length below) ≡ h) × (is_mark c.what ≡ true)))

-- In each state that a run comes to, the mark of the active `catch` stands where its end says: nothing else is ever reached by a ball.
abbrev pub CatchesHaveMarks : Type 0
CatchesHaveMarks = (x : Setting) (goal : Tree) (fronts : List ℕ) (s : State) (h : ℕ) → Reaches x (beginning x goal fronts) s → active_catch s.goals ≡ Some h → HasMark h s.stack

-- ---- as an engine keeps it

-- the newest first
abbrev pub newest : {A B : Type 0} → (A → B) → List A → List B → List B
newest f [] onto = onto
newest f (x ∷ xs) onto = newest f xs (f x ∷ onto)

pub record EngineLaws : Type 0 where
  -- a cut of a stack that is kept with the newest last
  pub cut : (f : Choice → Choice) (xs : List Choice) (h : ℕ) → cut_to h (newest f xs []) ≡ newest f (take h xs) []
  -- goals that are kept as they were built, under bindings and then under those of a unifier
  pub under : (m b : ℕ → Tree) (ns : List Next) → map (next_under m) (map (next_under b) ns) ≡ map (next_under (λ v. substituted m (b v))) ns
  -- what stands for itself is as it was built
  pub unbound : (b : ℕ → Tree) (from : ℕ) (t : Tree) → ((v : ℕ) → from ≤ v → b v ≡ variable v) → substituted b (renamed from t) ≡ renamed from t
