-- The states of the abstract machine, and what its moves are made of: a step, a front that is taken, a failure, an error, the stack,
-- terms that are made one, and updates of the database.
--
-- The goals that are still to be done stand with what their variables stand for: what is bound further is put into them too. So a
-- state says nothing of how terms and bindings are kept.
use Rattle.std.specs.Prelude.{ℕ, suc, ◌+◌, ◌-◌, Bool, true, false, ◌==◌, ◌&&◌, ◌||◌, List, [], ◌∷◌, ◌++◌, length, take, drop, nat_le, nat_lt, if◌then◌else◌, Option, Some, None, codes, filter_map, map, slice_get}
use Rattle.std.specs.Option.{option_map_or}
use Rattle.prolog_terms.specs.Tree.{Tree}
use Rattle.prolog_terms.specs.Operators.{Table}
use Rattle.prolog_terms.specs.Substitutions.{substituted, numbered}
use Rattle.prolog_terms.specs.Faults.{fault_tree}
use Rattle.prolog_terms.specs.declared.entry.Clause.{Clause}
use Rattle.prolog_terms.specs.declared.entry.Entry.{Entry}
use Rattle.prolog_terms.specs.declared.entry.Indicator.{Indicator}
use Rattle.prolog_terms.specs.declared.entry.What.{What}
use Rattle.prolog_terms.specs.declared.entry.What.TheVariants.{Erase}
use Rattle.prolog_terms.specs.declared.fault.Fault.{Fault}
use Rattle.prolog_terms.specs.declared.fault.Fault.TheVariants.{OfType, Resource}
use Rattle.journals.specs.Journal.{Journal, is_erased}
use Rattle.journal_base.specs.Space.{used, need}
use Rattle.journal_base.specs.Goals.{Goal}
use Rattle.term_unifier.specs.Unifier.{unifier}
use Rattle.wam_machine.specs.declared.run.Event.{Event}
use Rattle.wam_machine.specs.declared.run.RunEnd.{RunEnd}
use Rattle.wam_machine.specs.declared.run.RunEnd.TheVariants.{Spent}

-- ---- states

-- what is still to be done
pub data Next : Type 0 where
  -- a goal, and the height of the stack to which its cut goes back
  Do : (goal : Tree) (cut : ℕ) → Next
  -- the end of a condition, and the height of the stack before it
  ConditionEnd : (height : ℕ) → Next
  -- the end of the goal of a `\+`, and the height of the stack before it
  NotEnd : (height : ℕ) → Next
  -- the end of the goal of a `catch`, and the height of the stack with the mark of the `catch` on it
  CatchEnd : (height : ℕ) → Next
  -- the end of the goal of a `findall`: its template, and the height of the stack with the mark of the `findall` on it
  FindallEnd : (template : Tree) (height : ℕ) → Next

-- what becomes of a clause whose head and body were made one with a call's: it is shown, or erased
pub data Purpose : Type 0 where
  ToShow : Purpose
  ToErase : Purpose

-- what a call does with the clauses that it tries
pub data Use : Type 0 where
  -- the clause's head and the goal are made one, and the goals of its body come first
  Enter : Use
  -- the clause's head and the goal are made one, and its body and this term
  Match : (purpose : Purpose) (body : Tree) → Use

-- a clause with its name
pub record Candidate : Type 0 where
  pub name : ℕ
  pub clause : Clause

pub data Alternative : Type 0 where
  -- the clauses that are left of a call, and what it does with them
  Clauses : (used : Use) (goal : Tree) (rest : List Candidate) → Alternative
  -- the right side of a `;`, or an else
  Right : (goal : Tree) (cut : ℕ) → Alternative
  -- a further turn of `repeat`
  Again : Alternative
  -- The mark of a `\+`, which is no alternative: a failure that reaches it goes on behind the `\+`.
  NotMark : Alternative
  -- The mark of a `catch`, which is no alternative either: a failure that reaches it goes further.
  CatchMark : (catcher recovery : Tree) → Alternative
  -- The mark of a `findall`, with the copies of its template that were found so far, each with variables numbered from 0: a failure that
  -- reaches it goes on behind the `findall`, whose list is made one with theirs.
  FindallMark : (list : Tree) (found : List Tree) → Alternative

-- an alternative, or a mark, with the goals that come after it and what each variable stood for at its moment
pub record Choice : Type 0 where
  pub what : Alternative
  pub goals : List Next
  pub bindings : ℕ → Tree

pub data Mode : Type 0 where
  Going : Mode
  Failing : Mode
  -- a ball, its variables numbered from 0
  Raising : (ball : Tree) → Mode

-- a call's moment: the front that was taken before, the front at which it looked, and what it looked for
pub record Look : Type 0 where
  pub before : ℕ
  pub front : ℕ
  pub call : Goal

-- what was done at the database, in order: a look, or an update that was made
pub data Deed : Type 0 where
  Looked : (look : Look) → Deed
  Updated : (entry : Entry) → Deed

abbrev pub look_in : Deed → Option Look
look_in (Looked look) = Some look
look_in (Updated entry) = None

abbrev pub entry_in : Deed → Option Entry
entry_in (Looked look) = None
entry_in (Updated entry) = Some entry

-- the looks among what was done
abbrev pub looks_in : List Deed → List Look
looks_in deeds = filter_map look_in deeds

-- the updates that were made
abbrev pub made_in : List Deed → List Entry
made_in deeds = filter_map entry_in deeds

pub record State : Type 0 where
  pub mode : Mode
  -- what is still to be done, first things first
  pub goals : List Next
  -- the alternatives and marks, the newest first
  pub stack : List Choice
  -- what each variable stands for
  pub bindings : ℕ → Tree
  -- the number of the next variable
  pub fresh : ℕ
  pub steps : ℕ
  -- what happened so far, in order
  pub events : List Event
  -- what was done at the database
  pub deeds : List Deed
  -- how many clauses were tried
  pub tried : ℕ
  -- the front that was taken last, and those still to be taken
  pub front : ℕ
  pub fronts : List ℕ

-- what a run stands on: the engine that makes it, the journal at its end and how many words and updates it may have, the front at its
-- beginning, its budget of steps, the term of which each answer gives the value, and the operators under which terms are written
pub record Setting : Type 0 where
  pub engine : ℕ
  pub journal : Journal
  pub words : ℕ
  pub updates : ℕ
  pub start : ℕ
  pub budget : ℕ
  pub shown : Tree
  -- the operators under which its goals write
  pub ops : Table

-- what a run gives
pub record Report : Type 0 where
  pub events : List Event
  pub deeds : List Deed
  pub tried : ℕ
  pub steps : ℕ
  pub end : RunEnd

-- a move goes on, ends the run, or can't be made with these fronts and this journal
pub data Outcome : Type 0 where
  Goes : State → Outcome
  Ends : Report → Outcome
  Unfit : Outcome

-- ---- moves

abbrev pub no_more : List ℕ → Bool
no_more [] = true
no_more (f ∷ fs) = false

-- the run is over, and has taken each front
abbrev pub over : Setting → State → RunEnd → Outcome
over x s end = if no_more s.fronts then Ends (record { events = s.events; deeds = s.deeds; tried = s.tried; steps = s.steps; end = end }) else Unfit

-- a step is done, where the budget leaves one
abbrev pub stepping : Setting → State → (State → Outcome) → Outcome
stepping x s then_ = if s.steps == x.budget then over x s (Spent s.steps) else then_ (record s { steps = suc s.steps })

-- the next front is taken: it is no lower than the last, and no higher than the journal is long
abbrev pub taking : Setting → State → (Journal → State → Outcome) → Outcome
taking x s with =
    elim (s.fronts) [
      | [] ↦ Unfit
      | f ∷ fs ↦ if nat_le s.front f && nat_le f (length x.journal) then with (take f x.journal) (record s { front = f; fronts = fs }) else Unfit
    ]

abbrev pub fails : State → Outcome
fails s = Goes (record s { mode = Failing })

-- an error, at the name and arity of the call that raises it; its culprit has variables of its own
abbrev pub raises : Fault → Indicator → State → Outcome
raises fault at s = Goes (record s { mode = Raising (fault_tree fault at) })

abbrev pub not_callable : Tree → Fault
not_callable goal = OfType (codes "callable") (numbered goal)

-- these come first
abbrev pub onwards : List Next → State → Outcome
onwards new s = Goes (record s { goals = new ++ s.goals })

-- ---- the stack

abbrev pub height : State → ℕ
height s = length s.stack

-- what is above a height is taken away
abbrev pub cut_to : ℕ → List Choice → List Choice
cut_to h stack = drop (length stack - h) stack

abbrev pub cut_back : ℕ → State → State
cut_back h s = record s { stack = cut_to h s.stack }

abbrev pub pushed : Alternative → State → State
pushed a s = record s { stack = record { what = a; goals = s.goals; bindings = s.bindings } ∷ s.stack }

-- ---- terms that are made one

abbrev pub next_under : (ℕ → Tree) → Next → Next
next_under m (Do goal cut) = Do (substituted m goal) cut
next_under m (ConditionEnd h) = ConditionEnd h
next_under m (NotEnd h) = NotEnd h
next_under m (CatchEnd h) = CatchEnd h
next_under m (FindallEnd t h) = FindallEnd (substituted m t) h

abbrev pub bound_further : (ℕ → Tree) → State → State
bound_further m s = record s { goals = map (next_under m) s.goals; bindings = λ v. substituted m (s.bindings v) }

-- on with these goals where there is a unifier, and else a failure that binds nothing
abbrev pub solving : List Next → State → Option (ℕ → Tree) → Outcome
solving new s None = fails s
solving new s (Some m) = Goes (bound_further m (record s { goals = new ++ s.goals }))

abbrev pub equating : Tree → Tree → List Next → State → Outcome
equating a b new s = solving new s (unifier a b)

-- ---- updates of the database

-- an update by the run's engine, among what was done
abbrev pub updated : Setting → What → State → State
updated x what s = record s { deeds = s.deeds ++ Updated (record { by = x.engine; what = what }) ∷ [] }

-- the last entry of a journal is the engine's
abbrev pub ends_with_own : ℕ → Journal → Bool
ends_with_own engine J = option_map_or (λ e. e.by == engine) (slice_get J (length J - 1)) false

-- An update that was asked for is done where its front is past the one before and the last entry that is seen is the engine's: that is its
-- entry.
abbrev pub is_done : Setting → ℕ → Journal → Bool
is_done x before seen = nat_lt before (length seen) && ends_with_own x.engine seen

-- in what is seen there is no room for an update
abbrev pub is_full : Setting → Journal → What → Bool
is_full x seen what = nat_lt x.words (used seen + need what) || x.updates == length seen

-- an update is asked for at the next front: what follows where it is done, and where it isn't
abbrev pub asking : Setting → What → State → (Journal → State → Outcome) → (Journal → State → Outcome) → Outcome
asking x what s done refused = taking x s (λ seen t. if is_done x s.front seen then done seen (updated x what t) else refused seen t)

abbrev pub no_room : Fault
no_room = Resource (codes "database")

-- an update that isn't done has no room
abbrev pub refusing : Setting → Indicator → What → Journal → State → Outcome
refusing x at what seen s = if is_full x seen what then raises no_room at s else Unfit

-- A clause is to be erased, at the next front: what follows where that is done, and where an entry has erased it before.
abbrev pub erasing : Setting → Indicator → ℕ → State → (State → Outcome) → (State → Outcome) → Outcome
erasing x at k s done gone =
    asking x (Erase k) s (λ seen t. done t) (λ seen t. if is_erased seen k then gone t else refusing x at (Erase k) seen t)
