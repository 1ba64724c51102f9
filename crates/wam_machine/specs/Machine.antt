-- The abstract machine (docs/LANGUAGE.md, "Goals and steps"): one move, a whole run, and the transcript of a goal over a journal.
use Rattle.std.specs.Prelude.{◌≡◌, ℕ, suc, pos, ◌+◌, ◌-◌, ◌≤◌, ◌⊎◌, Bool, true, false, ◌==◌, List, [], ◌∷◌, ◌++◌, length, drop, nat_lt, if◌then◌else◌, Option, Some, None, codes}
use Rattle.std.specs.List.{list_any}
use Rattle.prolog_terms.specs.Tree.{Tree, Trees, variable, integer, atom, compound, none, more, count}
use Rattle.prolog_terms.specs.Operators.{Table}
use Rattle.prolog_terms.specs.Substitutions.{substituted, numbered, renamed, beyond}
use Rattle.prolog_terms.specs.Clauses.{call_term, body_of}
use Rattle.prolog_terms.specs.Faults.{two}
use Rattle.prolog_terms.specs.declared.entry.Indicator.{Indicator}
use Rattle.prolog_terms.specs.declared.fault.Fault.{Fault}
use Rattle.prolog_terms.specs.declared.fault.Fault.TheVariants.{Instantiation, OfType, Representation}
use Rattle.prolog_terms.specs.declared.shown.Shown.{Shown}
use Rattle.journal_base.specs.View.{entries_by}
use Rattle.term_unifier.specs.Unifier.{unifier}
use Rattle.term_builtins.specs.Meanings.{Meaning, Holds, Equates, Writes, Puts, Raises, meaning, list_tree}
use Rattle.term_builtins.specs.Table.{builtins, indicator}
use Rattle.prolog_writer.specs.Pieces.{written}
use Rattle.term_builtins.specs.Answers.{row_at}
use Rattle.wam_machine.specs.Control.{Control, True, Fail, Cut, Repeat, Both, Either, IfElse, If, Not, Call, Once, Catch, Findall, Throw, Halt, HaltWith, Database, Builtin, User, control_of, first_body, with_added}
use Rattle.wam_machine.specs.declared.run.Event.{Event}
use Rattle.wam_machine.specs.declared.run.Event.TheVariants.{Answer, Wrote}
use Rattle.wam_machine.specs.declared.run.RunEnd.TheVariants.{Exhausted, Ball, Halted}
use Rattle.wam_machine.specs.States.{Next, Do, ConditionEnd, NotEnd, CatchEnd, FindallEnd, Alternative, Clauses, Right, Again, NotMark, CatchMark, FindallMark, Choice, Going, Failing, Raising, made_in, State, Setting, Report, Outcome, Goes, Ends, Unfit, over, stepping, fails, raises, not_callable, onwards, height, cut_back, pushed, bound_further, equating}
use Rattle.wam_machine.specs.Procedures.{trying, calling, accessing}

-- ---- goals that are made bodies

-- the body comes first, with a cut that goes no further back than here
abbrev pub running : Tree → Indicator → State → Option Tree → Outcome
running goal at s None = raises (not_callable goal) at s
running goal at s (Some body) = onwards (Do body (height s) ∷ []) s

-- `call` with so many arguments added
abbrev pub call_with : Trees → Indicator
call_with added = record { name = codes "call"; arity = suc (count added) }

abbrev pub calling_added : Tree → Trees → State → Outcome
calling_added (variable n) added s = raises Instantiation (call_with added) s
calling_added (integer z) added s = raises (not_callable (integer z)) (call_with added) s
calling_added (atom a) added s = running (with_added (atom a) added) (call_with added) s (body_of (with_added (atom a) added))
calling_added (compound f ts) added s =
    if nat_lt 255 (count ts + count added) then raises (Representation (codes "max_arity")) (call_with added) s
    else running (with_added (compound f ts) added) (call_with added) s (body_of (with_added (compound f ts) added))

-- the goal of a `\+` as a body, above a mark: behind the mark it goes on where the body has no answer
abbrev pub denying : Tree → State → Option Tree → Outcome
denying goal s None = raises (not_callable goal) (record { name = codes "\\+"; arity = 1 }) s
denying goal s (Some body) = onwards (Do body (suc (height s)) ∷ NotEnd (height s) ∷ []) (pushed NotMark s)

-- ---- balls and the end of a run

-- the goal of a `catch` as a body, above a mark
abbrev pub catching : Tree → Tree → Tree → State → Option Tree → Outcome
catching goal catcher recovery s None = raises (not_callable goal) (record { name = codes "catch"; arity = 3 }) s
catching goal catcher recovery s (Some body) = onwards (Do body (suc (height s)) ∷ CatchEnd (suc (height s)) ∷ []) (pushed (CatchMark catcher recovery) s)

-- the goal of a `findall` as a body, above a mark with nothing found yet
abbrev pub gathering : Tree → Tree → Tree → State → Option Tree → Outcome
gathering template goal list s None = raises (not_callable goal) (record { name = codes "findall"; arity = 3 }) s
gathering template goal list s (Some body) = onwards (Do body (suc (height s)) ∷ FindallEnd template (suc (height s)) ∷ []) (pushed (FindallMark list []) s)

-- one more copy is found
abbrev pub with_found : Tree → Alternative → Alternative
with_found copy (FindallMark list found) = FindallMark list (found ++ copy ∷ [])
with_found copy (Clauses used goal rest) = Clauses used goal rest
with_found copy (Right goal cut) = Right goal cut
with_found copy Again = Again
with_found copy NotMark = NotMark
with_found copy (CatchMark catcher recovery) = CatchMark catcher recovery

-- the same at the mark with which the stack has this height
abbrev pub found_at : ℕ → Tree → List Choice → List Choice
found_at h copy [] = []
found_at h copy (c ∷ below) = if suc (length below) == h then record c { what = with_found copy c.what } ∷ below else c ∷ found_at h copy below

-- the copies with new variables, from a number on
abbrev pub new_copies : ℕ → List Tree → List Tree
new_copies from [] = []
new_copies from (copy ∷ copies) = renamed from copy ∷ new_copies (from + beyond copy) copies

-- the number of the variable behind theirs
abbrev pub behind_copies : ℕ → List Tree → ℕ
behind_copies from [] = from
behind_copies from (copy ∷ copies) = behind_copies (from + beyond copy) copies

-- the list is made one with that of the copies
abbrev pub gathered : Tree → List Tree → State → Outcome
gathered list found s = equating list (list_tree (new_copies s.fresh found)) [] (record s { fresh = behind_copies s.fresh found })

abbrev pub raise_it : Tree → State → Outcome
raise_it ball s = Goes (record s { mode = Raising ball })

-- a copy of the ball is raised, its variables numbered from 0
abbrev pub throwing : Tree → State → Outcome
throwing (variable n) s = raises Instantiation (record { name = codes "throw"; arity = 1 }) s
throwing (integer z) s = raise_it (numbered (integer z)) s
throwing (atom a) s = raise_it (numbered (atom a)) s
throwing (compound f ts) s = raise_it (numbered (compound f ts)) s

abbrev pub halt_with : Indicator
halt_with = record { name = codes "halt"; arity = 1 }

abbrev pub not_integer : Tree → Fault
not_integer t = OfType (codes "integer") (numbered t)

-- the run is ended with this number
abbrev pub halting : Setting → Tree → State → Outcome
halting x (variable n) s = raises Instantiation halt_with s
halting x (integer z) s = over x s (Halted z)
halting x (atom a) s = raises (not_integer (atom a)) halt_with s
halting x (compound f ts) s = raises (not_integer (compound f ts)) halt_with s

-- ---- builtins on terms

-- these bytes are written, which is an event
abbrev pub writing : List ℕ → State → Outcome
writing bytes s = Goes (record s { events = s.events ++ Wrote bytes ∷ [] })

-- what a builtin's call comes to is done, under these operators; its errors stand at its own name and arity
abbrev pub coming_to : Table → Indicator → State → Meaning → Outcome
coming_to ops at s (Holds true) = Goes s
coming_to ops at s (Holds false) = fails s
coming_to ops at s (Equates added a b) = equating a b [] (record s { fresh = s.fresh + added })
coming_to ops at s (Writes style t) = writing (written ops style 1200 t) s
coming_to ops at s (Puts bytes) = writing bytes s
coming_to ops at s (Raises fault) = raises fault at s

-- the builtin at a place of the table
unfoldable pub calling_builtin : Table → ℕ → Trees → State → Outcome
calling_builtin ops row args s = coming_to ops (indicator (row_at builtins row)) s (meaning (row_at builtins row).what s.fresh args)

-- ---- goals

abbrev pub repeating : State → Outcome
repeating s = Goes (pushed Again s)

-- a goal is done within its step; its cut goes back to a height
abbrev pub performing : Setting → Tree → ℕ → Control → State → Outcome
performing x goal cut True s = Goes s
performing x goal cut Fail s = fails s
performing x goal cut Cut s = Goes (cut_back cut s)
performing x goal cut Repeat s = repeating s
performing x goal cut (Both a b) s = onwards (Do a cut ∷ Do b cut ∷ []) s
performing x goal cut (Either a b) s = onwards (Do a cut ∷ []) (pushed (Right b cut) s)
-- the condition's own cut leaves the else
performing x goal cut (IfElse c t e) s = onwards (Do c (suc (height s)) ∷ ConditionEnd (height s) ∷ Do t cut ∷ []) (pushed (Right e cut) s)
performing x goal cut (If c t) s = onwards (Do c (height s) ∷ ConditionEnd (height s) ∷ Do t cut ∷ []) s
performing x goal cut (Not g) s = denying g s (body_of g)
performing x goal cut (Call g added) s = calling_added g added s
performing x goal cut (Once g) s = onwards (Do (two (codes "->") (call_term g) (atom (codes "true"))) cut ∷ []) s
performing x goal cut (Catch g c r) s = catching g c r s (body_of g)
performing x goal cut (Findall t g l) s = gathering t g l s (body_of g)
performing x goal cut (Throw b) s = throwing b s
performing x goal cut Halt s = over x s (Halted (pos 0))
performing x goal cut (HaltWith n) s = halting x n s
performing x goal cut (Database access) s = accessing x access s
performing x goal cut (Builtin row args) s = calling_builtin x.ops row args s
performing x goal cut (User i) s = calling x s goal i

-- a conjunction takes no step, and every other goal takes one
abbrev pub doing : Setting → Tree → ℕ → State → Control → Outcome
doing x goal cut s (Both a b) = performing x goal cut (Both a b) s
doing x goal cut s c = stepping x s (performing x goal cut c)

abbrev pub goal_move : Setting → Tree → ℕ → State → Option Control → Outcome
goal_move x goal cut s None = Unfit
goal_move x goal cut s (Some c) = doing x goal cut s c

abbrev pub is_alternative : Alternative → Bool
is_alternative (Clauses used goal rest) = true
is_alternative (Right goal cut) = true
is_alternative Again = true
is_alternative NotMark = false
is_alternative (CatchMark c r) = false
is_alternative (FindallMark l f) = false

-- the value of the shown term, with its variables numbered from 0 by first occurrence; open where an alternative is left
abbrev pub answer : Setting → State → Event
answer x s = Answer (numbered (substituted s.bindings x.shown)) (list_any (λ c. is_alternative c.what) s.stack)

-- a `catch` is left: its mark goes where it is the newest, and else stays below the alternatives that are left
abbrev pub leaving_catch : ℕ → State → State
leaving_catch h s = if height s == h then cut_back (h - 1) s else s

-- no goal is left: an answer, and on as after a failure; else the first thing to be done
abbrev pub going : Setting → State → List Next → Outcome
going x s [] = fails (record s { events = s.events ++ answer x s ∷ [] })
going x s (Do goal cut ∷ rest) = goal_move x goal cut (record s { goals = rest }) (control_of goal)
-- the condition has its first answer: what is left of it is taken away, and its else
going x s (ConditionEnd h ∷ rest) = Goes (cut_back h (record s { goals = rest }))
-- the goal of a `\+` has an answer: its mark is taken away too
going x s (NotEnd h ∷ rest) = fails (cut_back h (record s { goals = rest }))
going x s (CatchEnd h ∷ rest) = Goes (leaving_catch h (record s { goals = rest }))
-- the goal of a `findall` has an answer: a copy of the template is found, and on as after a failure
going x s (FindallEnd t h ∷ rest) = fails (record s { goals = rest; stack = found_at h (numbered t) s.stack })

-- an alternative is taken, by a step; a mark is passed without one
abbrev pub taken : Setting → State → Alternative → Outcome
taken x s (Clauses used goal rest) = stepping x s (trying x used goal rest)
taken x s (Right goal cut) = stepping x s (onwards (Do goal cut ∷ []))
taken x s Again = stepping x s repeating
taken x s NotMark = Goes s
taken x s (CatchMark c r) = fails s
taken x s (FindallMark l f) = gathered l f s

-- back in the state of a choice's moment, but for what was counted
abbrev pub back_to : State → Choice → List Choice → State
back_to s c below = record s { mode = Going; goals = c.goals; bindings = c.bindings; stack = below }

-- the newest choice is taken off
abbrev pub failing : Setting → State → List Choice → Outcome
failing x s [] = over x s Exhausted
failing x s (c ∷ below) = taken x (back_to s c below) c.what

-- The innermost `catch` that is active, which is one whose end is still to come: the height of the stack with its mark on it.
abbrev pub active_catch : List Next → Option ℕ
active_catch [] = None
active_catch (Do goal cut ∷ rest) = active_catch rest
active_catch (ConditionEnd h ∷ rest) = active_catch rest
active_catch (NotEnd h ∷ rest) = active_catch rest
active_catch (CatchEnd h ∷ rest) = Some h
active_catch (FindallEnd t h ∷ rest) = active_catch rest

-- the recovery is called where the ball and the catcher are made one, and else the ball goes further
abbrev pub recovering : Tree → Tree → State → Option (ℕ → Tree) → Outcome
recovering ball recovery s None = raise_it ball s
recovering ball recovery s (Some m) = Goes (bound_further m (record s { goals = Do (call_term recovery) (height s) ∷ s.goals }))

-- a ball has variables of its own, which are new ones
abbrev pub catching_ball : Tree → Tree → Tree → State → Outcome
catching_ball ball catcher recovery s = recovering ball recovery (record s { fresh = s.fresh + beyond ball }) (unifier (renamed s.fresh ball) catcher)

-- The newest choice is the mark of the active `catch`: its moment is gone back to, so all bindings made since are undone. Nothing else
-- ever stands there (`CatchesHaveMarks` of `Laws.antt`); it would be taken away.
abbrev pub reaching : Tree → State → List Choice → Choice → Alternative → Outcome
reaching ball s below c (CatchMark catcher recovery) = catching_ball ball catcher recovery (back_to s c below)
reaching ball s below c (Clauses used goal rest) = Goes (record s { stack = below })
reaching ball s below c (Right goal cut) = Goes (record s { stack = below })
reaching ball s below c Again = Goes (record s { stack = below })
reaching ball s below c NotMark = Goes (record s { stack = below })
reaching ball s below c (FindallMark l f) = Goes (record s { stack = below })

abbrev pub reached : Setting → Tree → State → List Choice → Outcome
reached x ball s [] = over x s (Ball ball)
reached x ball s (c ∷ below) = reaching ball s below c c.what

-- What is above the mark of the active `catch` is taken away, and then its mark is reached. A ball that nothing catches ends the run.
abbrev pub caught : Setting → Tree → State → Option ℕ → Outcome
caught x ball s None = over x s (Ball ball)
caught x ball s (Some h) = if nat_lt h (height s) then Goes (cut_back h s) else reached x ball s s.stack

abbrev pub raising : Setting → State → Tree → Outcome
raising x s ball = caught x ball s (active_catch s.goals)

-- one move
abbrev pub move : Setting → State → Outcome
move x s = elim (s.mode) [ Going ↦ going x s s.goals | Failing ↦ failing x s s.stack | Raising ball ↦ raising x s ball ]

-- ---- runs

-- a run from a state, by one move after another
pub data Runs (x : Setting) : State → Report → Type 0 where
  ends : {s : State} {r : Report} → move x s ≡ Ends r → Runs x s r
  goes : {s t : State} {r : Report} → move x s ≡ Goes t → Runs x t r → Runs x s r

-- each variable stands for itself, and new ones have greater numbers than the goal's
abbrev pub beginning : Setting → Tree → List ℕ → State
beginning x goal fronts = record {
  mode = Going;
  goals = Do (first_body goal) 0 ∷ [];
  stack = [];
  bindings = variable;
  fresh = beyond goal;
  steps = 0;
  events = [];
  deeds = [];
  tried = 0;
  front = x.start;
  fronts = fronts;
}

-- The transcript of a goal over a journal, at these fronts: the entries of the engine since the run's beginning are the updates that the
-- run made, each once and in order.
pub record Transcript (x : Setting) (goal : Tree) (fronts : List ℕ) (report : Report) : Type 0 where
  pub runs : Runs x (beginning x goal fronts) report
  pub own : entries_by x.engine (drop x.start x.journal) ≡ made_in report.deeds

-- the shown variables, as the list of which each answer gives the value
abbrev pub shown_list : List Shown → Tree
shown_list [] = atom (codes "[]")
shown_list (s ∷ ss) = compound (codes ".") (more (variable s.var) (more (shown_list ss) none))

-- a goal, a journal and fronts have one transcript at most
abbrev pub TranscriptIsOne : Type 0
TranscriptIsOne = (x : Setting) (goal : Tree) (fronts : List ℕ) (r q : Report) → Transcript x goal fronts r → Transcript x goal fronts q → r ≡ q

-- no run takes more steps than its budget
abbrev pub StepsAreWithin : Type 0
StepsAreWithin = (x : Setting) (goal : Tree) (fronts : List ℕ) (r : Report) → Transcript x goal fronts r → r.steps ≤ x.budget

-- a run from a state comes to a move that doesn't fit the fronts or the journal
pub data Misfits (x : Setting) : State → Type 0 where
  unfit : {s : State} → move x s ≡ Unfit → Misfits x s
  later : {s t : State} → move x s ≡ Goes t → Misfits x t → Misfits x s

-- a goal's run over a journal and fronts comes to an end, unless it comes to a move that doesn't fit them
abbrev pub HasTranscript : Type 0
HasTranscript = (x : Setting) (goal : Tree) (fronts : List ℕ) → ((r : Report) × Runs x (beginning x goal fronts) r) ⊎ Misfits x (beginning x goal fronts)
