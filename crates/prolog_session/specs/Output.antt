-- The text of the runs, under an operator table.
use Rattle.std.specs.Prelude.{ℕ, ◌+◌, List, [], ◌∷◌, ◌++◌, Bool, true, false, not, ◌==◌, filter, codes, if◌then◌else◌}
use Rattle.std.specs.List.{list_any}
use Rattle.std.specs.Fmt.{decimal}
use Rattle.prolog_terms.specs.Tree.{Tree, integer, compound, none, more}
use Rattle.prolog_terms.specs.Operators.{Table}
use Rattle.prolog_terms.specs.declared.shown.Shown.{Shown}
use Rattle.wam_machine.specs.declared.run.Event.{Event}
use Rattle.wam_machine.specs.declared.run.Event.TheVariants.{Answer, Wrote}
use Rattle.wam_machine.specs.declared.run.Run.{Run}
use Rattle.wam_machine.specs.declared.run.RunEnd.{RunEnd}
use Rattle.wam_machine.specs.declared.run.RunEnd.TheVariants.{Exhausted, Ball, Spent, Halted, Want}
use Rattle.prolog_writer.specs.Shapes.{is_cell}
use Rattle.prolog_writer.specs.Pieces.{written}
use Rattle.prolog_writer.specs.declared.style.Style.TheVariants.{Quoted}

-- the end of a line
abbrev pub newline : List ℕ
newline = 10 ∷ []

-- ---- answers

-- the elements of a list, up to its end
abbrev pub elements : Tree → List Tree
elements (compound f (more t (more rest none))) = if is_cell f 2 then t ∷ elements rest else []
elements t = []

-- a variable and its value, which stands in a parenthesis where its priority is 700, that of `=`, or more
abbrev pub value_text : Table → Shown → Tree → List ℕ
value_text ops s v = s.name ++ codes " = " ++ written ops Quoted 699 v

-- each further variable and its value, behind a comma
abbrev pub further_text : Table → List Shown → List Tree → List ℕ
further_text ops (s ∷ ss) (v ∷ vs) = codes ", " ++ value_text ops s v ++ further_text ops ss vs
further_text ops ss vs = []

-- the shown variables, each with its value, or `true` where none is shown
abbrev pub values_text : Table → List Shown → List Tree → List ℕ
values_text ops [] vs = codes "true"
values_text ops (s ∷ ss) [] = []
values_text ops (s ∷ ss) (v ∷ vs) = value_text ops s v ++ further_text ops ss vs

-- whether an answer is open: a choice point is left
abbrev pub mark : Bool → List ℕ
mark true = codes " ;"
mark false = codes "."

-- ---- lines

-- whether something is written whose last byte is not that of the end of a line
abbrev pub is_open : List ℕ → Bool
is_open [] = false
is_open (byte ∷ []) = not (byte == 10)
is_open (byte ∷ next ∷ bytes) = is_open (next ∷ bytes)

-- a text with its last line completed
abbrev pub completed : List ℕ → List ℕ
completed text = if is_open text then text ++ newline else text

-- ---- events

-- A text with that of an event behind it: what was written is written, and an answer is a line of its own of the shown variables'
-- values, of which it has the list.
unfoldable pub event_after : Table → List Shown → List ℕ → Event → List ℕ
event_after ops shown text (Answer values left) = completed text ++ values_text ops shown (elements values) ++ mark left ++ newline
event_after ops shown text (Wrote bytes) = text ++ bytes

-- a text with those of these events behind it, in order
unfoldable pub events_after : Table → List Shown → List ℕ → List Event → List ℕ
events_after ops shown text [] = text
events_after ops shown text (event ∷ events) = events_after ops shown (event_after ops shown text event) events

-- the same of what is written alone
abbrev pub written_after : List ℕ → List Event → List ℕ
written_after text [] = text
written_after text (Answer values left ∷ events) = written_after text events
written_after text (Wrote bytes ∷ events) = written_after (text ++ bytes) events

-- ---- ends

-- whether it is an answer that leaves no choice point
abbrev pub closes : Event → Bool
closes (Answer values left) = not left
closes (Wrote bytes) = false

-- whether the last event is such an answer
abbrev pub is_closed : List Event → Bool
is_closed [] = false
is_closed (event ∷ []) = closes event
is_closed (event ∷ events) = is_closed events

-- the text of the end, behind these events; a ball may have any priority
abbrev pub end_text : Table → List Event → RunEnd → List ℕ
end_text ops events Exhausted = if is_closed events then [] else codes "false." ++ newline
end_text ops events (Ball term) = codes "error: " ++ written ops Quoted 1200 term ++ codes "." ++ newline
end_text ops events (Spent n) = codes "stopped after " ++ decimal n ++ codes " steps." ++ newline
end_text ops events (Halted code) = codes "halted with " ++ written ops Quoted 1200 (integer code) ++ codes "." ++ newline
end_text ops events Want = []

-- ---- the load

-- engine 0 is the load's
abbrev pub is_of_load : Run → Bool
is_of_load run = run.engine == 0

abbrev pub is_of_goal : Run → Bool
is_of_goal run = not (is_of_load run)

abbrev pub is_answer : Event → Bool
is_answer (Answer values left) = true
is_answer (Wrote bytes) = false

-- whether a run had an answer and no alternative is left
abbrev pub has_answered : List Event → RunEnd → Bool
has_answered events Exhausted = list_any is_answer events
has_answered events (Ball term) = false
has_answered events (Spent n) = false
has_answered events (Halted code) = false
has_answered events Want = false

-- nothing where a run had an answer and is exhausted, else the line of its read-term and its end
unfoldable pub told_of_load : Table → Run → List ℕ
told_of_load ops run =
    if has_answered run.transcript run.end then [] else codes "% line " ++ decimal run.line ++ codes ": " ++ end_text ops run.transcript run.end

-- A text with that of a run of the load behind it: what it wrote, whose last line is completed, and what is told of it.
unfoldable pub load_run_after : Table → List ℕ → Run → List ℕ
load_run_after ops text run = completed (written_after text run.transcript) ++ told_of_load ops run

-- a text with those of these runs of the load behind it, in order
unfoldable pub load_runs_after : Table → List ℕ → List Run → List ℕ
load_runs_after ops text [] = text
load_runs_after ops text (run ∷ runs) = load_runs_after ops (load_run_after ops text run) runs

-- the text of the load, whose runs are those by engine 0 among these
unfoldable pub load_text : Table → List Run → List ℕ
load_text ops runs = load_runs_after ops [] (filter is_of_load runs)

-- ---- goals

-- A text with that of the run of the goal with this number behind it: a heading, what happened, whose last line is completed, and the
-- end.
unfoldable pub run_after : Table → List ℕ → ℕ → Run → List ℕ
run_after ops text i run =
    completed (events_after ops run.shown (text ++ codes "% goal " ++ decimal i ++ newline) run.transcript) ++ end_text ops run.transcript run.end

-- a text with those of the runs of the goals from this number on behind it, in order
unfoldable pub runs_after : Table → List ℕ → ℕ → List Run → List ℕ
runs_after ops text i [] = text
runs_after ops text i (run ∷ runs) = runs_after ops (run_after ops text i run) (i + 1) runs

-- ---- all

-- the text of all runs: that of the load, and then those of the goals, which are counted from 1
unfoldable pub output_of : Table → List Run → List ℕ
output_of ops runs = runs_after ops (load_text ops runs) 1 (filter is_of_goal runs)
