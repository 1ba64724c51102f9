-- The runs of a command, and the status that they give.
use Rattle.std.specs.Prelude.{◌≡◌, ◌≢◌, ℕ, ◌≤◌, Bool, true, false, IsTrue, List, [], ◌∷◌, ◌++◌, length, All, Option, Some, None, if◌then◌else◌}
use Rattle.std.specs.List.{list_any}
use Rattle.prolog_terms.specs.Operators.{Table}
use Rattle.prolog_terms.specs.declared.entry.Entry.{Entry}
use Rattle.journals.specs.Journal.{Journal}
use Rattle.journal_base.specs.declared.sizes.Sizes.{Sizes}
use Rattle.wam_machine.specs.Machine.{shown_list}
use Rattle.wam_machine.specs.Runs.{IsTranscribed}
use Rattle.wam_machine.specs.declared.run.Goal.{Goal}
use Rattle.wam_machine.specs.declared.run.Run.{Run}
use Rattle.wam_machine.specs.declared.run.RunEnd.{RunEnd}
use Rattle.wam_machine.specs.declared.run.RunEnd.TheVariants.{Exhausted, Ball, Spent, Halted, Want}
use Rattle.prolog_session.specs.declared.words.Command.{Command}

-- A run of the goal by this engine over the journal, behind which it made these entries, in a base of these sizes and within the budget,
-- with this line, for which memory sufficed; it writes under these operators. All entries behind the journal are the run's own. Each of
-- its looks is a scan, since the base has no indexes.
pub record IsRunBy (sizes : Sizes) (ops : Table) (engine line : ℕ) (goal : Goal) (J : Journal) (made : List Entry) (budget : ℕ) (run : Run) : Type 0 where
  pub engine_is : run.engine ≡ engine
  pub line_is : run.line ≡ line
  pub shown : run.shown ≡ goal.shown
  pub within : run.steps ≤ budget
  pub ended : run.end ≢ Want
  pub own : All (λ e. e.by ≡ engine) made
  pub transcribed : IsTranscribed (record { engine = engine; journal = J ++ made; words = sizes.words; updates = sizes.updates; start = length J; budget = budget; shown = shown_list goal.shown; ops = ops }) (0 ∷ []) goal.term run

-- these are one run, of a goal of the command line by engine 1
pub record IsOneRun (sizes : Sizes) (ops : Table) (goal : Goal) (J : Journal) (made : List Entry) (budget : ℕ) (runs : List Run) : Type 0 where
  pub run : Run
  pub only : runs ≡ run ∷ []
  pub by : IsRunBy sizes ops 1 0 goal J made budget run

-- the runs of a command over a journal and under an operator table, and the entries that they made: that of its goal within its budget,
-- if it has one
abbrev pub AreRunsWithin : Sizes → Table → ℕ → Option Goal → Journal → List Entry → List Run → Type 0
AreRunsWithin sizes ops budget None J made runs = (runs ≡ []) × (made ≡ [])
AreRunsWithin sizes ops budget (Some goal) J made runs = IsOneRun sizes ops goal J made budget runs

abbrev pub AreRuns : Sizes → Table → Command → Journal → List Entry → List Run → Type 0
AreRuns sizes ops command = AreRunsWithin sizes ops command.steps command.goal

-- First these runs of a load, and then those of a command over its journal, under these operators; this is the journal behind them.
pub record AreRunsBehind (sizes : Sizes) (ops : Table) (loads : List Run) (loaded : Journal) (command : Command) (J : Journal) (runs : List Run) : Type 0 where
  pub goals : List Run
  pub made : List Entry
  pub in_order : runs ≡ loads ++ goals
  pub journal : J ≡ loaded ++ made
  pub of_command : AreRuns sizes ops command loaded made goals

abbrev pub is_ball : RunEnd → Bool
is_ball Exhausted = false
is_ball (Ball ball) = true
is_ball (Spent steps) = false
is_ball (Halted code) = false
is_ball Want = false

abbrev pub is_spent : RunEnd → Bool
is_spent Exhausted = false
is_spent (Ball ball) = false
is_spent (Spent steps) = true
is_spent (Halted code) = false
is_spent Want = false

abbrev pub ends_in_ball : Run → Bool
ends_in_ball run = is_ball run.end

abbrev pub ends_spent : Run → Bool
ends_spent run = is_spent run.end

-- 1 where some run ends in a ball, else 7 where some run has spent its budget, else 0
unfoldable pub status_of : List Run → ℕ
status_of runs = if list_any ends_in_ball runs then 1 else if list_any ends_spent runs then 7 else 0

abbrev pub EndsInBall : Run → Type 0
EndsInBall run = IsTrue (ends_in_ball run)

abbrev pub EndsSpent : Run → Type 0
EndsSpent run = IsTrue (ends_spent run)
