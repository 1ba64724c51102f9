-- What each status of the program means.
use Rattle.std.specs.Prelude.{◌≡◌, ◌≢◌, ◌⊎◌, ℕ, ◌<◌, ◌≤◌, Bool, true, false, nat_lt, List, ◌++◌, length, Option, Some, None, IsSome, IsNone}
use Rattle.std.specs.Io.KnownBytes.{Appends, Consumes, IsAtEnd}
use Rattle.prolog_terms.specs.Operators.{Table}
use Rattle.journals.specs.Journal.{Journal}
use Rattle.journal_base.specs.Legal.{Legal}
use Rattle.journal_base.specs.declared.sizes.Sizes.{Sizes}
use Rattle.wam_machine.specs.declared.run.Run.{Run}
use Rattle.prolog_session.specs.WholeText.{max_text}
use Rattle.prolog_session.specs.Sinks.{AppendsPrefix}
use Rattle.prolog_session.specs.declared.words.Command.{Command}
use Rattle.prolog_session.specs.declared.refusal.Refusal.{Refusal}
use Rattle.prolog_session.specs.Load.{IsLoadOf, operators_of, refusal_of}
use Rattle.prolog_session.specs.Errors.{bad_words_text, source_text, too_long_text, refusal_text}
use Rattle.prolog_session.specs.Runs.{AreRunsBehind, status_of}
use Rattle.prolog_session.specs.Output.{load_text, output_of}

-- ---- statuses

-- the goal has run, and the sink took the whole text
abbrev pub IsRun : ℕ → Type 0
IsRun status = (status ≡ 0) ⊎ ((status ≡ 1) ⊎ (status ≡ 7))

-- the goal has run
abbrev pub HasRuns : ℕ → Type 0
HasRuns status = IsRun status ⊎ (status ≡ 5)

-- the journal and the runs are the load's, or begin with them
abbrev pub IsLoaded : ℕ → Type 0
IsLoaded status = HasRuns status ⊎ (status ≡ 3)

-- neither the journal nor the runs are told
abbrev pub IsEmpty : ℕ → Type 0
IsEmpty status = (status ≡ 2) ⊎ ((status ≡ 4) ⊎ ((status ≡ 6) ⊎ (status ≡ 8)))

-- every status there is
abbrev pub IsStatus : ℕ → Type 0
IsStatus status = IsLoaded status ⊎ IsEmpty status

-- by whether the text is too long, by its refusal and by the runs
abbrev pub expected_of : Bool → Option Refusal → List Run → ℕ
expected_of true refused runs = 8
expected_of false (Some refusal) runs = 3
expected_of false None runs = status_of runs

-- the status for this command and text, where neither source nor sink fails and memory suffices
abbrev pub expected : Option Command → List ℕ → List Run → ℕ
expected None text runs = 2
expected (Some c) text runs = expected_of (nat_lt max_text (length text)) (refusal_of text) runs

-- the status is the expected one, unless memory was wanted, the source failed or the sink failed
abbrev pub Ends : ℕ → Type 0 → Type 0 → ℕ → Type 0
Ends expected source sink status = (status ≡ expected) ⊎ ((status ≡ 6)
    ⊎ (((status ≡ 4) × (expected ≢ 2) × source) ⊎ ((status ≡ 5) × IsRun expected × sink)))

-- ---- what was read

-- this text, of a length that is taken, was all that was left
pub record Took (old new : Option (List ℕ)) (text : List ℕ) : Type 0 where
  pub fits : length text ≤ max_text
  pub took : Consumes old new text
  pub all : IsAtEnd new

-- more was read than a text may have
pub record IsTooLong (old new : Option (List ℕ)) : Type 0 where
  pub bytes : List ℕ
  pub long : max_text < length bytes
  pub took : Consumes old new bytes

-- The journal and the runs are those of a load of a text that was taken whole, told or not, each goal of it within the budget; and so is
-- the refusal.
pub record HasLoaded (sizes : Sizes) (budget : ℕ) (old new : Option (List ℕ)) (journal : Journal) (runs : List Run) (refused : Option Refusal) : Type 0 where
  pub text : List ℕ
  pub took : Took old new text
  pub loads : IsLoadOf sizes budget text journal runs
  pub legal : Legal sizes.words sizes.updates journal
  pub refused_is : refusal_of text ≡ refused

-- The runs are those of a load of this text, each goal of it within the command's budget, and then those of the command over the load's
-- journal, under the operators behind the text; the journal is the load's with the entries of the command's runs behind it.
pub record AreRunsOf (sizes : Sizes) (text : List ℕ) (command : Command) (journal : Journal) (runs : List Run) : Type 0 where
  pub loads : List Run
  pub loaded : Journal
  pub of_load : IsLoadOf sizes command.steps text loaded loads
  pub behind : AreRunsBehind sizes (operators_of text) loads loaded command journal runs

-- A text was loaded whole, and the goal was run: the runs are those of the load, and then those of the command over its journal, behind
-- which are their entries; and these are the operators behind the text.
pub record HasRun (sizes : Sizes) (command : Option Command) (old new : Option (List ℕ)) (journal : Journal) (runs : List Run) (ops : Table) : Type 0 where
  pub asked : Command
  pub asked_is : command ≡ Some asked
  pub loads : List Run
  pub first : Journal
  pub loaded : HasLoaded sizes asked.steps old new first loads None
  pub runs_are : AreRunsBehind sizes ops loads first asked journal runs
  pub legal : Legal sizes.words sizes.updates journal
  pub operators : ops ≡ operators_of loaded.text

-- there are operators, and this is so of them
abbrev pub Under : Option Table → (Table → Type 0) → Type 0
Under None P = ⊥
Under (Some ops) P = P ops

-- ---- what was written

-- the sink gained these bytes, or where it failed a prefix of them
pub record Gains (failed : Type 0) (old new : Option (List ℕ)) (bytes : List ℕ) : Type 0 where
  pub prefix : AppendsPrefix old new bytes
  pub whole : Appends old new bytes ⊎ failed

-- A text that was taken whole was refused, and these are the operators there; the sink gained the text of its load so far and of its
-- refusal.
pub record HasRefused (sizes : Sizes) (command : Option Command) (old new : Option (List ℕ)) (journal : Journal) (runs : List Run) (failed : Type 0) (before after : Option (List ℕ)) (ops : Table) : Type 0 where
  pub asked : Command
  pub asked_is : command ≡ Some asked
  pub refusal : Refusal
  pub loaded : HasLoaded sizes asked.steps old new journal runs (Some refusal)
  pub operators : ops ≡ operators_of loaded.text
  pub gains : Gains failed before after (load_text ops runs ++ refusal_text refusal)

-- what is to be written, by its cause: the words, the source that failed, or what was read
pub data IsToBeWritten (sizes : Sizes) (command : Option Command) (failed : Type 0) (old new : Option (List ℕ)) : List ℕ → Type 0 where
  of_bad_words : IsNone command → IsToBeWritten sizes command failed old new bad_words_text
  of_source : IsSome command → failed → IsToBeWritten sizes command failed old new source_text
  of_too_long : IsSome command → IsTooLong old new → IsToBeWritten sizes command failed old new too_long_text
  of_refusal : (asked : Command) (journal : Journal) (runs : List Run) (refusal : Refusal) → command ≡ Some asked → (h : HasLoaded sizes asked.steps old new journal runs (Some refusal))
      → IsToBeWritten sizes command failed old new (load_text (operators_of h.text) runs ++ refusal_text refusal)
  of_runs : (journal : Journal) (runs : List Run) (ops : Table) → HasRun sizes command old new journal runs ops → IsToBeWritten sizes command failed old new (output_of ops runs)

-- the sink gained a prefix of what is to be written
pub record HasBegun (sizes : Sizes) (command : Option Command) (failed : Type 0) (old new before after : Option (List ℕ)) : Type 0 where
  pub text : List ℕ
  pub cause : IsToBeWritten sizes command failed old new text
  pub prefix : AppendsPrefix before after text
