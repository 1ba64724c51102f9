-- Where the program stands before it writes.
use Rattle.std.specs.Prelude.{◌≡◌, ℕ, List, ◌++◌, Option, Some, IsSome, IsNone}
use Rattle.std.specs.Io.KnownBytes.{Keeps}
use Rattle.prolog_session.specs.declared.words.Command.{Command}
use Rattle.journal_base.specs.declared.sizes.Sizes.{Sizes}
use Rattle.journals.specs.Journal.{Journal}
use Rattle.prolog_terms.specs.Operators.{Table}
use Rattle.wam_machine.specs.declared.run.Run.{Run}
use Rattle.prolog_session.specs.declared.refusal.Refusal.{Refusal}
use Rattle.prolog_session.specs.declared.prepare.Prepared.{Prepared}
use Rattle.prolog_session.specs.declared.prepare.Prepared.TheVariants.{BadWords, SourceFailed, TooLong, Refused, Ran}
use Rattle.prolog_session.specs.Errors.{bad_words_text, source_text, too_long_text, refusal_text}
use Rattle.prolog_session.specs.Load.{operators_of}
use Rattle.prolog_session.specs.Runs.{status_of}
use Rattle.prolog_session.specs.Output.{load_text, output_of}
use Rattle.prolog_session.specs.Headline.{IsTooLong, HasLoaded, HasRun}

-- a text was refused, and these are the operators there
pub record HasLoadedUnder (sizes : Sizes) (command : Option Command) (old new : Option (List ℕ)) (journal : Journal) (runs : List Run) (ops : Table) (refusal : Refusal) : Type 0 where
  pub asked : Command
  pub asked_is : command ≡ Some asked
  pub loaded : HasLoaded sizes asked.steps old new journal runs (Some refusal)
  pub operators : ops ≡ operators_of loaded.text

abbrev pub Prepares : Sizes → Option Command → Option (List ℕ) → Option (List ℕ) → Prepared → Type 0
Prepares sizes command old new BadWords = IsNone command × Keeps old new
Prepares sizes command old new SourceFailed = IsSome command
Prepares sizes command old new TooLong = IsSome command × IsTooLong old new
Prepares sizes command old new (Refused journal runs ops refusal) = HasLoadedUnder sizes command old new journal runs ops refusal
Prepares sizes command old new (Ran journal runs ops) = HasRun sizes command old new journal runs ops

abbrev pub status_before : Prepared → ℕ
status_before BadWords = 2
status_before SourceFailed = 4
status_before TooLong = 8
status_before (Refused journal runs ops refusal) = 3
status_before (Ran journal runs ops) = status_of runs

abbrev pub text_before : Prepared → List ℕ
text_before BadWords = bad_words_text
text_before SourceFailed = source_text
text_before TooLong = too_long_text
text_before (Refused journal runs ops refusal) = load_text ops runs ++ refusal_text refusal
text_before (Ran journal runs ops) = output_of ops runs
