-- How the program ends, once it has written.
use Rattle.std.specs.Prelude.{◌≡◌, ℕ, List, [], Ok, Err, Some, None}
use Rattle.std.specs.declared.option.Option.{Option}
use Rattle.std.specs.declared.result.Result.{Result}
use Rattle.std.specs.Io.KnownBytes.{Appends}
use Rattle.prolog_terms.specs.Operators.{Table}
use Rattle.prolog_terms.specs.declared.want.Want.{Want}
use Rattle.prolog_session.specs.declared.writing.Written.{Written}
use Rattle.prolog_session.specs.declared.writing.Written.TheVariants.{All as Wrote, Failed as Cut, Want as Wanted}
use Rattle.prolog_session.specs.Sinks.{AppendsPrefix}
use Rattle.journals.specs.Journal.{Journal}
use Rattle.wam_machine.specs.declared.run.Run.{Run}
use Rattle.prolog_session.specs.declared.prepare.Prepared.{Prepared}
use Rattle.prolog_session.specs.declared.prepare.Prepared.TheVariants.{Refused, Ran}
use Rattle.prolog_session.specs.Prepared.{status_before, text_before}

-- a sink that fails changes the status of a run alone
abbrev pub failed_status : Prepared → ℕ
failed_status (Ran journal runs ops) = 5
failed_status prepared = status_before prepared

abbrev pub final_status : Result Prepared Want → Written → ℕ
final_status (Err want) written = 6
final_status (Ok prepared) Wrote = status_before prepared
final_status (Ok prepared) Cut = failed_status prepared
final_status (Ok prepared) Wanted = 6

abbrev pub journal_left : Prepared → Journal
journal_left (Refused journal runs ops refusal) = journal
journal_left (Ran journal runs ops) = journal
journal_left prepared = []

abbrev pub runs_left : Prepared → List Run
runs_left (Refused journal runs ops refusal) = runs
runs_left (Ran journal runs ops) = runs
runs_left prepared = []

-- the operators behind a text, or at its refusal
abbrev pub operators_left : Prepared → Option Table
operators_left (Refused journal runs ops refusal) = Some ops
operators_left (Ran journal runs ops) = Some ops
operators_left prepared = None

abbrev pub final_operators : Result Prepared Want → Written → Option Table
final_operators (Err want) written = None
final_operators (Ok prepared) Wanted = None
final_operators (Ok prepared) written = operators_left prepared

abbrev pub final_journal : Result Prepared Want → Written → Journal
final_journal (Err want) written = []
final_journal (Ok prepared) Wanted = []
final_journal (Ok prepared) written = journal_left prepared

abbrev pub final_runs : Result Prepared Want → Written → List Run
final_runs (Err want) written = []
final_runs (Ok prepared) Wanted = []
final_runs (Ok prepared) written = runs_left prepared

abbrev pub shown : Result Prepared Want → List ℕ
shown (Err want) = []
shown (Ok prepared) = text_before prepared

-- what was written, and the outcome by how the writing went
pub record Finishes (prepared : Result Prepared Want) (old new : Option (List ℕ)) (failed : Type 0) (status : ℕ) (journal : Journal) (runs : List Run) (ops : Option Table) : Type 0 where
  pub written : Written
  pub status_is : status ≡ final_status prepared written
  pub journal_is : journal ≡ final_journal prepared written
  pub runs_are : runs ≡ final_runs prepared written
  pub operators_are : ops ≡ final_operators prepared written
  pub prefix : AppendsPrefix old new (shown prepared)
  pub whole : written ≡ Wrote → Appends old new (shown prepared)
  pub cut : written ≡ Cut → failed
