-- What a run says of its goal.
use Rattle.std.specs.Prelude.{◌≡◌, ◌≢◌, ℕ, ◌+◌, ◌≤◌, List, [], ◌∷◌, length, take, All, IsTrue}
use Rattle.std.specs.List.{sum_by, AllZip}
use Rattle.prolog_terms.specs.Tree.{Tree}
use Rattle.prolog_terms.specs.Operators.{Table}
use Rattle.prolog_terms.specs.Substitutions.{occurs}
use Rattle.journals.specs.Journal.{Journal}
use Rattle.journal_base.specs.View.{View}
use Rattle.journal_base.specs.Looks.{IsFair, TellsOnly, allowance, scans_of, kept_of, wants_of}
use Rattle.journal_base.specs.declared.cause.How.{How}
use Rattle.wam_machine.specs.declared.run.Goal.{Goal}
use Rattle.wam_machine.specs.declared.run.Run.{Run}
use Rattle.wam_machine.specs.declared.run.RunEnd.TheVariants.{Want}
use Rattle.wam_machine.specs.States.{Setting, Look, Deed, looks_in, Report}
use Rattle.wam_machine.specs.Machine.{Transcript, shown_list}

abbrev pub report_of : Run → List Deed → ℕ → Report
report_of run deeds tried = record { events = run.transcript; deeds = deeds; tried = tried; steps = run.steps; end = run.end }

-- how a look of a run was made is fair in the journal, and its causes are among those that may come
pub record IsFairLook (causes : List ℕ) (J : Journal) (look : Look) (how : How) : Type 0 where
  pub fair : IsFair look.before look.call how (take look.front J)
  pub told : TellsOnly causes how

-- how many clauses these looks may visit
abbrev pub allowances : Journal → List Look → List How → ℕ
allowances J [] hows = 0
allowances J (l ∷ ls) [] = 0
allowances J (l ∷ ls) (h ∷ hs) = allowance (take l.front J) l.call h + allowances J ls hs

-- The run's events, fronts, steps and end are the goal's transcript over the journal. There is one How for each of its looks, in
-- their order: each is fair, they are counted, and the clauses visited are no more than those that they allow, and no fewer than
-- those that were tried.
pub record IsTranscribed (x : Setting) (causes : List ℕ) (goal : Tree) (run : Run) : Type 0 where
  pub deeds : List Deed
  pub tried : ℕ
  pub transcript : Transcript x goal run.fronts (report_of run deeds tried)
  pub hows : List How
  pub fair : AllZip (IsFairLook causes x.journal) (looks_in deeds) hows
  pub counted : run.tally.looks ≡ length (looks_in deeds)
  pub scanned : run.tally.scans ≡ sum_by scans_of hows
  pub kept : run.tally.kept ≡ sum_by kept_of hows
  pub wanted : run.tally.wants ≡ sum_by wants_of hows
  pub most : run.tally.visits ≤ allowances x.journal (looks_in deeds) hows
  pub least : tried ≤ run.tally.visits
  -- a base without indexes builds none
  pub unbuilt : causes ≡ 0 ∷ [] → (run.tally.built ≡ 0) × (run.tally.indexes ≡ 0)

-- each shown variable stands in the goal
abbrev pub AreShown : Goal → Type 0
AreShown goal = All (λ s. IsTrue (occurs s.var goal.term)) goal.shown

abbrev pub setting_of : Table → View → ℕ → ℕ → Goal → Journal → Setting
setting_of ops v start budget goal J = record { engine = v.number; journal = J; words = v.words; updates = v.updates; start = start; budget = budget; shown = shown_list goal.shown; ops = ops }

-- A run of a goal by a base's engine, from a front on, within a budget and under an operator table: unless memory was
-- wanted it is the transcript over each journal that the base stands for.
pub record IsRunOf (ops : Table) (v : View) (start budget : ℕ) (goal : Goal) (run : Run) : Type 0 where
  pub engine : run.engine ≡ v.number
  pub line : run.line ≡ 0
  pub within : run.steps ≤ budget
  pub shown : run.end ≢ Want → run.shown ≡ goal.shown
  pub transcribed : run.end ≢ Want → (J : Journal) → v.stands_for J → IsTranscribed (setting_of ops v start budget goal J) v.causes goal.term run
