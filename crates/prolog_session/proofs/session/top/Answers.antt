use Rattle.std.proofs.Common.{◌≡◌, ◌++◌, ◌∙◌, sym, subst, arith, List, ℕ, Option, Some, inl}
use Rattle.std.specs.Prelude.{Any, All, IfSome, map, string_bytes}
use Rattle.prolog_terms.specs.Operators.{Table}
use Rattle.journals.specs.Journal.{Journal}
use Rattle.journal_base.specs.Legal.{Legal}
use Rattle.wam_machine.specs.declared.run.Run.{Run}
use Rattle.prolog_session.specs.FaultCounts.{Rose}
use Rattle.prolog_session.specs.Words.{command_of}
use Rattle.prolog_session.specs.Load.{IsLoadOf, operators_of, refusal_of}
use Rattle.prolog_session.specs.Errors.{refusal_text}
use Rattle.prolog_session.specs.Output.{load_text, output_of}
use Rattle.prolog_session.specs.Sinks.{AppendsPrefix}
use Rattle.std.specs.Io.KnownBytes.{Appends}
use Rattle.prolog_session.specs.Runs.{EndsInBall, EndsSpent}
use Rattle.prolog_session.specs.Headline.{Ends, expected, IsRun, HasRuns, IsLoaded, IsEmpty, IsStatus, AreRunsOf, HasRun, Under, HasRefused, Gains}
use Rattle.prolog_session.specs.Ends.{final_runs}
use Rattle.prolog_session.proofs.Rows.{bad_words_row, source_row, too_long_row, refused_row, sink_row, ball_row, spent_row, exhausted_row}
use Rattle.prolog_session.proofs.Outcomes.{of_outcome, load_runs_row, ran_row, runs_told, operators_row, output_row, output_cut_row, output_told_row, refusal_told_row, empty_row, legal_row, text_row, shown_bad_words, shown_source, shown_too_long, in_part_row, complete_row, unread_row, too_long_read_row, wanted_row, statuses_row}
use Rattle.prolog_session.proofs.session.top.Goals as goal

pub returns-clause-bad_words : goal.returns-clause-bad_words
returns-clause-bad_words g c = let f = c.finish.ensures.finishes in λ e.
    bad_words_row _ _ _ _ _ f.written c.prepare-prepared.ensures.prepares (sym f.status_is ∙ e)

pub returns-clause-source_failed : goal.returns-clause-source_failed
returns-clause-source_failed g c = let f = c.finish.ensures.finishes in λ e.
    source_row _ _ f.written c.prepare-prepared.ensures.failed (sym f.status_is ∙ e)

pub returns-clause-too_long : goal.returns-clause-too_long
returns-clause-too_long g c = let f = c.finish.ensures.finishes in λ e.
    too_long_row _ _ _ _ _ f.written c.prepare-prepared.ensures.prepares (sym f.status_is ∙ e)

pub returns-clause-refused : goal.returns-clause-refused
returns-clause-refused g c = let f = c.finish.ensures.finishes in λ e.
    refused_row _ _ _ _ _ f.written c.prepare-prepared.ensures.prepares (sym f.status_is ∙ e)

pub returns-clause-sink_failed : goal.returns-clause-sink_failed
returns-clause-sink_failed g c = let f = c.finish.ensures.finishes in λ e.
    sink_row _ _ f.written f.cut (sym f.status_is ∙ e)

pub returns-clause-ball : goal.returns-clause-ball
returns-clause-ball g c = let f = c.finish.ensures.finishes in λ e.
    subst (λ (runs : List Run). Any EndsInBall runs) (sym f.runs_are) (ball_row _ f.written (sym f.status_is ∙ e))

pub returns-clause-spent : goal.returns-clause-spent
returns-clause-spent g c = let f = c.finish.ensures.finishes in λ e.
    subst (λ (runs : List Run). All (λ run. EndsInBall run → ⊥) runs × Any EndsSpent runs) (sym f.runs_are) (spent_row _ f.written (sym f.status_is ∙ e))

pub returns-clause-exhausted : goal.returns-clause-exhausted
returns-clause-exhausted g c = let f = c.finish.ensures.finishes in λ e.
    subst (λ (runs : List Run). All (λ run. EndsInBall run → ⊥) runs × All (λ run. EndsSpent run → ⊥) runs) (sym f.runs_are)
    (exhausted_row _ f.written (sym f.status_is ∙ e))

pub returns-clause-complete : goal.returns-clause-complete
returns-clause-complete g c = let f = c.finish.ensures.finishes in
    let row = complete_row _ _ _ _ _ _ _ f.written c.prepare-prepared.ensures.prepares c.prepare-prepared.ensures.failed f.cut in
    let Of : List Run → ℕ → Type 0 = λ runs k. IfSome (g.S.Source.left c.args.source.now) (λ text. Ends (expected (command_of (map string_bytes c.args.words.now)) text runs)
    (Rose (g.S.Source.faults c.args.source.now) (g.S.Source.faults c.prepare-prepared.new.source))
    (Rose (g.K.Sink.faults c.args.sink.now) (g.K.Sink.faults c.finish.new.sink)) k) in
    let P : ℕ → Type 0 = λ k. Of (final_runs c.prepare-prepared.result f.written) k in
    let Q : List Run → Type 0 = λ runs. Of runs c.finish.result.status in
    subst Q (sym f.runs_are) (subst P (sym f.status_is) row)

pub returns-clause-loaded : goal.returns-clause-loaded
returns-clause-loaded g c = let f = c.finish.ensures.finishes in λ e.
    let P : Journal → List Run → Option Table → Type 0 = λ journal runs ops. Under ops (HasRun c.args.sizes (command_of (map string_bytes c.args.words.now)) (g.S.Source.left c.args.source.now)
    (g.S.Source.left c.prepare-prepared.new.source) journal runs) in
    of_outcome P _ _ _ _ _ _ f.journal_is f.runs_are f.operators_are (ran_row _ _ _ _ _ f.written c.prepare-prepared.ensures.prepares (subst HasRuns f.status_is e))

pub returns-clause-runs : goal.returns-clause-runs
returns-clause-runs g c = let f = c.finish.ensures.finishes in λ e.
    let P : Journal → List Run → Option Table → Type 0 = λ journal runs ops. IfSome (g.S.Source.left c.args.source.now) (λ text. IfSome (command_of (map string_bytes c.args.words.now))
    (λ command. AreRunsOf c.args.sizes text command journal runs)) in
    of_outcome P _ _ _ _ _ _ f.journal_is f.runs_are f.operators_are
    (runs_told _ _ _ _ _ _ _ (ran_row _ _ _ _ _ f.written c.prepare-prepared.ensures.prepares (subst HasRuns f.status_is e)))

pub returns-clause-loaded_in_part : goal.returns-clause-loaded_in_part
returns-clause-loaded_in_part g c = let f = c.finish.ensures.finishes in λ e.
    let P : Journal → List Run → Option Table → Type 0 = λ journal runs ops. Under ops (HasRefused c.args.sizes (command_of (map string_bytes c.args.words.now)) (g.S.Source.left c.args.source.now)
    (g.S.Source.left c.prepare-prepared.new.source) journal runs
    (Rose (g.K.Sink.faults c.args.sink.now) (g.K.Sink.faults c.finish.new.sink)) (g.K.Sink.written c.args.sink.now) (g.K.Sink.written c.finish.new.sink)) in
    of_outcome P _ _ _ _ _ _ f.journal_is f.runs_are f.operators_are
    (in_part_row _ _ _ _ _ _ _ _ f.written c.prepare-prepared.ensures.prepares f.prefix f.whole f.cut (sym f.status_is ∙ e))

pub returns-clause-operators : goal.returns-clause-operators
returns-clause-operators g c = let f = c.finish.ensures.finishes in λ e.
    subst (λ (o : Option Table). IfSome (g.S.Source.left c.args.source.now) (λ text. o ≡ Some (operators_of text))) (sym f.operators_are)
    (operators_row _ _ _ _ _ f.written c.prepare-prepared.ensures.prepares (subst IsLoaded f.status_is e))

pub returns-clause-output : goal.returns-clause-output
returns-clause-output g c = let f = c.finish.ensures.finishes in λ e.
    let P : Journal → List Run → Option Table → Type 0 = λ journal runs ops. Under ops (λ t. Appends (g.K.Sink.written c.args.sink.now) (g.K.Sink.written c.finish.new.sink) (output_of t runs)) in
    of_outcome P _ _ _ _ _ _ f.journal_is f.runs_are f.operators_are (output_row _ _ _ f.written f.whole (subst IsRun f.status_is e))

pub returns-clause-output_cut : goal.returns-clause-output_cut
returns-clause-output_cut g c = let f = c.finish.ensures.finishes in λ e.
    let P : Journal → List Run → Option Table → Type 0 = λ journal runs ops. Under ops (λ t. AppendsPrefix (g.K.Sink.written c.args.sink.now) (g.K.Sink.written c.finish.new.sink) (output_of t runs)) in
    of_outcome P _ _ _ _ _ _ f.journal_is f.runs_are f.operators_are (output_cut_row _ _ _ f.written f.prefix (sym f.status_is ∙ e))

pub returns-clause-output_told : goal.returns-clause-output_told
returns-clause-output_told g c = let f = c.finish.ensures.finishes in λ e.
    let P : List Run → Type 0 = λ runs. IfSome (g.S.Source.left c.args.source.now) (λ text. Appends (g.K.Sink.written c.args.sink.now) (g.K.Sink.written c.finish.new.sink) (output_of (operators_of text) runs)) in
    let k = subst IsRun f.status_is e in
    subst P (sym f.runs_are)
    (output_told_row _ _ _ _ _ (output_row _ _ _ f.written f.whole k) (operators_row _ _ _ _ _ f.written c.prepare-prepared.ensures.prepares (inl (inl k))))

pub returns-clause-refusal_text : goal.returns-clause-refusal_text
returns-clause-refusal_text g c = let f = c.finish.ensures.finishes in λ e.
    let P : List Run → Type 0 = λ runs. IfSome (g.S.Source.left c.args.source.now) (λ text. IfSome (refusal_of text) (λ refusal.
    Gains (Rose (g.K.Sink.faults c.args.sink.now) (g.K.Sink.faults c.finish.new.sink)) (g.K.Sink.written c.args.sink.now) (g.K.Sink.written c.finish.new.sink)
    (load_text (operators_of text) runs ++ refusal_text refusal))) in
    subst P (sym f.runs_are)
    (refusal_told_row _ _ _ _ _ _ _ _ _ _ (in_part_row _ _ _ _ _ _ _ _ f.written c.prepare-prepared.ensures.prepares f.prefix f.whole f.cut (sym f.status_is ∙ e)))

pub returns-clause-legal : goal.returns-clause-legal
returns-clause-legal g c = let f = c.finish.ensures.finishes in λ e.
    subst (Legal c.args.sizes.words c.args.sizes.updates) (sym f.journal_is) (legal_row _ _ _ _ _ f.written c.prepare-prepared.ensures.prepares (subst IsLoaded f.status_is e))

pub returns-clause-load_runs : goal.returns-clause-load_runs
returns-clause-load_runs g c = let f = c.finish.ensures.finishes in λ e.
    let P : Journal → List Run → Type 0 = λ journal runs. IfSome (g.S.Source.left c.args.source.now) (λ text. IfSome (command_of (map string_bytes c.args.words.now))
    (λ command. IsLoadOf c.args.sizes command.steps text journal runs)) in
    let row = load_runs_row _ _ _ _ _ f.written c.prepare-prepared.ensures.prepares (sym f.status_is ∙ e) in
    subst (λ (runs : List Run). P c.finish.result.journal runs) (sym f.runs_are)
    (subst (λ (journal : Journal). P journal (final_runs c.prepare-prepared.result f.written)) (sym f.journal_is) row)

pub returns-clause-empty_journal : goal.returns-clause-empty_journal
returns-clause-empty_journal g c = let f = c.finish.ensures.finishes in λ e. f.journal_is ∙ (empty_row _ f.written (subst IsEmpty f.status_is e)).0

pub returns-clause-empty_runs : goal.returns-clause-empty_runs
returns-clause-empty_runs g c = let f = c.finish.ensures.finishes in λ e. f.runs_are ∙ (empty_row _ f.written (subst IsEmpty f.status_is e)).1.0

pub returns-clause-no_operators : goal.returns-clause-no_operators
returns-clause-no_operators g c = let f = c.finish.ensures.finishes in λ e. f.operators_are ∙ (empty_row _ f.written (subst IsEmpty f.status_is e)).1.1

pub returns-clause-bad_words_text : goal.returns-clause-bad_words_text
returns-clause-bad_words_text g c = let f = c.finish.ensures.finishes in λ e.
    let is = sym f.status_is ∙ e in
    text_row _ _ _ _ f.written 2 _ f.prefix f.whole f.cut is (λ h. omega arith) (shown_bad_words _ f.written is)

pub returns-clause-source_text : goal.returns-clause-source_text
returns-clause-source_text g c = let f = c.finish.ensures.finishes in λ e.
    let is = sym f.status_is ∙ e in
    text_row _ _ _ _ f.written 4 _ f.prefix f.whole f.cut is (λ h. omega arith) (shown_source _ f.written is)

pub returns-clause-too_long_text : goal.returns-clause-too_long_text
returns-clause-too_long_text g c = let f = c.finish.ensures.finishes in λ e.
    let is = sym f.status_is ∙ e in
    text_row _ _ _ _ f.written 8 _ f.prefix f.whole f.cut is (λ h. omega arith) (shown_too_long _ f.written is)

pub returns-clause-wanted : goal.returns-clause-wanted
returns-clause-wanted g c = let f = c.finish.ensures.finishes in λ e.
    wanted_row _ _ _ _ _ _ _ _ c.prepare-prepared.ensures.prepares c.prepare-prepared.ensures.failed f.prefix

pub returns-clause-unread : goal.returns-clause-unread
returns-clause-unread g c = let f = c.finish.ensures.finishes in λ e.
    unread_row _ _ _ _ _ f.written c.prepare-prepared.ensures.prepares (sym f.status_is ∙ e)

pub returns-clause-too_long_read : goal.returns-clause-too_long_read
returns-clause-too_long_read g c = let f = c.finish.ensures.finishes in λ e.
    too_long_read_row _ _ _ _ _ f.written c.prepare-prepared.ensures.prepares (sym f.status_is ∙ e)

pub returns-clause-statuses : goal.returns-clause-statuses
returns-clause-statuses g c = let f = c.finish.ensures.finishes in subst IsStatus (sym f.status_is) (statuses_row _ f.written)
