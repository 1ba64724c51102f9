-- What each status tells of the outcome and of the sink, and that no other status is answered.
use Rattle.std.proofs.Common.{◌≡◌, ◌⊎◌, inl, inr, ℕ, ◌<◌, ◌≤◌, Bool, true, false, nat_lt, List, [], ◌++◌, length, take, zero, suc, None, Some, Ok, Err, refl, sym, ◌∙◌, ap, subst, arith, IfOk, IfSome, IsSome, IsNone}
use Rattle.std.proofs.lemmas.Bool.{lt-ltb, le-ltb}
use Rattle.std.specs.declared.option.Option.{Option}
use Rattle.std.specs.declared.result.Result.{Result}
use Rattle.std.specs.Io.KnownBytes.{Appends, Keeps}
use Rattle.prolog_terms.specs.Operators.{Table}
use Rattle.prolog_terms.specs.declared.want.Want.{Want}
use Rattle.journals.specs.Journal.{Journal}
use Rattle.journal_base.specs.Legal.{Legal}
use Rattle.journal_base.specs.declared.sizes.Sizes.{Sizes}
use Rattle.wam_machine.specs.declared.run.Run.{Run}
use Rattle.prolog_session.specs.declared.writing.Written.{Written}
use Rattle.prolog_session.specs.declared.writing.Written.TheVariants.{All as Wrote, Failed as Cut, Want as Wanted}
use Rattle.prolog_session.specs.declared.words.Command.{Command}
use Rattle.prolog_session.specs.declared.refusal.Refusal.{Refusal}
use Rattle.prolog_session.specs.declared.prepare.Prepared.{Prepared}
use Rattle.prolog_session.specs.declared.prepare.Prepared.TheVariants.{BadWords, SourceFailed, TooLong, Refused, Ran}
use Rattle.prolog_session.specs.WholeText.{max_text}
use Rattle.prolog_session.specs.Sinks.{AppendsPrefix}
use Rattle.prolog_session.specs.Load.{IsLoadOf, operators_of, refusal_of}
use Rattle.prolog_session.specs.Errors.{bad_words_text, source_text, too_long_text, refusal_text}
use Rattle.prolog_session.specs.Headline.{IsRun, HasRuns, IsLoaded, IsEmpty, IsStatus, expected, expected_of, Ends, IsTooLong, HasLoaded, AreRunsOf, HasRun, Under, HasRefused, Gains, HasBegun, of_bad_words, of_source, of_too_long, of_refusal, of_runs}
use Rattle.prolog_session.specs.Output.{load_text, output_of}
use Rattle.prolog_session.specs.Runs.{AreRunsBehind}
use Rattle.prolog_session.specs.Prepared.{Prepares, status_before}
use Rattle.prolog_session.specs.Ends.{final_status, final_journal, final_runs, final_operators, runs_left, shown}
use Rattle.prolog_session.proofs.Rows.{status_small, is_not, run_is_not, run_is_not_2, run_is_not_3, run_is_not_4, run_is_not_5, run_is_not_8, not_ran, told_long, told_fits, told_loads, told_refusal, told_operators, told_text}

-- ---- the outcome

-- what is so of the journal, the runs and the operators that the table of statuses has is so of the outcome's
pub of_outcome : (P : Journal → List Run → Option Table → Type 0) (j k : Journal) (r q : List Run) (o u : Option Table) → j ≡ k → r ≡ q → o ≡ u → P k q u → P j r o
of_outcome P j k r q o u journal runs ops h =
    subst (λ (x : Journal). P x r o) (sym journal) (subst (λ (x : List Run). P k x o) (sym runs) (subst (λ (x : Option Table). P k q x) (sym ops) h))

asked_loads : (sizes : Sizes) (command : Option Command) (asked : Command) (bytes : List ℕ) (journal : Journal) (runs : List Run) → command ≡ Some asked
    → IsLoadOf sizes asked.steps bytes journal runs → IfSome command (λ c. IsLoadOf sizes c.steps bytes journal runs)
asked_loads sizes command asked bytes journal runs e h = subst (λ (o : Option Command). IfSome o (λ c. IsLoadOf sizes c.steps bytes journal runs)) (sym e) h

-- where the text was refused, the journal and the runs are the load's
pub load_runs_row : (sizes : Sizes) (command : Option Command) (so sn : Option (List ℕ)) (p : Result Prepared Want) (w : Written) →
    IfOk p (Prepares sizes command so sn) → final_status p w ≡ 3
    → IfSome so (λ text. IfSome command (λ asked. IsLoadOf sizes asked.steps text (final_journal p w) (final_runs p w)))
load_runs_row sizes command None sn p w h e = tt
load_runs_row sizes command (Some bytes) sn (Err want) w h e = absurd (omega arith)
load_runs_row sizes command (Some bytes) sn (Ok (Refused journal runs ops refusal)) Wrote h e =
    asked_loads sizes command h.asked bytes journal runs h.asked_is (told_loads sizes h.asked.steps bytes sn journal runs (Some refusal) h.loaded)
load_runs_row sizes command (Some bytes) sn (Ok (Refused journal runs ops refusal)) Cut h e =
    asked_loads sizes command h.asked bytes journal runs h.asked_is (told_loads sizes h.asked.steps bytes sn journal runs (Some refusal) h.loaded)
load_runs_row sizes command (Some bytes) sn (Ok (Ran journal runs ops)) Wrote h e = absurd (run_is_not_3 runs e)
load_runs_row sizes command (Some bytes) sn (Ok p) Wrote h e = absurd (omega arith)
load_runs_row sizes command (Some bytes) sn (Ok p) Cut h e = absurd (omega arith)
load_runs_row sizes command (Some bytes) sn (Ok p) Wanted h e = absurd (omega arith)

-- where the goal has run
pub ran_row : (sizes : Sizes) (command : Option Command) (so sn : Option (List ℕ)) (p : Result Prepared Want) (w : Written) →
    IfOk p (Prepares sizes command so sn) → HasRuns (final_status p w) → Under (final_operators p w) (HasRun sizes command so sn (final_journal p w) (final_runs p w))
ran_row sizes command so sn (Err want) w h e = absurd (not_ran 6 e (λ f. omega arith) (λ f. omega arith) (λ f. omega arith) (λ f. omega arith))
ran_row sizes command so sn (Ok p) Wanted h e = absurd (not_ran 6 e (λ f. omega arith) (λ f. omega arith) (λ f. omega arith) (λ f. omega arith))
ran_row sizes command so sn (Ok BadWords) Wrote h e = absurd (not_ran 2 e (λ f. omega arith) (λ f. omega arith) (λ f. omega arith) (λ f. omega arith))
ran_row sizes command so sn (Ok BadWords) Cut h e = absurd (not_ran 2 e (λ f. omega arith) (λ f. omega arith) (λ f. omega arith) (λ f. omega arith))
ran_row sizes command so sn (Ok SourceFailed) Wrote h e = absurd (not_ran 4 e (λ f. omega arith) (λ f. omega arith) (λ f. omega arith) (λ f. omega arith))
ran_row sizes command so sn (Ok SourceFailed) Cut h e = absurd (not_ran 4 e (λ f. omega arith) (λ f. omega arith) (λ f. omega arith) (λ f. omega arith))
ran_row sizes command so sn (Ok TooLong) Wrote h e = absurd (not_ran 8 e (λ f. omega arith) (λ f. omega arith) (λ f. omega arith) (λ f. omega arith))
ran_row sizes command so sn (Ok TooLong) Cut h e = absurd (not_ran 8 e (λ f. omega arith) (λ f. omega arith) (λ f. omega arith) (λ f. omega arith))
ran_row sizes command so sn (Ok (Refused journal runs ops refusal)) Wrote h e = absurd (not_ran 3 e (λ f. omega arith) (λ f. omega arith) (λ f. omega arith) (λ f. omega arith))
ran_row sizes command so sn (Ok (Refused journal runs ops refusal)) Cut h e = absurd (not_ran 3 e (λ f. omega arith) (λ f. omega arith) (λ f. omega arith) (λ f. omega arith))
ran_row sizes command so sn (Ok (Ran journal runs ops)) Wrote h e = h
ran_row sizes command so sn (Ok (Ran journal runs ops)) Cut h e = h

-- where the source tells its text, the runs are those of its load and of the command
pub runs_told : (sizes : Sizes) (command : Option Command) (so sn : Option (List ℕ)) (journal : Journal) (runs : List Run) (o : Option Table) → Under o (HasRun sizes command so sn journal runs)
    → IfSome so (λ text. IfSome command (λ asked. AreRunsOf sizes text asked journal runs))
runs_told sizes command None sn journal runs o h = tt
runs_told sizes command (Some bytes) sn journal runs None h = absurd h
runs_told sizes command (Some bytes) sn journal runs (Some ops) h =
    let P : Option Command → Type 0 = λ c. IfSome c (λ asked. AreRunsOf sizes bytes asked journal runs) in
    let of_load : IsLoadOf sizes h.asked.steps bytes h.first h.loads = told_loads sizes h.asked.steps bytes sn h.first h.loads None h.loaded in
    let told : ops ≡ operators_of bytes = h.operators ∙ ap operators_of (told_text bytes sn h.loaded.text h.loaded.took) in
    let behind : AreRunsBehind sizes (operators_of bytes) h.loads h.first h.asked journal runs = subst (λ (o : Table). AreRunsBehind sizes o h.loads h.first h.asked journal runs) told h.runs_are in
    subst P (sym h.asked_is) (record { loads = h.loads; loaded = h.first; of_load = of_load; behind = behind })

-- where neither the journal nor the runs are told, the status is none of these
record IsApart (k : ℕ) : Type 0 where
  not_0 : k ≡ 0 → ⊥
  not_1 : k ≡ 1 → ⊥
  not_7 : k ≡ 7 → ⊥
  not_5 : k ≡ 5 → ⊥
  not_3 : k ≡ 3 → ⊥

apart : (k : ℕ) → IsEmpty k → IsApart k
apart k (inl e) = record { not_0 = λ h. omega arith; not_1 = λ h. omega arith; not_7 = λ h. omega arith; not_5 = λ h. omega arith; not_3 = λ h. omega arith }
apart k (inr (inl e)) = record { not_0 = λ h. omega arith; not_1 = λ h. omega arith; not_7 = λ h. omega arith; not_5 = λ h. omega arith; not_3 = λ h. omega arith }
apart k (inr (inr (inl e))) = record { not_0 = λ h. omega arith; not_1 = λ h. omega arith; not_7 = λ h. omega arith; not_5 = λ h. omega arith; not_3 = λ h. omega arith }
apart k (inr (inr (inr e))) = record { not_0 = λ h. omega arith; not_1 = λ h. omega arith; not_7 = λ h. omega arith; not_5 = λ h. omega arith; not_3 = λ h. omega arith }

pub empty_row : (p : Result Prepared Want) (w : Written) → IsEmpty (final_status p w) → (final_journal p w ≡ []) × ((final_runs p w ≡ []) × (final_operators p w ≡ None))
empty_row (Err want) w e = (refl, (refl, refl))
empty_row (Ok p) Wanted e = (refl, (refl, refl))
empty_row (Ok (Ran journal runs ops)) Wrote e = let a = apart _ e in absurd (run_is_not _ runs a.not_0 a.not_1 a.not_7 refl)
empty_row (Ok (Ran journal runs ops)) Cut e = absurd ((apart _ e).not_5 refl)
empty_row (Ok (Refused journal runs ops refusal)) Wrote e = absurd ((apart _ e).not_3 refl)
empty_row (Ok (Refused journal runs ops refusal)) Cut e = absurd ((apart _ e).not_3 refl)
empty_row (Ok p) w e = (refl, (refl, refl))

not_loaded : (k : ℕ) → IsEmpty k → IsLoaded k → ⊥
not_loaded k e (inl (inl (inl h))) = (apart k e).not_0 h
not_loaded k e (inl (inl (inr (inl h)))) = (apart k e).not_1 h
not_loaded k e (inl (inl (inr (inr h)))) = (apart k e).not_7 h
not_loaded k e (inl (inr h)) = (apart k e).not_5 h
not_loaded k e (inr h) = (apart k e).not_3 h

-- where the source tells its text, the operators are those behind it, or at its refusal
pub operators_row : (sizes : Sizes) (command : Option Command) (so sn : Option (List ℕ)) (p : Result Prepared Want) (w : Written) →
    IfOk p (Prepares sizes command so sn) → IsLoaded (final_status p w) → IfSome so (λ text. final_operators p w ≡ Some (operators_of text))
operators_row sizes command None sn p w h e = tt
operators_row sizes command (Some bytes) sn (Err want) w h e = absurd (not_loaded 6 (inr (inr (inl refl))) e)
operators_row sizes command (Some bytes) sn (Ok p) Wanted h e = absurd (not_loaded 6 (inr (inr (inl refl))) e)
operators_row sizes command (Some bytes) sn (Ok BadWords) Wrote h e = absurd (not_loaded 2 (inl refl) e)
operators_row sizes command (Some bytes) sn (Ok BadWords) Cut h e = absurd (not_loaded 2 (inl refl) e)
operators_row sizes command (Some bytes) sn (Ok SourceFailed) Wrote h e = absurd (not_loaded 4 (inr (inl refl)) e)
operators_row sizes command (Some bytes) sn (Ok SourceFailed) Cut h e = absurd (not_loaded 4 (inr (inl refl)) e)
operators_row sizes command (Some bytes) sn (Ok TooLong) Wrote h e = absurd (not_loaded 8 (inr (inr (inr refl))) e)
operators_row sizes command (Some bytes) sn (Ok TooLong) Cut h e = absurd (not_loaded 8 (inr (inr (inr refl))) e)
operators_row sizes command (Some bytes) sn (Ok (Refused journal runs ops refusal)) Wrote h e =
    ap Some (h.operators ∙ told_operators sizes h.asked.steps bytes sn journal runs (Some refusal) h.loaded)
operators_row sizes command (Some bytes) sn (Ok (Refused journal runs ops refusal)) Cut h e =
    ap Some (h.operators ∙ told_operators sizes h.asked.steps bytes sn journal runs (Some refusal) h.loaded)
operators_row sizes command (Some bytes) sn (Ok (Ran journal runs ops)) Wrote h e =
    ap Some (h.operators ∙ told_operators sizes h.asked.steps bytes sn h.first h.loads None h.loaded)
operators_row sizes command (Some bytes) sn (Ok (Ran journal runs ops)) Cut h e =
    ap Some (h.operators ∙ told_operators sizes h.asked.steps bytes sn h.first h.loads None h.loaded)

pub legal_row : (sizes : Sizes) (command : Option Command) (so sn : Option (List ℕ)) (p : Result Prepared Want) (w : Written) →
    IfOk p (Prepares sizes command so sn) → IsLoaded (final_status p w) → Legal sizes.words sizes.updates (final_journal p w)
legal_row sizes command so sn (Err want) w h e = absurd (not_loaded 6 (inr (inr (inl refl))) e)
legal_row sizes command so sn (Ok p) Wanted h e = absurd (not_loaded 6 (inr (inr (inl refl))) e)
legal_row sizes command so sn (Ok BadWords) Wrote h e = absurd (not_loaded 2 (inl refl) e)
legal_row sizes command so sn (Ok BadWords) Cut h e = absurd (not_loaded 2 (inl refl) e)
legal_row sizes command so sn (Ok SourceFailed) Wrote h e = absurd (not_loaded 4 (inr (inl refl)) e)
legal_row sizes command so sn (Ok SourceFailed) Cut h e = absurd (not_loaded 4 (inr (inl refl)) e)
legal_row sizes command so sn (Ok TooLong) Wrote h e = absurd (not_loaded 8 (inr (inr (inr refl))) e)
legal_row sizes command so sn (Ok TooLong) Cut h e = absurd (not_loaded 8 (inr (inr (inr refl))) e)
legal_row sizes command so sn (Ok (Refused journal runs ops refusal)) Wrote h e = h.loaded.legal
legal_row sizes command so sn (Ok (Refused journal runs ops refusal)) Cut h e = h.loaded.legal
legal_row sizes command so sn (Ok (Ran journal runs ops)) Wrote h e = h.legal
legal_row sizes command so sn (Ok (Ran journal runs ops)) Cut h e = h.legal

-- ---- what the sink gained

gains : (rk : Type 0) (ko kn : Option (List ℕ)) (bytes : List ℕ) (w : Written) → AppendsPrefix ko kn bytes →
    (w ≡ Wrote → Appends ko kn bytes) → (w ≡ Cut → rk) → (w ≡ Wanted → ⊥) → Gains rk ko kn bytes
gains rk ko kn bytes Wrote prefix whole cut unwanted = record { prefix = prefix; whole = inl (whole refl) }
gains rk ko kn bytes Cut prefix whole cut unwanted = record { prefix = prefix; whole = inr (cut refl) }
gains rk ko kn bytes Wanted prefix whole cut unwanted = absurd (unwanted refl)

not_wanted : (p : Result Prepared Want) (w : Written) (k : ℕ) → final_status p w ≡ k → (k ≡ 6 → ⊥) → w ≡ Wanted → ⊥
not_wanted (Err want) w k e other f = other (sym e)
not_wanted (Ok p) Wrote k e other f = cc
not_wanted (Ok p) Cut k e other f = cc
not_wanted (Ok p) Wanted k e other f = other (sym e)

-- the text of a status that has a text of its own
pub text_row : (rk : Type 0) (ko kn : Option (List ℕ)) (p : Result Prepared Want) (w : Written) (k : ℕ) (bytes : List ℕ) → AppendsPrefix ko kn (shown p) →
    (w ≡ Wrote → Appends ko kn (shown p)) → (w ≡ Cut → rk) → final_status p w ≡ k → (k ≡ 6 → ⊥) → shown p ≡ bytes → Gains rk ko kn bytes
text_row rk ko kn p w k bytes prefix whole cut e other is =
    let P : List ℕ → Type 0 = λ s. Gains rk ko kn s in
    subst P is (gains rk ko kn (shown p) w prefix whole cut (not_wanted p w k e other))

pub shown_bad_words : (p : Result Prepared Want) (w : Written) → final_status p w ≡ 2 → shown p ≡ bad_words_text
shown_bad_words (Err want) w e = absurd (omega arith)
shown_bad_words (Ok BadWords) w e = refl
shown_bad_words (Ok (Ran journal runs ops)) Wrote e = absurd (run_is_not_2 runs e)
shown_bad_words (Ok p) Wrote e = absurd (omega arith)
shown_bad_words (Ok p) Cut e = absurd (omega arith)
shown_bad_words (Ok p) Wanted e = absurd (omega arith)

pub shown_source : (p : Result Prepared Want) (w : Written) → final_status p w ≡ 4 → shown p ≡ source_text
shown_source (Err want) w e = absurd (omega arith)
shown_source (Ok SourceFailed) w e = refl
shown_source (Ok (Ran journal runs ops)) Wrote e = absurd (run_is_not_4 runs e)
shown_source (Ok p) Wrote e = absurd (omega arith)
shown_source (Ok p) Cut e = absurd (omega arith)
shown_source (Ok p) Wanted e = absurd (omega arith)

pub shown_too_long : (p : Result Prepared Want) (w : Written) → final_status p w ≡ 8 → shown p ≡ too_long_text
shown_too_long (Err want) w e = absurd (omega arith)
shown_too_long (Ok TooLong) w e = refl
shown_too_long (Ok (Ran journal runs ops)) Wrote e = absurd (run_is_not_8 runs e)
shown_too_long (Ok p) Wrote e = absurd (omega arith)
shown_too_long (Ok p) Cut e = absurd (omega arith)
shown_too_long (Ok p) Wanted e = absurd (omega arith)

refused_gains : (rk : Type 0) (ko kn : Option (List ℕ)) (ops other : Table) (runs : List Run) (refusal : Refusal) → ops ≡ other → Gains rk ko kn (load_text ops runs ++ refusal_text refusal)
    → Gains rk ko kn (load_text other runs ++ refusal_text refusal)
refused_gains rk ko kn ops other runs refusal same h = subst (λ (t : Table). Gains rk ko kn (load_text t runs ++ refusal_text refusal)) same h

-- a text that was refused, and the text of its refusal
pub in_part_row : (sizes : Sizes) (command : Option Command) (so sn ko kn : Option (List ℕ)) (rk : Type 0) (p : Result Prepared Want) (w : Written) →
    IfOk p (Prepares sizes command so sn) → AppendsPrefix ko kn (shown p) → (w ≡ Wrote → Appends ko kn (shown p)) → (w ≡ Cut → rk) →
    final_status p w ≡ 3 → Under (final_operators p w) (HasRefused sizes command so sn (final_journal p w) (final_runs p w) rk ko kn)
in_part_row sizes command so sn ko kn rk (Err want) w h prefix whole cut e = absurd (omega arith)
in_part_row sizes command so sn ko kn rk (Ok (Refused journal runs ops refusal)) Wrote h prefix whole cut e =
    record { asked = h.asked; asked_is = h.asked_is; refusal = refusal; loaded = h.loaded; operators = h.operators; gains = gains rk ko kn (load_text ops runs ++ refusal_text refusal) Wrote prefix whole cut (λ f. cc) }
in_part_row sizes command so sn ko kn rk (Ok (Refused journal runs ops refusal)) Cut h prefix whole cut e =
    record { asked = h.asked; asked_is = h.asked_is; refusal = refusal; loaded = h.loaded; operators = h.operators; gains = gains rk ko kn (load_text ops runs ++ refusal_text refusal) Cut prefix whole cut (λ f. cc) }
in_part_row sizes command so sn ko kn rk (Ok (Ran journal runs ops)) Wrote h prefix whole cut e = absurd (run_is_not_3 runs e)
in_part_row sizes command so sn ko kn rk (Ok p) Wrote h prefix whole cut e = absurd (omega arith)
in_part_row sizes command so sn ko kn rk (Ok p) Cut h prefix whole cut e = absurd (omega arith)
in_part_row sizes command so sn ko kn rk (Ok p) Wanted h prefix whole cut e = absurd (omega arith)

-- what the runs' text was
pub output_row : (ko kn : Option (List ℕ)) (p : Result Prepared Want) (w : Written) → (w ≡ Wrote → Appends ko kn (shown p)) → IsRun (final_status p w)
    → Under (final_operators p w) (λ ops. Appends ko kn (output_of ops (final_runs p w)))
output_row ko kn (Ok (Ran journal runs ops)) Wrote whole e = whole refl
output_row ko kn (Ok (Ran journal runs ops)) Cut whole e = absurd (is_not 5 e (λ f. omega arith) (λ f. omega arith) (λ f. omega arith))
output_row ko kn (Err want) w whole e = absurd (is_not 6 e (λ f. omega arith) (λ f. omega arith) (λ f. omega arith))
output_row ko kn (Ok p) Wanted whole e = absurd (is_not 6 e (λ f. omega arith) (λ f. omega arith) (λ f. omega arith))
output_row ko kn (Ok BadWords) Wrote whole e = absurd (is_not 2 e (λ f. omega arith) (λ f. omega arith) (λ f. omega arith))
output_row ko kn (Ok BadWords) Cut whole e = absurd (is_not 2 e (λ f. omega arith) (λ f. omega arith) (λ f. omega arith))
output_row ko kn (Ok SourceFailed) Wrote whole e = absurd (is_not 4 e (λ f. omega arith) (λ f. omega arith) (λ f. omega arith))
output_row ko kn (Ok SourceFailed) Cut whole e = absurd (is_not 4 e (λ f. omega arith) (λ f. omega arith) (λ f. omega arith))
output_row ko kn (Ok TooLong) Wrote whole e = absurd (is_not 8 e (λ f. omega arith) (λ f. omega arith) (λ f. omega arith))
output_row ko kn (Ok TooLong) Cut whole e = absurd (is_not 8 e (λ f. omega arith) (λ f. omega arith) (λ f. omega arith))
output_row ko kn (Ok (Refused journal runs ops refusal)) Wrote whole e = absurd (is_not 3 e (λ f. omega arith) (λ f. omega arith) (λ f. omega arith))
output_row ko kn (Ok (Refused journal runs ops refusal)) Cut whole e = absurd (is_not 3 e (λ f. omega arith) (λ f. omega arith) (λ f. omega arith))

pub output_cut_row : (ko kn : Option (List ℕ)) (p : Result Prepared Want) (w : Written) → AppendsPrefix ko kn (shown p) → final_status p w ≡ 5
    → Under (final_operators p w) (λ ops. AppendsPrefix ko kn (output_of ops (final_runs p w)))
output_cut_row ko kn (Ok (Ran journal runs ops)) Wrote prefix e = absurd (run_is_not_5 runs e)
output_cut_row ko kn (Ok (Ran journal runs ops)) Cut prefix e = prefix
output_cut_row ko kn (Err want) w prefix e = absurd (omega arith)
output_cut_row ko kn (Ok p) Wanted prefix e = absurd (omega arith)
output_cut_row ko kn (Ok p) Wrote prefix e = absurd (omega arith)
output_cut_row ko kn (Ok p) Cut prefix e = absurd (omega arith)

-- where the source tells its text, what was written is under the operators of that text
pub output_told_row : (so ko kn : Option (List ℕ)) (runs : List Run) (o : Option Table) → Under o (λ ops. Appends ko kn (output_of ops runs))
    → IfSome so (λ text. o ≡ Some (operators_of text)) → IfSome so (λ text. Appends ko kn (output_of (operators_of text) runs))
output_told_row None ko kn runs o h is = tt
output_told_row (Some bytes) ko kn runs o h is = subst (λ (q : Option Table). Under q (λ ops. Appends ko kn (output_of ops runs))) is h

pub refusal_told_row : (sizes : Sizes) (command : Option Command) (so sn ko kn : Option (List ℕ)) (journal : Journal) (runs : List Run) (rk : Type 0) (o : Option Table)
    → Under o (HasRefused sizes command so sn journal runs rk ko kn)
    → IfSome so (λ text. IfSome (refusal_of text) (λ refusal. Gains rk ko kn (load_text (operators_of text) runs ++ refusal_text refusal)))
refusal_told_row sizes command None sn ko kn journal runs rk o h = tt
refusal_told_row sizes command (Some bytes) sn ko kn journal runs rk None h = absurd h
refusal_told_row sizes command (Some bytes) sn ko kn journal runs rk (Some ops) h =
    let P : Option Refusal → Type 0 = λ r. IfSome r (λ refusal. Gains rk ko kn (load_text (operators_of bytes) runs ++ refusal_text refusal)) in
    subst P (sym (told_refusal sizes h.asked.steps bytes sn journal runs (Some h.refusal) h.loaded))
    (refused_gains rk ko kn ops (operators_of bytes) runs h.refusal (h.operators ∙ told_operators sizes h.asked.steps bytes sn journal runs (Some h.refusal) h.loaded) h.gains)

-- ---- no other status

-- a text within the limit, and one past it
short : (bytes : List ℕ) (o : Option Refusal) (runs : List Run) → length bytes ≤ max_text
    → expected_of (nat_lt max_text (length bytes)) o runs ≡ expected_of false o runs
short bytes o runs le = ap (λ (b : Bool). expected_of b o runs) (le-ltb max_text (length bytes) le)

long : (bytes : List ℕ) (o : Option Refusal) (runs : List Run) → max_text < length bytes → expected_of (nat_lt max_text (length bytes)) o runs ≡ 8
long bytes o runs lt = ap (λ (b : Bool). expected_of b o runs) (lt-ltb max_text (length bytes) lt)

taken : (command : Option Command) (bytes : List ℕ) (runs : List Run) → IsSome command
    → expected command bytes runs ≡ expected_of (nat_lt max_text (length bytes)) (refusal_of bytes) runs
taken None bytes runs h = absurd cc
taken (Some goal) bytes runs h = refl

no_command : (command : Option Command) (bytes : List ℕ) (runs : List Run) → IsNone command → expected command bytes runs ≡ 2
no_command None bytes runs h = refl
no_command (Some goal) bytes runs h = absurd cc

is_some : (command : Option Command) (asked : Command) → command ≡ Some asked → IsSome command
is_some None asked h = cc
is_some (Some other) asked h = refl

expected_loaded : (sizes : Sizes) (budget : ℕ) (command : Option Command) (bytes : List ℕ) (sn : Option (List ℕ)) (journal : Journal) (loads : List Run) (refused : Option Refusal)
    (runs : List Run) → IsSome command → HasLoaded sizes budget (Some bytes) sn journal loads refused → expected command bytes runs ≡ expected_of false refused runs
expected_loaded sizes budget command bytes sn journal loads refused runs some h =
    taken command bytes runs some ∙ short bytes (refusal_of bytes) runs (told_fits bytes sn h.text h.took)
    ∙ ap (λ (o : Option Refusal). expected_of false o runs) (told_refusal sizes budget bytes sn journal loads refused h)

-- what was prepared has the status that is expected
expected_told : (sizes : Sizes) (command : Option Command) (bytes : List ℕ) (sn : Option (List ℕ)) (p : Prepared) → (p ≡ SourceFailed → ⊥) →
    Prepares sizes command (Some bytes) sn p → status_before p ≡ expected command bytes (runs_left p)
expected_told sizes command bytes sn BadWords other h = sym (no_command command bytes [] h.0)
expected_told sizes command bytes sn SourceFailed other h = absurd (other refl)
expected_told sizes command bytes sn TooLong other h = sym (taken command bytes [] h.0 ∙ long bytes (refusal_of bytes) [] (told_long bytes sn h.1))
expected_told sizes command bytes sn (Refused journal runs ops refusal) other h =
    sym (expected_loaded sizes h.asked.steps command bytes sn journal runs (Some refusal) runs (is_some command h.asked h.asked_is) h.loaded)
expected_told sizes command bytes sn (Ran journal runs ops) other h =
    sym (expected_loaded sizes h.asked.steps command bytes sn h.first h.loads None runs (is_some command h.asked h.asked_is) h.loaded)

-- words that are taken lead to another status than 2
not_two : (b : Bool) (o : Option Refusal) (runs : List Run) → expected_of b o runs ≡ 2 → ⊥
not_two true o runs e = omega arith
not_two false (Some refusal) runs e = omega arith
not_two false None runs e = run_is_not_2 runs e

taken_not_two : (command : Option Command) (bytes : List ℕ) (runs : List Run) → IsSome command → expected command bytes runs ≡ 2 → ⊥
taken_not_two command bytes runs h e = not_two _ _ runs (sym (taken command bytes runs h) ∙ e)

pub complete_row : (sizes : Sizes) (command : Option Command) (so sn : Option (List ℕ)) (rs rk : Type 0) (p : Result Prepared Want) (w : Written) →
    IfOk p (Prepares sizes command so sn) → IfOk p (λ x. x ≡ SourceFailed → rs) → (w ≡ Cut → rk) →
    IfSome so (λ bytes. Ends (expected command bytes (final_runs p w)) rs rk (final_status p w))
complete_row sizes command None sn rs rk p w h f cut = tt
complete_row sizes command (Some bytes) sn rs rk (Err want) w h f cut = inr (inl refl)
complete_row sizes command (Some bytes) sn rs rk (Ok p) Wanted h f cut = inr (inl refl)
complete_row sizes command (Some bytes) sn rs rk (Ok SourceFailed) Wrote h f cut = inr (inr (inl (refl, taken_not_two command bytes [] h, f refl)))
complete_row sizes command (Some bytes) sn rs rk (Ok SourceFailed) Cut h f cut = inr (inr (inl (refl, taken_not_two command bytes [] h, f refl)))
complete_row sizes command (Some bytes) sn rs rk (Ok (Ran journal runs ops)) Cut h f cut =
    inr (inr (inr (refl, subst IsRun (expected_told sizes command bytes sn (Ran journal runs ops) (λ e. cc) h) (status_small runs), cut refl)))
complete_row sizes command (Some bytes) sn rs rk (Ok p) Wrote h f cut = inl (expected_told sizes command bytes sn p (λ e. cc) h)
complete_row sizes command (Some bytes) sn rs rk (Ok p) Cut h f cut = inl (expected_told sizes command bytes sn p (λ e. cc) h)

-- ---- the source, want of memory, and every status

pub unread_row : (sizes : Sizes) (command : Option Command) (so sn : Option (List ℕ)) (p : Result Prepared Want) (w : Written) →
    IfOk p (Prepares sizes command so sn) → final_status p w ≡ 2 → Keeps so sn
unread_row sizes command so sn (Err want) w h e = absurd (omega arith)
unread_row sizes command so sn (Ok BadWords) w h e = h.1
unread_row sizes command so sn (Ok (Ran journal runs ops)) Wrote h e = absurd (run_is_not_2 runs e)
unread_row sizes command so sn (Ok p) Wrote h e = absurd (omega arith)
unread_row sizes command so sn (Ok p) Cut h e = absurd (omega arith)
unread_row sizes command so sn (Ok p) Wanted h e = absurd (omega arith)

pub too_long_read_row : (sizes : Sizes) (command : Option Command) (so sn : Option (List ℕ)) (p : Result Prepared Want) (w : Written) →
    IfOk p (Prepares sizes command so sn) → final_status p w ≡ 8 → IsTooLong so sn
too_long_read_row sizes command so sn (Err want) w h e = absurd (omega arith)
too_long_read_row sizes command so sn (Ok TooLong) w h e = h.1
too_long_read_row sizes command so sn (Ok (Ran journal runs ops)) Wrote h e = absurd (run_is_not_8 runs e)
too_long_read_row sizes command so sn (Ok p) Wrote h e = absurd (omega arith)
too_long_read_row sizes command so sn (Ok p) Cut h e = absurd (omega arith)
too_long_read_row sizes command so sn (Ok p) Wanted h e = absurd (omega arith)

take-nil : (n : ℕ) → take {A = ℕ} n [] ≡ []
take-nil zero = refl
take-nil (suc n) = refl

nothing : (ko kn : Option (List ℕ)) → AppendsPrefix ko kn [] → Appends ko kn []
nothing ko kn h = subst (λ (s : List ℕ). Appends ko kn s) (take-nil h.0) h.1

-- at want of memory the sink gained nothing, or a prefix of what was to be written
pub wanted_row : (sizes : Sizes) (command : Option Command) (so sn ko kn : Option (List ℕ)) (rs : Type 0) (p : Result Prepared Want) →
    IfOk p (Prepares sizes command so sn) → IfOk p (λ x. x ≡ SourceFailed → rs) → AppendsPrefix ko kn (shown p) →
    Appends ko kn [] ⊎ HasBegun sizes command rs so sn ko kn
wanted_row sizes command so sn ko kn rs (Err want) h f prefix = inl (nothing ko kn prefix)
wanted_row sizes command so sn ko kn rs (Ok BadWords) h f prefix = inr (record { text = bad_words_text; cause = of_bad_words h.0; prefix = prefix })
wanted_row sizes command so sn ko kn rs (Ok SourceFailed) h f prefix = inr (record { text = source_text; cause = of_source h (f refl); prefix = prefix })
wanted_row sizes command so sn ko kn rs (Ok TooLong) h f prefix = inr (record { text = too_long_text; cause = of_too_long h.0 h.1; prefix = prefix })
wanted_row sizes command so sn ko kn rs (Ok (Refused journal runs ops refusal)) h f prefix =
    inr (record {
      text = load_text (operators_of h.loaded.text) runs ++ refusal_text refusal;
      cause = of_refusal h.asked journal runs refusal h.asked_is h.loaded;
      prefix = subst (λ (t : Table). AppendsPrefix ko kn (load_text t runs ++ refusal_text refusal)) h.operators prefix;
    })
wanted_row sizes command so sn ko kn rs (Ok (Ran journal runs ops)) h f prefix =
    inr (record {
      text = output_of ops runs;
      cause = of_runs journal runs ops h;
      prefix = prefix;
    })

pub statuses_row : (p : Result Prepared Want) (w : Written) → IsStatus (final_status p w)
statuses_row (Err want) w = inr (inr (inr (inl refl)))
statuses_row (Ok p) Wanted = inr (inr (inr (inl refl)))
statuses_row (Ok BadWords) w = inr (inl refl)
statuses_row (Ok SourceFailed) w = inr (inr (inl refl))
statuses_row (Ok TooLong) w = inr (inr (inr (inr refl)))
statuses_row (Ok (Refused journal runs ops refusal)) w = inl (inr refl)
statuses_row (Ok (Ran journal runs ops)) Cut = inl (inl (inr refl))
statuses_row (Ok (Ran journal runs ops)) Wrote = inl (inl (inl (status_small runs)))
