-- Each row of the table of statuses, over how the preparation and the writing ended.
use Rattle.std.proofs.Common.{◌≡◌, inl, inr, ℕ, ◌+◌, ◌<◌, ◌≤◌, ◌++◌, Bool, true, false, List, length, None, Some, Ok, Err, refl, sym, ◌∙◌, ap, subst, arith, append-nil, length-append, IfOk, IfSome, IsSome, IsNone, All, Any, if◌then◌else◌}
use Rattle.std.proofs.lemmas.List.Folds.{Any-from_list_any, list_any_at}
use Rattle.std.specs.List.{list_any}
use Rattle.std.specs.declared.option.Option.{Option}
use Rattle.std.specs.declared.result.Result.{Result}
use Rattle.prolog_terms.specs.declared.want.Want.{Want}
use Rattle.journals.specs.Journal.{Journal}
use Rattle.journal_base.specs.declared.sizes.Sizes.{Sizes}
use Rattle.wam_machine.specs.declared.run.Run.{Run}
use Rattle.prolog_session.specs.declared.writing.Written.{Written}
use Rattle.prolog_session.specs.declared.writing.Written.TheVariants.{All as Wrote, Failed as Cut, Want as Wanted}
use Rattle.prolog_session.specs.declared.words.Command.{Command}
use Rattle.prolog_session.specs.declared.refusal.Refusal.{Refusal}
use Rattle.prolog_session.specs.declared.prepare.Prepared.{Prepared}
use Rattle.prolog_session.specs.declared.prepare.Prepared.TheVariants.{BadWords, SourceFailed, TooLong, Refused, Ran}
use Rattle.prolog_session.specs.WholeText.{max_text}
use Rattle.prolog_session.specs.Load.{IsLoadOf, operators_of, refusal_of}
use Rattle.prolog_session.specs.Runs.{status_of, ends_in_ball, ends_spent, EndsInBall, EndsSpent}
use Rattle.prolog_session.specs.Headline.{IsRun, HasRuns, Took, IsTooLong, HasLoaded}
use Rattle.prolog_session.specs.Prepared.{Prepares}
use Rattle.prolog_session.specs.Ends.{final_status, final_runs}

-- ---- the status of runs

abbrev as_status : Bool → Bool → ℕ
as_status b s = if b then 1 else if s then 7 else 0

small : (b s : Bool) → IsRun (as_status b s)
small true s = inr (inl refl)
small false true = inr (inr refl)
small false false = inl refl

pub status_small : (runs : List Run) → IsRun (status_of runs)
unfolding status_of
status_small runs = small (list_any ends_in_ball runs) (list_any ends_spent runs)

pub is_not : (k : ℕ) → IsRun k → (k ≡ 0 → ⊥) → (k ≡ 1 → ⊥) → (k ≡ 7 → ⊥) → ⊥
is_not k (inl e) zero one seven = zero e
is_not k (inr (inl e)) zero one seven = one e
is_not k (inr (inr e)) zero one seven = seven e

pub not_ran : (k : ℕ) → HasRuns k → (k ≡ 0 → ⊥) → (k ≡ 1 → ⊥) → (k ≡ 7 → ⊥) → (k ≡ 5 → ⊥) → ⊥
not_ran k (inl h) zero one seven five = is_not k h zero one seven
not_ran k (inr e) zero one seven five = five e

pub run_is_not : (k : ℕ) (runs : List Run) → (k ≡ 0 → ⊥) → (k ≡ 1 → ⊥) → (k ≡ 7 → ⊥) → status_of runs ≡ k → ⊥
run_is_not k runs zero one seven e = is_not k (subst IsRun e (status_small runs)) zero one seven

pub run_is_not_2 : (runs : List Run) → status_of runs ≡ 2 → ⊥
run_is_not_2 runs e = run_is_not 2 runs (λ h. omega arith) (λ h. omega arith) (λ h. omega arith) e

pub run_is_not_3 : (runs : List Run) → status_of runs ≡ 3 → ⊥
run_is_not_3 runs e = run_is_not 3 runs (λ h. omega arith) (λ h. omega arith) (λ h. omega arith) e

pub run_is_not_4 : (runs : List Run) → status_of runs ≡ 4 → ⊥
run_is_not_4 runs e = run_is_not 4 runs (λ h. omega arith) (λ h. omega arith) (λ h. omega arith) e

pub run_is_not_5 : (runs : List Run) → status_of runs ≡ 5 → ⊥
run_is_not_5 runs e = run_is_not 5 runs (λ h. omega arith) (λ h. omega arith) (λ h. omega arith) e

pub run_is_not_6 : (runs : List Run) → status_of runs ≡ 6 → ⊥
run_is_not_6 runs e = run_is_not 6 runs (λ h. omega arith) (λ h. omega arith) (λ h. omega arith) e

pub run_is_not_8 : (runs : List Run) → status_of runs ≡ 8 → ⊥
run_is_not_8 runs e = run_is_not 8 runs (λ h. omega arith) (λ h. omega arith) (λ h. omega arith) e

ball_is : (b s : Bool) → as_status b s ≡ 1 → b ≡ true
ball_is true s e = refl
ball_is false true e = absurd (omega arith)
ball_is false false e = absurd (omega arith)

spent_is : (b s : Bool) → as_status b s ≡ 7 → (b ≡ false) × (s ≡ true)
spent_is true s e = absurd (omega arith)
spent_is false true e = (refl, refl)
spent_is false false e = absurd (omega arith)

exhausted_is : (b s : Bool) → as_status b s ≡ 0 → (b ≡ false) × (s ≡ false)
exhausted_is true s e = absurd (omega arith)
exhausted_is false true e = absurd (omega arith)
exhausted_is false false e = (refl, refl)

no_run : (test : Run → Bool) (runs : List Run) → list_any test runs ≡ false → All (λ run. test run ≡ true → ⊥) runs
no_run test runs none = λ k d lt h. let some : list_any test runs ≡ true = list_any_at test runs k d lt h in cc

ball_runs : (runs : List Run) → status_of runs ≡ 1 → Any EndsInBall runs
unfolding status_of
ball_runs runs e = Any-from_list_any ends_in_ball runs (ball_is (list_any ends_in_ball runs) (list_any ends_spent runs) e)

spent_runs : (runs : List Run) → status_of runs ≡ 7 → All (λ run. EndsInBall run → ⊥) runs × Any EndsSpent runs
unfolding status_of
spent_runs runs e =
    let h = spent_is (list_any ends_in_ball runs) (list_any ends_spent runs) e in
    (no_run ends_in_ball runs h.0, Any-from_list_any ends_spent runs h.1)

exhausted_runs : (runs : List Run) → status_of runs ≡ 0 → All (λ run. EndsInBall run → ⊥) runs × All (λ run. EndsSpent run → ⊥) runs
unfolding status_of
exhausted_runs runs e =
    let h = exhausted_is (list_any ends_in_ball runs) (list_any ends_spent runs) e in
    (no_run ends_in_ball runs h.0, no_run ends_spent runs h.1)

-- ---- a told text

-- the text that was taken is the one that was told
pub told_text : (bytes : List ℕ) (new : Option (List ℕ)) (text : List ℕ) → Took (Some bytes) new text → text ≡ bytes
told_text bytes None text t = absurd t.took
told_text bytes (Some rest) text t = sym (t.took ∙ ap (λ (s : List ℕ). text ++ s) t.all ∙ append-nil text)

pub told_long : (bytes : List ℕ) (new : Option (List ℕ)) → IsTooLong (Some bytes) new → max_text < length bytes
told_long bytes None t = absurd t.took
told_long bytes (Some rest) t =
    let e : length bytes ≡ length t.bytes + length rest = ap (length {A = ℕ}) t.took ∙ length-append t.bytes rest in
    omega (arith, e, t.long)

pub told_fits : (bytes : List ℕ) (sn : Option (List ℕ)) (text : List ℕ) → Took (Some bytes) sn text → length bytes ≤ max_text
told_fits bytes sn text t = subst (λ (s : List ℕ). length s ≤ max_text) (told_text bytes sn text t) t.fits

pub told_refusal : (sizes : Sizes) (budget : ℕ) (bytes : List ℕ) (sn : Option (List ℕ)) (journal : Journal) (runs : List Run) (refused : Option Refusal)
    → HasLoaded sizes budget (Some bytes) sn journal runs refused → refusal_of bytes ≡ refused
told_refusal sizes budget bytes sn journal runs refused h = ap (λ (s : List ℕ). refusal_of s) (sym (told_text bytes sn h.text h.took)) ∙ h.refused_is

pub told_loads : (sizes : Sizes) (budget : ℕ) (bytes : List ℕ) (sn : Option (List ℕ)) (journal : Journal) (runs : List Run) (refused : Option Refusal)
    → HasLoaded sizes budget (Some bytes) sn journal runs refused → IsLoadOf sizes budget bytes journal runs
told_loads sizes budget bytes sn journal runs refused h = subst (λ (s : List ℕ). IsLoadOf sizes budget s journal runs) (told_text bytes sn h.text h.took) h.loads

pub told_operators : (sizes : Sizes) (budget : ℕ) (bytes : List ℕ) (sn : Option (List ℕ)) (journal : Journal) (runs : List Run) (refused : Option Refusal)
    → (h : HasLoaded sizes budget (Some bytes) sn journal runs refused) → operators_of h.text ≡ operators_of bytes
told_operators sizes budget bytes sn journal runs refused h = ap (λ (s : List ℕ). operators_of s) (told_text bytes sn h.text h.took)

-- ---- the rows

pub bad_words_row : (sizes : Sizes) (command : Option Command) (so sn : Option (List ℕ)) (p : Result Prepared Want) (w : Written) →
    IfOk p (Prepares sizes command so sn) → final_status p w ≡ 2 → IsNone command
bad_words_row sizes command so sn (Err want) w h e = absurd (omega arith)
bad_words_row sizes command so sn (Ok BadWords) Wrote h e = h.0
bad_words_row sizes command so sn (Ok BadWords) Cut h e = h.0
bad_words_row sizes command so sn (Ok (Ran journal runs ops)) Wrote h e = absurd (run_is_not_2 runs e)
bad_words_row sizes command so sn (Ok p) Wrote h e = absurd (omega arith)
bad_words_row sizes command so sn (Ok p) Cut h e = absurd (omega arith)
bad_words_row sizes command so sn (Ok p) Wanted h e = absurd (omega arith)

pub source_row : (rs : Type 0) (p : Result Prepared Want) (w : Written) → IfOk p (λ x. x ≡ SourceFailed → rs) → final_status p w ≡ 4 → rs
source_row rs (Err want) w h e = absurd (omega arith)
source_row rs (Ok SourceFailed) Wrote h e = h refl
source_row rs (Ok SourceFailed) Cut h e = h refl
source_row rs (Ok (Ran journal runs ops)) Wrote h e = absurd (run_is_not_4 runs e)
source_row rs (Ok p) Wrote h e = absurd (omega arith)
source_row rs (Ok p) Cut h e = absurd (omega arith)
source_row rs (Ok p) Wanted h e = absurd (omega arith)

pub too_long_row : (sizes : Sizes) (command : Option Command) (so sn : Option (List ℕ)) (p : Result Prepared Want) (w : Written) →
    IfOk p (Prepares sizes command so sn) → final_status p w ≡ 8 → IfSome so (λ text. max_text < length text)
too_long_row sizes command None sn p w h e = tt
too_long_row sizes command (Some bytes) sn (Err want) w h e = absurd (omega arith)
too_long_row sizes command (Some bytes) sn (Ok TooLong) Wrote h e = told_long bytes sn h.1
too_long_row sizes command (Some bytes) sn (Ok TooLong) Cut h e = told_long bytes sn h.1
too_long_row sizes command (Some bytes) sn (Ok (Ran journal runs ops)) Wrote h e = absurd (run_is_not_8 runs e)
too_long_row sizes command (Some bytes) sn (Ok p) Wrote h e = absurd (omega arith)
too_long_row sizes command (Some bytes) sn (Ok p) Cut h e = absurd (omega arith)
too_long_row sizes command (Some bytes) sn (Ok p) Wanted h e = absurd (omega arith)

some_refusal : (o : Option Refusal) (r : Refusal) → o ≡ Some r → IsSome o
some_refusal None r e = cc
some_refusal (Some x) r e = refl

pub refused_row : (sizes : Sizes) (command : Option Command) (so sn : Option (List ℕ)) (p : Result Prepared Want) (w : Written) →
    IfOk p (Prepares sizes command so sn) → final_status p w ≡ 3 → IfSome so (λ text. IsSome (refusal_of text))
refused_row sizes command None sn p w h e = tt
refused_row sizes command (Some bytes) sn (Err want) w h e = absurd (omega arith)
refused_row sizes command (Some bytes) sn (Ok (Refused journal runs ops refusal)) w h e = some_refusal _ refusal (told_refusal sizes h.asked.steps bytes sn journal runs (Some refusal) h.loaded)
refused_row sizes command (Some bytes) sn (Ok (Ran journal runs ops)) Wrote h e = absurd (run_is_not_3 runs e)
refused_row sizes command (Some bytes) sn (Ok p) Wrote h e = absurd (omega arith)
refused_row sizes command (Some bytes) sn (Ok p) Cut h e = absurd (omega arith)
refused_row sizes command (Some bytes) sn (Ok p) Wanted h e = absurd (omega arith)

pub sink_row : (rk : Type 0) (p : Result Prepared Want) (w : Written) → (w ≡ Cut → rk) → final_status p w ≡ 5 → rk
sink_row rk (Err want) w h e = absurd (omega arith)
sink_row rk (Ok (Ran journal runs ops)) Cut h e = h refl
sink_row rk (Ok (Ran journal runs ops)) Wrote h e = absurd (run_is_not_5 runs e)
sink_row rk (Ok p) Wrote h e = absurd (omega arith)
sink_row rk (Ok p) Cut h e = absurd (omega arith)
sink_row rk (Ok p) Wanted h e = absurd (omega arith)

-- a status of runs comes from runs that were written
from_runs : (P : List Run → Type 0) (k : ℕ) → IsRun k → ((runs : List Run) → status_of runs ≡ k → P runs) → (p : Result Prepared Want) (w : Written)
    → final_status p w ≡ k → P (final_runs p w)
from_runs P k is h (Err want) w e = absurd (is_not k is (λ z. omega arith) (λ z. omega arith) (λ z. omega arith))
from_runs P k is h (Ok p) Wanted e = absurd (is_not k is (λ z. omega arith) (λ z. omega arith) (λ z. omega arith))
from_runs P k is h (Ok (Ran journal runs ops)) Wrote e = h runs e
from_runs P k is h (Ok p) Wrote e = absurd (is_not k is (λ z. omega arith) (λ z. omega arith) (λ z. omega arith))
from_runs P k is h (Ok BadWords) Cut e = absurd (is_not k is (λ z. omega arith) (λ z. omega arith) (λ z. omega arith))
from_runs P k is h (Ok SourceFailed) Cut e = absurd (is_not k is (λ z. omega arith) (λ z. omega arith) (λ z. omega arith))
from_runs P k is h (Ok TooLong) Cut e = absurd (is_not k is (λ z. omega arith) (λ z. omega arith) (λ z. omega arith))
from_runs P k is h (Ok (Refused journal runs ops refusal)) Cut e = absurd (is_not k is (λ z. omega arith) (λ z. omega arith) (λ z. omega arith))
from_runs P k is h (Ok (Ran journal runs ops)) Cut e = absurd (is_not k is (λ z. omega arith) (λ z. omega arith) (λ z. omega arith))

pub ball_row : (p : Result Prepared Want) (w : Written) → final_status p w ≡ 1 → Any EndsInBall (final_runs p w)
ball_row p w e = from_runs (λ runs. Any EndsInBall runs) 1 (inr (inl refl)) ball_runs p w e

pub spent_row : (p : Result Prepared Want) (w : Written) → final_status p w ≡ 7
    → All (λ run. EndsInBall run → ⊥) (final_runs p w) × Any EndsSpent (final_runs p w)
spent_row p w e = from_runs (λ runs. All (λ run. EndsInBall run → ⊥) runs × Any EndsSpent runs) 7 (inr (inr refl)) spent_runs p w e

pub exhausted_row : (p : Result Prepared Want) (w : Written) → final_status p w ≡ 0
    → All (λ run. EndsInBall run → ⊥) (final_runs p w) × All (λ run. EndsSpent run → ⊥) (final_runs p w)
exhausted_row p w e = from_runs (λ runs. All (λ run. EndsInBall run → ⊥) runs × All (λ run. EndsSpent run → ⊥) runs) 0 (inl refl) exhausted_runs p w e
