use Rattle.std.proofs.Common.{◌≡◌, ◌≤◌, ◌∙◌, ℕ, List, drop, sym, ap, subst, refl}
use Rattle.prolog_terms.specs.Tree.{Tree}
use Rattle.prolog_terms.specs.Operators.{Table}
use Rattle.journals.specs.Journal.{Journal}
use Rattle.journal_base.specs.View.{View, Grows, Looks, IsSound, entries_by}
use Rattle.wam_machine.specs.States.{Setting}
use Rattle.wam_machine.specs.Machine.{shown_list}
use Rattle.wam_machine.specs.Runs.{IsRunOf, IsTranscribed}
use Rattle.wam_machine.specs.Cursors.{Begins}
use Rattle.prolog_terms.specs.declared.shown.Shown.{Shown}
use Rattle.wam_machine.specs.Terms.{Said, said}
use Rattle.wam_machine.specs.View.{Makes, run_of}
use Rattle.wam_machine.specs.declared.run.Goal.{Goal}
use Rattle.wam_machine.specs.declared.run.Run.{Run}
use Rattle.wam_machine.proofs.Begins.{begins_self, begins_before, grows_trans, made_since, makes_as}
use Rattle.wam_machine.proofs.running.run.Goals as goal

-- a run's setting, by its parts
abbrev set : Table → Goal → ℕ → ℕ → ℕ → ℕ → ℕ → Journal → Setting
set ops goal budget engine words updates start J = record { engine = engine; journal = J; words = words; updates = updates; start = start; budget = budget; shown = shown_list goal.shown; ops = ops }

same_settings : (ops : Table) (goal : Goal) (budget a b w x u y s t : ℕ) (J : Journal) → a ≡ b → w ≡ x → u ≡ y → s ≡ t → set ops goal budget a w u s J ≡ set ops goal budget b x y t J
same_settings ops goal budget a b w x u y s t J e f g h = rw (e, f, g, h) refl

ended_so : (ops : Table) (u v w : View) (engine words updates start budget : ℕ) (goal : Goal) (run : Run) → IsSound u → Grows u v → Looks v w → engine ≡ u.number → words ≡ u.words → updates ≡ u.updates → start ≡ u.seen
    → run.engine ≡ engine → run.line ≡ 0 → run.steps ≤ budget → run.shown ≡ goal.shown
    → Makes u v (λ made. (j : Journal) → Begins v j → entries_by engine (drop start j) ≡ made → IsTranscribed (set ops goal budget engine words updates start j) v.causes goal.term run)
    → IsRunOf ops w u.seen budget goal run
ended_so ops u v w engine words updates start budget goal run sound before after number wide many at is line within shown ended = record {
  engine = is ∙ engine_is;
  line = line;
  within = within;
  shown = λ _. shown;
  transcribed = λ _ J stands.
      let b = begins_before v w J after.grows (begins_self w J stands) in
      let settings = same_settings ops goal budget engine w.number words w.words updates w.updates start u.seen J engine_is (wide ∙ sym (grown.words)) (many ∙ sym (grown.updates)) at in
      let all = made_since u w J ended.made sound grown (after.own ∙ ended.own) stands in
      let here : entries_by engine (drop start J) ≡ ended.made = ap (λ (k : ℕ). entries_by k (drop start J)) engine_is ∙ ap (λ (k : ℕ). entries_by w.number (drop k J)) at ∙ all in
      subst (λ x. IsTranscribed x w.causes goal.term run) settings
      (subst (λ cs. IsTranscribed (set ops goal budget engine words updates start J) cs goal.term run) (sym after.grows.causes) (ended.so J b here));
}
  where
    grown : Grows u w
    grown = grows_trans u v w before after.grows

    engine_is : engine ≡ w.number
    engine_is = number ∙ sym grown.number

pub returns-in-Ok-clause-run : goal.returns-in-Ok-clause-run
returns-in-Ok-clause-run g c =
    let u = g.B.Base.view c.args.base.now in
    let v = g.B.Base.view c.moves-ended.new.base in
    let w = g.B.Base.view c.clear.new.base in
    let goal_now : Goal = c.args.goal.now in
    let run : Run = run_of c.number.result goal_now.shown c.moves-ended.new.machine c.in-Ok.end in
    let shown : (said c.in_ok-machine.machine.terms).shown ≡ shown_list goal_now.shown = ap (λ (t : Said _). t.shown) c.in_ok-machine.ensures.said_is in
    let settings = λ (j : Journal).
    ap (λ (t : Tree). let x : Setting = record { engine = c.number.result; journal = j; words = c.limits.result.words; updates = c.limits.result.updates; start = c.front.result; budget = c.args.budget; shown = t; ops = c.args.ops.now } in x) shown in
    let same : c.into_run.result ≡ run = c.into_run.ensures ∙ ap (λ (s : List Shown). run_of c.number.result s c.moves-ended.new.machine c.in-Ok.end) c.in_ok-shown.ensures.cases in
    subst (IsRunOf c.args.ops.now w u.seen c.args.budget goal_now) (sym same)
    (ended_so c.args.ops.now u v w c.number.result c.limits.result.words c.limits.result.updates c.front.result c.args.budget goal_now run c.front.ensures.sound c.in-Ok.ensures.seen c.clear.ensures.seen
    c.number.ensures c.limits.ensures.words c.limits.ensures.updates c.front.ensures.front refl refl c.in-Ok.ensures.within refl
    (makes_as u v _ _
    (λ made h j b all. subst (λ (x : Setting). IsTranscribed x v.causes goal_now.term run) (settings j) (h j b all)) c.in-Ok.ensures.ended))

pub returns-in-Ok-clause-seen : goal.returns-in-Ok-clause-seen
returns-in-Ok-clause-seen g c = grows_trans _ _ _ c.in-Ok.ensures.seen c.clear.ensures.seen.grows

pub returns-in-Err-clause-seen : goal.returns-in-Err-clause-seen
returns-in-Err-clause-seen g c = grows_trans _ _ _ c.in-Err.ensures.seen c.clear.ensures.seen.grows
