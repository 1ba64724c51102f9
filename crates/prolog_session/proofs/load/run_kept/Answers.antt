use Rattle.std.proofs.Common.{◌≡◌, ◌<◌, sym, ◌∙◌, subst, List, length, get_or}
use Rattle.prolog_session.specs.declared.kept.TextGoal.{TextGoal}
use Rattle.prolog_session.proofs.Loads.{AreAllShown}
use Rattle.prolog_session.proofs.Takings.{kept_goes, kept_shown, of_load_after}
use Rattle.prolog_session.proofs.load.run_kept.Goals as goal

pub run_in_load-requires-clause-goal : goal.run_in_load-requires-clause-goal
run_in_load-requires-clause-goal g c =
    kept_shown c.loop-goal.goal-index c.items-goal-items.result.now c.goal-item.result c.loop-goal-test.true c.goal-item.is (subst AreAllShown (sym c.items-goal-items.ensures) c.requires.goals)

pub run_in_load-requires-clause-base : goal.run_in_load-requires-clause-base
run_in_load-requires-clause-base g c = of_load_after c.args.load.base c.loop-goal.base c.requires.base c.loop-goal.invariant.0

pub loop-goal-preserved : goal.loop-goal-preserved
loop-goal-preserved g c =
    let i = c.loop-goal.goal-index in
    let item = c.goal-item.result in
    let after = c.in_ok-base.ensures in
    let h = c.loop-goal.invariant in
    let low = subst (λ (xs : List TextGoal). i < length xs) c.items-goal-items.ensures c.loop-goal-test.true in
    let is = subst (λ (xs : List TextGoal). item ≡ get_or xs i item) c.items-goal-items.ensures c.goal-item.is in
    let goes = kept_goes c.args.load.base c.loop-goal.base _ c.args.load.ops c.loop-goal.ops c.args.steps i c.args.load.kept item c.args.load.runs c.loop-goal.runs _ low is h.0 h.2 h.1 after.base after.run in
    (goes.0, goes.1, after.ops ∙ h.2)
