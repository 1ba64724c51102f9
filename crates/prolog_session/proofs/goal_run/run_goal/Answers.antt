use Rattle.std.proofs.Common.{◌≢◌, ◌∙◌, sym, subst, length}
use Rattle.std.proofs.lemmas.Bool.{true≢false}
use Rattle.prolog_terms.specs.Operators.{Table}
use Rattle.journal_base.specs.Plain.{plain_view}
use Rattle.wam_machine.specs.Runs.{IsRunOf}
use Rattle.wam_machine.specs.declared.run.RunEnd.TheVariants.{Want}
use Rattle.prolog_session.proofs.Ran.{out_before, run_by}
use Rattle.prolog_session.proofs.goal_run.run_goal.Goals as goal

pub solve-run-requires-clause-out : goal.solve-run-requires-clause-out
solve-run-requires-clause-out g c = out_before c.args.base c.in-Ok.engine.base c.requires.out c.in-Ok.ensures.ok

pub returns-clause-run : goal.returns-clause-run
returns-clause-run g c =
    let s = c.solve-run.ensures in
    let ended : c.solve-run.result.end ≢ Want = λ h. true≢false (sym (c.wants.ensures.1 h) ∙ c.if-wants.false) in
    run_by c.args.ops c.args.base c.in-Ok.engine.base c.solve-run.new.self.base _ _ _ _ _ c.requires.out c.in-Ok.ensures.ok c.into_parts-base.ensures.base s.becomes s.out
    (subst (λ (o : Table). IsRunOf o (plain_view c.solve-run.new.self.base) (length c.in-Ok.engine.base.entries) c.args.steps c.args.goal.now c.solve-run.result) c.in-Ok.ensures.ops s.run) ended
