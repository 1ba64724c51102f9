use Rattle.std.proofs.Common.{sym, ◌∙◌, ap, subst, List}
use Rattle.std.proofs.lemmas.Result.{on_ok_weaker}
use Rattle.prolog_terms.specs.declared.entry.Indicator.{Indicator}
use Rattle.prolog_session.specs.Load.{first_fixed}
use Rattle.prolog_session.specs.Bases.{HasDynamics}
use Rattle.prolog_session.proofs.Dynamics.{same_but, ok_always, nothing_declared, all_declared, declared_base}
use Rattle.prolog_session.proofs.load.add_dynamic.Goals as goal

pub returns-in-Some-clause-base : goal.returns-in-Some-clause-base
returns-in-Some-clause-base g c = ok_always c.push.result _ (same_but c.args.base.now c.first_fixed.new.base c.args.base.now.entries c.first_fixed.ensures.base)

pub returns-in-Some-clause-loaded : goal.returns-in-Some-clause-loaded
returns-in-Some-clause-loaded g c =
    let first = ap (first_fixed c.args.base.now.entries) (sym c.items-indicators.ensures) ∙ c.in-Some.ensures.first in
    on_ok_weaker c.push.result
    (λ adds. nothing_declared c.args.base.now c.first_fixed.new.base c.args.line c.args.indicators.now _ c.args.runs.now c.push.new.self _ c.first_fixed.ensures.base first c.in_ok-unchangeable.ensures adds)
    c.push.ensures

pub returns-clause-base : goal.returns-clause-base
returns-clause-base g c = ok_always c.add_run.result _ (declared_base c.args.base.now c.first_fixed.new.base c.declare_dynamic.new.base _ _ c.first_fixed.ensures.base c.in_ok-fits.ensures)

pub returns-clause-loaded : goal.returns-clause-loaded
returns-clause-loaded g c =
    let first = ap (first_fixed c.args.base.now.entries) (sym c.items-indicators.ensures) ∙ c.in_default.ensures.first in
    let has = subst (λ (is : List Indicator). HasDynamics c.first_fixed.new.base c.declare_dynamic.new.base is c.in_ok-fits.fits) c.items-indicators.ensures c.in_ok-fits.ensures in
    on_ok_weaker c.add_run.result
    (λ adds. all_declared c.args.base.now c.first_fixed.new.base c.declare_dynamic.new.base c.args.line c.args.indicators.now c.args.runs.now c.add_run.new.runs _ _ c.first_fixed.ensures.base first has c.in_ok-at.ensures adds)
    c.add_run.ensures
