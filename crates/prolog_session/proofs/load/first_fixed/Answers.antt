use Rattle.std.proofs.Common.{◌≡◌, true, false, sym, ◌∙◌, subst, arith}
use Rattle.journal_base.specs.Plain.{Plain}
use Rattle.prolog_session.specs.Load.{is_fixed}
use Rattle.prolog_session.proofs.Dynamics.{fixed_goes, fixed_found, fixed_end}
use Rattle.prolog_session.proofs.load.first_fixed.Goals as goal

pub procedures-preserved : goal.procedures-preserved
procedures-preserved c =
    let i = c.indicator-item.result in
    let h = c.procedures.invariant in
    let free : is_fixed c.args.base.now.entries i ≡ false = subst (λ (b : Plain). is_fixed b.entries i ≡ false) h.0 (sym c.is_fixed.ensures.fixed ∙ c.if-is_fixed.false) in
    (c.is_fixed.ensures.base ∙ h.0, fixed_goes c.args.base.now.entries c.args.indicators.now c.procedures.indicator-index i h.1 (omega arith) c.indicator-item.is free)

pub returns-then-is_fixed-clause-first : goal.returns-then-is_fixed-clause-first
returns-then-is_fixed-clause-first c =
    let i = c.indicator-item.result in
    let h = c.procedures.invariant in
    let fixed : is_fixed c.args.base.now.entries i ≡ true = subst (λ (b : Plain). is_fixed b.entries i ≡ true) h.0 (sym c.is_fixed.ensures.fixed ∙ c.if-is_fixed.true) in
    fixed_found c.args.base.now.entries c.args.indicators.now c.procedures.indicator-index i h.1 (omega arith) c.indicator-item.is fixed

pub returns-clause-first : goal.returns-clause-first
returns-clause-first c = fixed_end c.args.base.now.entries c.args.indicators.now c.procedures.indicator-index c.procedures.invariant.1 (omega arith)
