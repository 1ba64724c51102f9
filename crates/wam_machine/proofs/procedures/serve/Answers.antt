use Rattle.std.proofs.Common.{◌≡◌, ◌∙◌, ap, refl}
use Rattle.std.proofs.lemmas.Result.{on_ok_weaker}
use Rattle.wam_machine.specs.Terms.{built}
use Rattle.wam_machine.specs.declared.terms.Purpose.{Purpose}
use Rattle.wam_machine.specs.declared.terms.Purpose.TheVariants as purpose_is
use Rattle.wam_machine.specs.declared.terms.Use.TheVariants as use_is
use Rattle.wam_machine.proofs.Begins.{grows_refl}
use Rattle.wam_machine.proofs.Served.{serves_apart, serves_quiet, serves_erased}
use Rattle.wam_machine.proofs.procedures.serve.Goals as goal

pub returns-then-not-met-clause-seen : goal.returns-then-not-met-clause-seen
returns-then-not-met-clause-seen g c = grows_refl _ c.requires.sound

pub returns-then-not-met-clause-asks : goal.returns-then-not-met-clause-asks
returns-then-not-met-clause-asks g c =
    serves_apart c.args.host.now c.args.machine.now (built c.args.machine.now.terms) c.args.used c.args.name c.args.met (g.B.Base.view c.args.base.now) c.if-not-met.true c.requires.front

pub returns-in-Enter-clause-seen : goal.returns-in-Enter-clause-seen
returns-in-Enter-clause-seen g c = grows_refl _ c.requires.sound

pub returns-in-Enter-clause-asks : goal.returns-in-Enter-clause-asks
returns-in-Enter-clause-asks g c =
    serves_quiet c.args.host.now c.args.machine.now (built c.args.machine.now.terms) c.args.used c.args.name c.args.met (g.B.Base.view c.args.base.now) use_is.Enter c.if-not-met.false c.in-Enter.is
    (λ x s. refl) c.requires.front

pub returns-in-Match-Show-default-clause-seen : goal.returns-in-Match-Show-default-clause-seen
returns-in-Match-Show-default-clause-seen g c = grows_refl _ c.requires.sound

pub returns-in-Match-Show-default-clause-asks : goal.returns-in-Match-Show-default-clause-asks
returns-in-Match-Show-default-clause-asks g c =
    let a = c.in-Match-Show-default in
    let e : a.field-0 ≡ purpose_is.Show = rw a.is at a.field-0-is in
    serves_quiet c.args.host.now c.args.machine.now (built c.args.machine.now.terms) c.args.used c.args.name c.args.met (g.B.Base.view c.args.base.now) (use_is.Match purpose_is.Show a.field-1) c.if-not-met.false
    (a.is ∙ ap (λ (p : Purpose). use_is.Match p a.field-1) e) (λ x s. refl) c.requires.front

pub returns-in-Match-Erase-default-clause-asks : goal.returns-in-Match-Erase-default-clause-asks
returns-in-Match-Erase-default-clause-asks g c =
    let a = c.in-Match-Erase-default in
    let e : a.field-0 ≡ purpose_is.Erase = rw a.is at a.field-0-is in
    on_ok_weaker c.retract_one.result
    (serves_erased c.args.host.now c.args.machine.now (built c.args.machine.now.terms) c.args.used c.args.name c.args.met (g.B.Base.view c.args.base.now) (g.B.Base.view c.retract_one.new.base)
    c.retract_one.new.machine a.field-1 c.if-not-met.false (a.is ∙ ap (λ (p : Purpose). use_is.Match p a.field-1) e))
    c.retract_one.ensures.asks
