use Rattle.std.proofs.Common.{sym, subst}
use Rattle.std.specs.Prelude.{OnOk}
use Rattle.prolog_terms.specs.declared.entry.Kind.{Kind}
use Rattle.wam_machine.specs.Procedures.{adding_to}
use Rattle.wam_machine.specs.View.{setting, Asks}
use Rattle.wam_machine.proofs.Adding.{static_stays}
use Rattle.wam_machine.proofs.database.add_to.Goals as goal

pub returns-in_ok-unchangeable-in-Static-clause-asks : goal.returns-in_ok-unchangeable-in-Static-clause-asks
returns-in_ok-unchangeable-in-Static-clause-asks g c =
    static_stays (g.B.Base.view c.args.base.now) c.args.host.now c.args.machine.now c.args.addition.now.end c.args.addition.now.indicator.now c.args.addition.now.clause.now c.args.procedure c.args.kind
    c.in_ok-unchangeable-in-Static.field-0 c.in-Static.is c.in_ok-unchangeable-in-Static.ensures c.requires.front

pub returns-in-Dynamic-clause-asks : goal.returns-in-Dynamic-clause-asks
returns-in-Dynamic-clause-asks g c =
    subst (λ (k : Kind). OnOk c.add.result (Asks (g.B.Base.view c.args.base.now) (g.B.Base.view c.add.new.base)
    (λ j s. adding_to (setting c.args.host.now c.args.machine.now j) c.args.addition.now.end c.args.addition.now.indicator.now c.args.addition.now.clause.now s c.args.procedure k) c.args.machine.now c.add.new.machine))
    (sym c.in-Dynamic.is) c.add.ensures.asks
