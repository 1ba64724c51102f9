use Rattle.std.proofs.Common.{ap, ◌∙◌, sym, None}
use Rattle.std.proofs.lemmas.Result.{on_ok_weaker}
use Rattle.prolog_terms.specs.Faults.{fault_tree}
use Rattle.wam_machine.specs.Procedures.{abolish_at, abolishing, sweeping_named}
use Rattle.wam_machine.specs.Naming.{naming_of}
use Rattle.wam_machine.specs.Terms.{built}
use Rattle.wam_machine.specs.View.{setting}
use Rattle.wam_machine.proofs.AsksOn.{makes_goes}
use Rattle.wam_machine.proofs.sweeping.abolish.Goals as goal

pub returns-in-Names-clause-goes : goal.returns-in-Names-clause-goes
returns-in-Names-clause-goes g c =
    let m = c.args.machine.now in
    let t = built m.terms c.args.named in
    let v = g.B.Base.view c.args.base.now in
    let w = g.B.Base.view c.sweep_named.new.base in
    on_ok_weaker c.sweep_named.result
    (λ r. makes_goes g.B.Base.rest g.B.Base.may_visit g.B.Base.looked_at g.B.Base.ahead w.causes v w
    (λ j s. sweeping_named (setting c.args.host.now m j) None s c.in-Names.indicator) (λ j s. abolishing (setting c.args.host.now m j) s (naming_of t)) m c.sweep_named.new.machine
    (λ j b s. ap (abolishing (setting c.args.host.now m j) s) (sym c.in_ok-found.ensures ∙ c.in-Names.is))
    r)
    c.sweep_named.ensures.goes

pub returns-in_ok-ball-in-NamesNone-clause-goes : goal.returns-in_ok-ball-in-NamesNone-clause-goes
returns-in_ok-ball-in-NamesNone-clause-goes g c =
    let m = c.args.machine.now in
    let t = built m.terms c.args.named in
    c.raise.ensures.goes c.in-NamesNone.fault abolish_at (λ j s. abolishing (setting c.args.host.now m j) s (naming_of t))
    (c.in_ok-ball-in-NamesNone.ensures ∙ ap (fault_tree c.in-NamesNone.fault) c.in_ok-at-in-NamesNone.ensures)
    (λ j s. ap (abolishing (setting c.args.host.now m j) s) (sym c.in_ok-found.ensures ∙ c.in-NamesNone.is))
