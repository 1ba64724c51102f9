use Rattle.std.proofs.Common.{ap, Option}
use Rattle.std.specs.Prelude.{option_map}
use Rattle.std.proofs.lemmas.Result.{on_ok_weaker}
use Rattle.term_store.specs.declared.cell.Cell.{Cell}
use Rattle.wam_machine.specs.States.{Goes}
use Rattle.wam_machine.specs.Procedures.{absent_swept, declaring_swept}
use Rattle.wam_machine.specs.Terms.{built}
use Rattle.wam_machine.specs.View.{setting}
use Rattle.wam_machine.proofs.Asked.{asks_as, asks_nothing}
use Rattle.wam_machine.proofs.sweeping.sweep_none.Goals as goal

pub returns-in-None-clause-asks : goal.returns-in-None-clause-asks
returns-in-None-clause-asks g c =
    let v = g.B.Base.view c.args.base.now in
    let m = c.args.machine.now in
    asks_as v v (λ j s. Goes s) (λ j. absent_swept (setting c.args.host.now m j) (option_map (built m.terms) c.args.goal) c.args.indicator.now) m m
    (λ j b s. ap (λ (o : Option Cell). absent_swept (setting c.args.host.now m j) (option_map (built m.terms) o) c.args.indicator.now s) c.in-None.is)
    (asks_nothing v m c.requires.front)

pub returns-in-Some-clause-asks : goal.returns-in-Some-clause-asks
returns-in-Some-clause-asks g c =
    let v = g.B.Base.view c.args.base.now in
    let w = g.B.Base.view c.declare_swept.new.base in
    let m = c.args.machine.now in
    on_ok_weaker c.declare_swept.result
    (λ a. asks_as v w (λ j. declaring_swept (setting c.args.host.now m j) c.args.indicator.now)
    (λ j. absent_swept (setting c.args.host.now m j) (option_map (built m.terms) c.args.goal) c.args.indicator.now) m c.declare_swept.new.machine
    (λ j b s. ap (λ (o : Option Cell). absent_swept (setting c.args.host.now m j) (option_map (built m.terms) o) c.args.indicator.now s) c.in-Some.is)
    a)
    c.declare_swept.ensures.asks
