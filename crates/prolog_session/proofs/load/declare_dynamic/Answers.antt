use Rattle.std.proofs.Common.{arith}
use Rattle.prolog_session.proofs.Dynamics.{dynamic_done, dynamic_already, dynamic_full, declaring_goes, declaring_full, declaring_number}
use Rattle.prolog_session.proofs.load.declare_dynamic.Goals as goal
use Rattle.prolog_session.proofs.load.declare_dynamic.Goals.{in-Done, in-Already}

pub procedures-preserved : goal.procedures-preserved
procedures-preserved g c =
    let i = c.indicator-item.result in
    let h = c.procedures.invariant in
    let zero = declaring_number c.args.base.now c.procedures.base _ _ h c.requires in
    elim c.match-declare.branch [
      | in-Done w ↦ let d = w.in-Done.ensures in
          declaring_goes c.args.base.now c.procedures.base c.declare.new.self c.args.indicators.now c.procedures.indicator-index i h (omega arith) c.indicator-item.is
          (dynamic_done c.procedures.base c.declare.new.self i _ zero d.becomes d.out d.declared)
      | in-Already w ↦ let d = w.in-Already.ensures in
          declaring_goes c.args.base.now c.procedures.base c.declare.new.self c.args.indicators.now c.procedures.indicator-index i h (omega arith) c.indicator-item.is
          (dynamic_already c.procedures.base c.declare.new.self i _ _ d.becomes d.out d.declared)
    ]

pub returns-in-Full : goal.returns-in-Full
returns-in-Full g c =
    let d = c.in-Full.ensures in
    declaring_full c.args.base.now c.procedures.base c.declare.new.self c.args.indicators.now c.procedures.indicator-index c.indicator-item.result c.procedures.invariant (omega arith) c.indicator-item.is
    (dynamic_full _ _ _ _ _ _ d.becomes d.out d.declared)
