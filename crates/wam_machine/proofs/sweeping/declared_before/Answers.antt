use Rattle.std.proofs.Common.{ap, ◌∙◌}
use Rattle.prolog_terms.specs.Faults.{fault_tree}
use Rattle.wam_machine.specs.Procedures.{no_change}
use Rattle.wam_machine.proofs.SweptKinds.{declared_static, declared_dynamic}
use Rattle.wam_machine.proofs.sweeping.declared_before.Goals as goal

pub returns-in_ok-unchangeable_at-in-Static-clause-asks : goal.returns-in_ok-unchangeable_at-in-Static-clause-asks
returns-in_ok-unchangeable_at-in-Static-clause-asks g c =
    declared_static (g.B.Base.view c.args.base.now) c.args.machine.now c.args.indicator.now c.args.kind c.in_ok-unchangeable_at-in-Static.field-0 c.in-Static.is
    (c.in_ok-unchangeable_at-in-Static.ensures ∙ ap (fault_tree (no_change c.args.indicator.now)) c.in_ok-at-in-Static.ensures) c.requires.front

pub returns-in-Dynamic-clause-asks : goal.returns-in-Dynamic-clause-asks
returns-in-Dynamic-clause-asks g c = declared_dynamic (g.B.Base.view c.args.base.now) c.args.machine.now c.args.indicator.now c.args.kind c.in-Dynamic.is c.requires.front
