use Rattle.std.proofs.Common.{ap, ◌∙◌}
use Rattle.prolog_terms.specs.Faults.{fault_tree}
use Rattle.wam_machine.specs.States.{no_room}
use Rattle.wam_machine.proofs.SweptOne.{erased_done, erased_gone, erased_full}
use Rattle.wam_machine.proofs.sweeping.erase_one.Goals as goal

pub returns-in-Done-clause-swept : goal.returns-in-Done-clause-swept
returns-in-Done-clause-swept g c =
    erased_done c.args.host.now (g.B.Base.view c.args.base.now) (g.B.Base.view c.ask_erasure.new.base) c.args.goal c.args.name c.args.machine.now c.ask_erasure.new.machine
    _ c.in_ok-asked.ensures.erases c.in-Done.is

pub returns-in-Gone-clause-swept : goal.returns-in-Gone-clause-swept
returns-in-Gone-clause-swept g c =
    erased_gone c.args.host.now (g.B.Base.view c.args.base.now) (g.B.Base.view c.ask_erasure.new.base) c.args.goal c.args.name c.args.machine.now c.ask_erasure.new.machine
    _ c.in_ok-asked.ensures.erases c.in-Gone.is

pub returns-in_ok-no_room_at-in-Full-clause-swept : goal.returns-in_ok-no_room_at-in-Full-clause-swept
returns-in_ok-no_room_at-in-Full-clause-swept g c =
    erased_full c.args.host.now (g.B.Base.view c.args.base.now) (g.B.Base.view c.ask_erasure.new.base) c.args.goal c.args.name c.args.machine.now c.ask_erasure.new.machine
    _ c.in_ok-asked.ensures.erases c.in-Full.is c.in_ok-no_room_at-in-Full.field-0
    (λ tree. c.in_ok-no_room_at-in-Full.ensures ∙ ap (fault_tree no_room) (c.in_ok-at-in-Full.ensures tree))
