use Rattle.wam_machine.proofs.Begins.{begins_self}
use Rattle.wam_machine.proofs.Adding.{may_add, added_done, added_full}
use Rattle.wam_machine.proofs.database.add.Goals as goal

pub add-requires : goal.add-requires
add-requires g c = λ J s.
    may_add _ _ c.args.procedure c.args.addition.now.indicator.now c.args.addition.now.clause.now c.requires.clause c.requires.headed (c.requires.found J (begins_self (g.B.Base.view c.args.base.now) J s))

pub returns-in_ok-take_front-in-Done-clause-asks : goal.returns-in_ok-take_front-in-Done-clause-asks
returns-in_ok-take_front-in-Done-clause-asks g c =
    let taken = c.in_ok-take_front-in-Done.ensures in
    added_done (g.B.Base.view c.args.base.now) (g.B.Base.view c.add.new.self) c.args.host.now c.args.machine.now c.take_front.new.machine
    (record { same = taken.same; mode = taken.mode; front = taken.front; fronts = taken.fronts }) c.requires.front c.requires.host c.args.addition.now.end c.args.addition.now.clause.now c.args.procedure
    c.requires.sound c.in-Done.ensures.added.0

pub returns-in_ok-without_room-in-Full-clause-asks : goal.returns-in_ok-without_room-in-Full-clause-asks
returns-in_ok-without_room-in-Full-clause-asks g c =
    let taken = c.in_ok-take_front-in-Full.ensures in
    let full = c.in-Full.ensures.added in
    added_full (g.B.Base.view c.args.base.now) (g.B.Base.view c.add.new.self) c.args.host.now c.args.machine.now c.take_front-in-Full.new.machine
    (record { same = taken.same; mode = taken.mode; front = taken.front; fronts = taken.fronts }) c.requires.front c.requires.host c.args.addition.now.end c.args.addition.now.clause.now c.args.procedure
    c.in-Full.used c.in-Full.need c.in-Full.updates c.in_ok-without_room-in-Full.field-0 full.0 full.1 c.in_ok-without_room-in-Full.ensures
