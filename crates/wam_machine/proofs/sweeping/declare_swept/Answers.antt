use Rattle.std.proofs.Common.{ap, ◌∙◌}
use Rattle.std.proofs.lemmas.Result.{on_ok_weaker}
use Rattle.prolog_terms.specs.Faults.{fault_tree}
use Rattle.wam_machine.specs.States.{no_room}
use Rattle.wam_machine.proofs.Begins.{grows_refl}
use Rattle.wam_machine.proofs.Asked.{taken_front, taking_front}
use Rattle.wam_machine.proofs.SweptKinds.{swept_declared, swept_full, swept_already}
use Rattle.wam_machine.proofs.sweeping.declare_swept.Goals as goal

pub returns-in_ok-take_front-in-Done-clause-asks : goal.returns-in_ok-take_front-in-Done-clause-asks
returns-in_ok-take_front-in-Done-clause-asks g c =
    let taken = c.in_ok-take_front-in-Done.ensures in
    swept_declared (g.B.Base.view c.args.base.now) (g.B.Base.view c.declare.new.self) c.args.host.now c.args.machine.now c.take_front.new.machine
    (taking_front _ _ _ taken.same taken.mode taken.front taken.fronts) c.requires.front c.requires.host c.args.indicator.now c.requires.sound c.in-Done.ensures.declared.0

pub declared_before-requires : goal.declared_before-requires
declared_before-requires g c =
    let taken = c.in_ok-take_front-in-Already.ensures in
    record { front = taken_front (g.B.Base.view c.declare.new.self) c.args.machine.now c.take_front-in-Already.new.machine taken.sound (taking_front _ _ _ taken.same taken.mode taken.front taken.fronts) }

pub returns-in_ok-take_front-in-Already-clause-seen : goal.returns-in_ok-take_front-in-Already-clause-seen
returns-in_ok-take_front-in-Already-clause-seen g c = c.in-Already.ensures.declared.0.grows

pub returns-in_ok-take_front-in-Already-clause-asks : goal.returns-in_ok-take_front-in-Already-clause-asks
returns-in_ok-take_front-in-Already-clause-asks g c =
    let u = g.B.Base.view c.declare.new.self in
    let taken = c.in_ok-take_front-in-Already.ensures in
    let found = c.in-Already.ensures.declared in
    on_ok_weaker c.declared_before.result
    (swept_already (g.B.Base.view c.args.base.now) u c.args.host.now c.args.machine.now c.take_front-in-Already.new.machine
    (taking_front _ _ _ taken.same taken.mode taken.front taken.fronts) c.requires.front c.requires.host c.args.indicator.now u c.declared_before.new.machine
    c.in-Already._procedure c.in-Already.kind (grows_refl u taken.sound) found.0 found.1)
    c.declared_before.ensures.asks

pub returns-in_ok-no_room_at-in-Full-clause-asks : goal.returns-in_ok-no_room_at-in-Full-clause-asks
returns-in_ok-no_room_at-in-Full-clause-asks g c =
    let taken = c.in_ok-take_front-in-Full.ensures in
    let full = c.in-Full.ensures.declared in
    swept_full (g.B.Base.view c.args.base.now) (g.B.Base.view c.declare.new.self) c.args.host.now c.args.machine.now c.take_front-in-Full.new.machine
    (taking_front _ _ _ taken.same taken.mode taken.front taken.fronts) c.requires.front c.requires.host c.args.indicator.now
    c.in-Full.used c.in-Full.need c.in-Full.updates c.in_ok-no_room_at-in-Full.field-0 full.0 full.1 full.2
    (c.in_ok-no_room_at-in-Full.ensures ∙ ap (fault_tree no_room) c.in_ok-at-in-Full.ensures)
