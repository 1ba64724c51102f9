use Rattle.std.proofs.Common.{◌≡◌, Some}
use Rattle.std.proofs.lemmas.Result.{on_ok_weaker}
use Rattle.prolog_terms.specs.declared.entry.Kind.TheVariants.{Dynamic}
use Rattle.journals.specs.Journal.{procedure_named}
use Rattle.wam_machine.proofs.Begins.{seen_in, grows_trans, host_on}
use Rattle.wam_machine.proofs.Asked.{taken_front, taking_front}
use Rattle.wam_machine.proofs.Adding.{declared_done, declared_already, declared_full}
use Rattle.wam_machine.proofs.database.declare_first.Goals as goal

pub add-requires-clause-found : goal.add-requires-clause-found
add-requires-clause-found g c = λ j b.
    seen_in (g.B.Base.view c.declare.new.self) (λ J. procedure_named J c.args.addition.now.indicator.now ≡ Some (c.in-Done.procedure, Dynamic)) j c.in-Done.ensures.declared.1 b

pub add-requires-clause-host : goal.add-requires-clause-host
add-requires-clause-host g c = host_on c.args.host.now (g.B.Base.view c.args.base.now) (g.B.Base.view c.declare.new.self) c.in-Done.ensures.declared.0.grows c.requires.host

pub add-requires-clause-front : goal.add-requires-clause-front
add-requires-clause-front g c =
    let taken = c.in_ok-take_front-in-Done.ensures in
    taken_front (g.B.Base.view c.declare.new.self) c.args.machine.now c.take_front.new.machine taken.sound (taking_front _ _ _ taken.same taken.mode taken.front taken.fronts)

pub returns-in_ok-take_front-in-Done-clause-seen : goal.returns-in_ok-take_front-in-Done-clause-seen
returns-in_ok-take_front-in-Done-clause-seen g c = grows_trans _ (g.B.Base.view c.declare.new.self) _ c.in-Done.ensures.declared.0.grows c.add.ensures.seen

pub returns-in_ok-take_front-in-Done-clause-asks : goal.returns-in_ok-take_front-in-Done-clause-asks
returns-in_ok-take_front-in-Done-clause-asks g c =
    let taken = c.in_ok-take_front-in-Done.ensures in
    let done = c.in-Done.ensures.declared in
    on_ok_weaker c.add.result
    (declared_done (g.B.Base.view c.args.base.now) (g.B.Base.view c.declare.new.self) c.args.host.now c.args.machine.now c.take_front.new.machine
    (taking_front _ _ _ taken.same taken.mode taken.front taken.fronts) c.requires.front c.requires.host c.args.addition.now.end c.args.addition.now.clause.now
    (g.B.Base.view c.add.new.base) c.add.new.machine c.args.addition.now.indicator.now c.add.ensures.seen c.in-Done.procedure c.requires.sound done.0 done.1)
    c.add.ensures.asks

pub add_to-requires-clause-found : goal.add_to-requires-clause-found
add_to-requires-clause-found g c = λ j b.
    seen_in (g.B.Base.view c.declare.new.self) (λ J. procedure_named J c.args.addition.now.indicator.now ≡ Some (c.in-Already.procedure, c.in-Already.kind)) j c.in-Already.ensures.declared.1 b

pub add_to-requires-clause-host : goal.add_to-requires-clause-host
add_to-requires-clause-host g c = host_on c.args.host.now (g.B.Base.view c.args.base.now) (g.B.Base.view c.declare.new.self) c.in-Already.ensures.declared.0.grows c.requires.host

pub add_to-requires-clause-front : goal.add_to-requires-clause-front
add_to-requires-clause-front g c =
    let taken = c.in_ok-take_front-in-Already.ensures in
    taken_front (g.B.Base.view c.declare.new.self) c.args.machine.now c.take_front-in-Already.new.machine taken.sound (taking_front _ _ _ taken.same taken.mode taken.front taken.fronts)

pub returns-in_ok-take_front-in-Already-clause-seen : goal.returns-in_ok-take_front-in-Already-clause-seen
returns-in_ok-take_front-in-Already-clause-seen g c = grows_trans _ (g.B.Base.view c.declare.new.self) _ c.in-Already.ensures.declared.0.grows c.add_to.ensures.seen

pub returns-in_ok-take_front-in-Already-clause-asks : goal.returns-in_ok-take_front-in-Already-clause-asks
returns-in_ok-take_front-in-Already-clause-asks g c =
    let taken = c.in_ok-take_front-in-Already.ensures in
    let found = c.in-Already.ensures.declared in
    on_ok_weaker c.add_to.result
    (declared_already (g.B.Base.view c.args.base.now) (g.B.Base.view c.declare.new.self) c.args.host.now c.args.machine.now c.take_front-in-Already.new.machine
    (taking_front _ _ _ taken.same taken.mode taken.front taken.fronts) c.requires.front c.requires.host c.args.addition.now.end c.args.addition.now.clause.now
    (g.B.Base.view c.add_to.new.base) c.add_to.new.machine c.args.addition.now.indicator.now c.add_to.ensures.seen c.in-Already.procedure c.in-Already.kind found.0 found.1)
    c.add_to.ensures.asks

pub returns-in_ok-without_room-in-Full-clause-asks : goal.returns-in_ok-without_room-in-Full-clause-asks
returns-in_ok-without_room-in-Full-clause-asks g c =
    let taken = c.in_ok-take_front-in-Full.ensures in
    let full = c.in-Full.ensures.declared in
    declared_full (g.B.Base.view c.args.base.now) (g.B.Base.view c.declare.new.self) c.args.host.now c.args.machine.now c.take_front-in-Full.new.machine
    (taking_front _ _ _ taken.same taken.mode taken.front taken.fronts) c.requires.front c.requires.host c.args.addition.now.end c.args.addition.now.clause.now c.args.addition.now.indicator.now
    c.in-Full.used c.in-Full.need c.in-Full.updates c.in_ok-without_room-in-Full.field-0 full.0 full.1 full.2 c.in_ok-without_room-in-Full.ensures
