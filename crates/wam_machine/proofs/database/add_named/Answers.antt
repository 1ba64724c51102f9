use Rattle.std.proofs.Common.{◌≡◌, sym, ◌∙◌, Some}
use Rattle.std.proofs.lemmas.Result.{on_ok_weaker}
use Rattle.journals.specs.Journal.{procedure_named}
use Rattle.wam_machine.proofs.Begins.{seen_in, grows_trans, host_on}
use Rattle.wam_machine.proofs.Asked.{taken_front, taking_front}
use Rattle.wam_machine.proofs.Adding.{named_found, named_absent}
use Rattle.wam_machine.proofs.database.add_named.Goals as goal

pub add_to-requires-clause-found : goal.add_to-requires-clause-found
add_to-requires-clause-found g c = λ j b.
    seen_in (g.B.Base.view c.find-found.new.self) (λ J. procedure_named J c.args.addition.now.indicator.now ≡ Some (c.in-Some.procedure, c.in-Some.kind)) j
    (λ J s. sym (c.find-found.ensures.found J s) ∙ c.in-Some.is) b

pub add_to-requires-clause-host : goal.add_to-requires-clause-host
add_to-requires-clause-host g c = host_on c.args.host.now (g.B.Base.view c.args.base.now) (g.B.Base.view c.find-found.new.self) c.find-found.ensures.seen.grows c.requires.host

pub add_to-requires-clause-front : goal.add_to-requires-clause-front
add_to-requires-clause-front g c =
    let taken = c.in_ok-take_front.ensures in
    taken_front (g.B.Base.view c.find-found.new.self) c.args.machine.now c.take_front.new.machine taken.sound (taking_front _ _ _ taken.same taken.mode taken.front taken.fronts)

pub returns-in-Some-clause-seen : goal.returns-in-Some-clause-seen
returns-in-Some-clause-seen g c = grows_trans _ (g.B.Base.view c.find-found.new.self) _ c.find-found.ensures.seen.grows c.add_to.ensures.seen

pub returns-in-Some-clause-asks : goal.returns-in-Some-clause-asks
returns-in-Some-clause-asks g c =
    let taken = c.in_ok-take_front.ensures in
    on_ok_weaker c.add_to.result
    (named_found (g.B.Base.view c.args.base.now) (g.B.Base.view c.find-found.new.self) c.args.host.now c.args.machine.now c.take_front.new.machine
    (taking_front _ _ _ taken.same taken.mode taken.front taken.fronts) c.requires.front c.requires.host c.args.addition.now.end c.args.addition.now.clause.now
    (g.B.Base.view c.add_to.new.base) c.add_to.new.machine c.args.addition.now.indicator.now c.add_to.ensures.seen c.in-Some.procedure c.in-Some.kind c.find-found.ensures.seen
    (λ J s. sym (c.find-found.ensures.found J s) ∙ c.in-Some.is))
    c.add_to.ensures.asks

pub declare_first-requires-clause-host : goal.declare_first-requires-clause-host
declare_first-requires-clause-host g c = host_on c.args.host.now (g.B.Base.view c.args.base.now) (g.B.Base.view c.find-found.new.self) c.find-found.ensures.seen.grows c.requires.host

pub declare_first-requires-clause-front : goal.declare_first-requires-clause-front
declare_first-requires-clause-front g c =
    let taken = c.in_ok-take_front.ensures in
    taken_front (g.B.Base.view c.find-found.new.self) c.args.machine.now c.take_front.new.machine taken.sound (taking_front _ _ _ taken.same taken.mode taken.front taken.fronts)

pub returns-in-None-clause-seen : goal.returns-in-None-clause-seen
returns-in-None-clause-seen g c = grows_trans _ (g.B.Base.view c.find-found.new.self) _ c.find-found.ensures.seen.grows c.declare_first.ensures.seen

pub returns-in-None-clause-asks : goal.returns-in-None-clause-asks
returns-in-None-clause-asks g c =
    let taken = c.in_ok-take_front.ensures in
    on_ok_weaker c.declare_first.result
    (named_absent (g.B.Base.view c.args.base.now) (g.B.Base.view c.find-found.new.self) c.args.host.now c.args.machine.now c.take_front.new.machine
    (taking_front _ _ _ taken.same taken.mode taken.front taken.fronts) c.requires.front c.requires.host c.args.addition.now.end c.args.addition.now.clause.now
    (g.B.Base.view c.declare_first.new.base) c.declare_first.new.machine c.args.addition.now.indicator.now c.declare_first.ensures.seen c.find-found.ensures.seen
    (λ J s. sym (c.find-found.ensures.found J s) ∙ c.in-None.is))
    c.declare_first.ensures.asks
