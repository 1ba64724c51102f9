use Rattle.wam_machine.proofs.Begins.{begins_self}
use Rattle.wam_machine.proofs.Asked.{taking_front}
use Rattle.wam_machine.proofs.Erasing.{change_by, erases_done, erases_gone, erases_full}
use Rattle.wam_machine.proofs.database.ask_erasure.Goals as goal

pub erase-requires-clause-permitted : goal.erase-requires-clause-permitted
erase-requires-clause-permitted g c J s = change_by _ c.args.clause _ (c.requires.changeable J (begins_self (g.B.Base.view c.args.base.now) J s))

pub returns-in_ok-take_front-in-Done-clause-erases : goal.returns-in_ok-take_front-in-Done-clause-erases
returns-in_ok-take_front-in-Done-clause-erases g c =
    let taken = c.in_ok-take_front-in-Done.ensures in
    erases_done (g.B.Base.view c.args.base.now) (g.B.Base.view c.erase.new.self) c.args.host.now c.args.machine.now c.take_front.new.machine
    (taking_front _ _ _ taken.same taken.mode taken.front taken.fronts) c.requires.front c.requires.host c.args.clause c.requires.sound c.in-Done.ensures.erased

pub returns-in_ok-take_front-in-Gone-clause-erases : goal.returns-in_ok-take_front-in-Gone-clause-erases
returns-in_ok-take_front-in-Gone-clause-erases g c =
    let taken = c.in_ok-take_front-in-Gone.ensures in
    let gone = c.in-Gone.ensures.erased in
    erases_gone (g.B.Base.view c.args.base.now) (g.B.Base.view c.erase.new.self) c.args.host.now c.args.machine.now c.take_front-in-Gone.new.machine
    (taking_front _ _ _ taken.same taken.mode taken.front taken.fronts) c.requires.front c.requires.host c.args.clause c.in-Gone.at gone.0 gone.1

pub returns-in_ok-take_front-in-Full-clause-erases : goal.returns-in_ok-take_front-in-Full-clause-erases
returns-in_ok-take_front-in-Full-clause-erases g c =
    let taken = c.in_ok-take_front-in-Full.ensures in
    let full = c.in-Full.ensures.erased in
    erases_full (g.B.Base.view c.args.base.now) (g.B.Base.view c.erase.new.self) c.args.host.now c.args.machine.now c.take_front-in-Full.new.machine
    (taking_front _ _ _ taken.same taken.mode taken.front taken.fronts) c.requires.front c.requires.host c.args.clause c.in-Full.updates full.0 full.1 full.2
