use Rattle.std.proofs.Common.{refl}
use Rattle.wam_machine.specs.States.{raises}
use Rattle.wam_machine.specs.declared.state.Mode.TheVariants.{Raising as RaisingBall}
use Rattle.wam_machine.proofs.Begins.{grows_refl}
use Rattle.wam_machine.proofs.Asked.{asks_raised}
use Rattle.wam_machine.proofs.AskedMoves.{ready_front, asked_left, asked_goes}
use Rattle.wam_machine.proofs.AsksOn.{makes_goes}
use Rattle.wam_machine.proofs.matching.raise.Goals as goal

pub returns-clause-left : goal.returns-clause-left
returns-clause-left g c =
    let v = g.B.Base.view c.args.base.now in
    let m = c.args.machine.now in
    let n = record m { mode = RaisingBall c.args.ball } in
    asked_left v v m n refl (g.B.Base.serves c.args.base.now) g.B.Base.group (g.B.Base.out c.args.base.now) g.B.Base.rest g.B.Base.may_visit g.B.Base.looked_at c.args.host.now.budget c.requires.ready
    (ready_front v v m n refl (g.B.Base.serves c.args.base.now) g.B.Base.group (g.B.Base.out c.args.base.now) g.B.Base.rest g.B.Base.may_visit g.B.Base.looked_at c.args.host.now.budget c.requires.ready)

pub returns-clause-goes : goal.returns-clause-goes
returns-clause-goes g c = λ fault at f is same.
    let v = g.B.Base.view c.args.base.now in
    let m = c.args.machine.now in
    let n = record m { mode = RaisingBall c.args.ball } in
    makes_goes g.B.Base.rest g.B.Base.may_visit g.B.Base.looked_at g.B.Base.ahead v.causes v v (λ j. raises fault at) f m n (λ j b s. same j s)
    (asked_goes v v m n refl (g.B.Base.serves c.args.base.now) g.B.Base.group (g.B.Base.out c.args.base.now) g.B.Base.rest g.B.Base.may_visit g.B.Base.looked_at c.args.host.now.budget c.requires.ready g.B.Base.ahead (λ j. raises fault at) (grows_refl v c.requires.ready.sound)
    (asks_raised v v m c.args.ball fault at is refl (ready_front v v m n refl (g.B.Base.serves c.args.base.now) g.B.Base.group (g.B.Base.out c.args.base.now) g.B.Base.rest g.B.Base.may_visit g.B.Base.looked_at c.args.host.now.budget c.requires.ready)))
