use Rattle.std.proofs.Common.{refl}
use Rattle.wam_machine.specs.States.{taking}
use Rattle.wam_machine.specs.View.{setting}
use Rattle.wam_machine.proofs.Begins.{grows_refl}
use Rattle.wam_machine.proofs.Asked.{taking_front, taken_front}
use Rattle.wam_machine.proofs.AskedMoves.{ready_front, asked_kept, asked_left, asked_goes}
use Rattle.wam_machine.proofs.AsksOn.{asked_mode, stopped}
use Rattle.wam_machine.proofs.matching.stop.Goals as goal

pub returns-in_err-take_front-clause-kept : goal.returns-in_err-take_front-clause-kept
returns-in_err-take_front-clause-kept g c =
    let v = g.B.Base.view c.args.base.now in
    asked_kept v v c.args.machine.now c.take_front.new.machine c.in_err-take_front.ensures.same (g.B.Base.serves c.args.base.now) (g.B.Base.serves c.args.base.now) g.B.Base.group
    (g.B.Base.out c.args.base.now) (g.B.Base.out c.args.base.now) c.requires.ready.kept (λ d h s. s) refl

pub returns-clause-kept : goal.returns-clause-kept
returns-clause-kept g c =
    let v = g.B.Base.view c.args.base.now in
    let m = c.args.machine.now in
    let mid = c.take_front.new.machine in
    let n = record mid { mode = c.args.mode } in
    asked_kept v v m n (asked_mode m mid c.args.mode c.in_ok-take_front.ensures.same) (g.B.Base.serves c.args.base.now) (g.B.Base.serves c.args.base.now) g.B.Base.group
    (g.B.Base.out c.args.base.now) (g.B.Base.out c.args.base.now) c.requires.ready.kept (λ d h s. s) refl

pub returns-clause-left : goal.returns-clause-left
returns-clause-left g c =
    let v = g.B.Base.view c.args.base.now in
    let m = c.args.machine.now in
    let mid = c.take_front.new.machine in
    let n = record mid { mode = c.args.mode } in
    let t = c.in_ok-take_front.ensures in
    asked_left v v m n (asked_mode m mid c.args.mode t.same) (g.B.Base.serves c.args.base.now) g.B.Base.group (g.B.Base.out c.args.base.now) g.B.Base.rest g.B.Base.may_visit g.B.Base.looked_at c.args.host.now.budget c.requires.ready
    (taken_front v m mid t.sound (taking_front v m mid t.same t.mode t.front t.fronts))

pub returns-clause-goes : goal.returns-clause-goes
returns-clause-goes g c = λ with same.
    let v = g.B.Base.view c.args.base.now in
    let m = c.args.machine.now in
    let mid = c.take_front.new.machine in
    let n = record mid { mode = c.args.mode } in
    let t = c.in_ok-take_front.ensures in
    asked_goes v v m n (asked_mode m mid c.args.mode t.same) (g.B.Base.serves c.args.base.now) g.B.Base.group (g.B.Base.out c.args.base.now) g.B.Base.rest g.B.Base.may_visit g.B.Base.looked_at c.args.host.now.budget c.requires.ready g.B.Base.ahead
    (λ j s. taking (setting c.args.host.now m j) s (with j s.front)) (grows_refl v t.sound)
    (stopped v c.args.host.now m mid c.args.mode t.sound (ready_front v v m n (asked_mode m mid c.args.mode t.same) (g.B.Base.serves c.args.base.now) g.B.Base.group (g.B.Base.out c.args.base.now) g.B.Base.rest g.B.Base.may_visit g.B.Base.looked_at c.args.host.now.budget c.requires.ready)
    (taking_front v m mid t.same t.mode t.front t.fronts) with same)
