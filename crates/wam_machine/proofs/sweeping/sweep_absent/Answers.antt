use Rattle.std.proofs.Common.{refl}
use Rattle.std.proofs.lemmas.Result.{on_ok_weaker}
use Rattle.std.specs.Prelude.{option_map}
use Rattle.journals.specs.Journal.{procedure_named}
use Rattle.wam_machine.specs.States.{taking}
use Rattle.wam_machine.specs.Procedures.{sweeping_where}
use Rattle.wam_machine.specs.Terms.{built}
use Rattle.wam_machine.specs.View.{setting}
use Rattle.wam_machine.proofs.Asked.{taking_front, taken_front, asked_trans}
use Rattle.wam_machine.proofs.AskedMoves.{ready_front, asked_kept, asked_left, asked_goes}
use Rattle.wam_machine.proofs.SweptKinds.{absent_taken}
use Rattle.wam_machine.proofs.sweeping.sweep_absent.Goals as goal

pub returns-in_err-take_front-clause-kept : goal.returns-in_err-take_front-clause-kept
returns-in_err-take_front-clause-kept g c =
    let v = g.B.Base.view c.args.base.now in
    let m = c.args.machine.now in
    asked_kept v v m c.take_front.new.machine c.in_err-take_front.ensures.same (g.B.Base.serves c.args.base.now) (g.B.Base.serves c.args.base.now) g.B.Base.group (g.B.Base.out c.args.base.now) (g.B.Base.out c.args.base.now) c.requires.ready.kept (λ d h s. s) refl

pub sweep_none-requires-clause-sound : goal.sweep_none-requires-clause-sound
sweep_none-requires-clause-sound g c = c.in_ok-take_front.ensures.sound

pub sweep_none-requires-clause-front : goal.sweep_none-requires-clause-front
sweep_none-requires-clause-front g c =
    let v = g.B.Base.view c.args.base.now in
    let t = c.in_ok-take_front.ensures in
    taken_front v c.args.machine.now c.take_front.new.machine t.sound (taking_front v c.args.machine.now c.take_front.new.machine t.same t.mode t.front t.fronts)

pub returns-clause-kept : goal.returns-clause-kept
returns-clause-kept g c =
    let m = c.args.machine.now in
    let n = c.sweep_none.new.machine in
    asked_kept (g.B.Base.view c.args.base.now) (g.B.Base.view c.sweep_none.new.base) m n (asked_trans m c.take_front.new.machine n c.in_ok-take_front.ensures.same c.sweep_none.ensures.same)
    (g.B.Base.serves c.args.base.now) (g.B.Base.serves c.sweep_none.new.base) g.B.Base.group (g.B.Base.out c.args.base.now) (g.B.Base.out c.sweep_none.new.base)
    c.requires.ready.kept c.sweep_none.ensures.others c.sweep_none.ensures.out

pub returns-clause-left : goal.returns-clause-left
returns-clause-left g c =
    let m = c.args.machine.now in
    let n = c.sweep_none.new.machine in
    on_ok_weaker c.sweep_none.result
    (λ a. asked_left (g.B.Base.view c.args.base.now) (g.B.Base.view c.sweep_none.new.base) m n (asked_trans m c.take_front.new.machine n c.in_ok-take_front.ensures.same c.sweep_none.ensures.same)
    (g.B.Base.serves c.args.base.now) g.B.Base.group (g.B.Base.out c.args.base.now) g.B.Base.rest g.B.Base.may_visit g.B.Base.looked_at c.args.host.now.budget c.requires.ready a.front)
    c.sweep_none.ensures.asks

pub returns-clause-goes : goal.returns-clause-goes
returns-clause-goes g c =
    let v = g.B.Base.view c.args.base.now in
    let w = g.B.Base.view c.sweep_none.new.base in
    let m = c.args.machine.now in
    let mid = c.take_front.new.machine in
    let n = c.sweep_none.new.machine in
    let h = c.args.host.now in
    let t = c.in_ok-take_front.ensures in
    let same = asked_trans m mid n t.same c.sweep_none.ensures.same in
    on_ok_weaker c.sweep_none.result
    (λ a. asked_goes v w m n same (g.B.Base.serves c.args.base.now) g.B.Base.group (g.B.Base.out c.args.base.now) g.B.Base.rest g.B.Base.may_visit g.B.Base.looked_at c.args.host.now.budget c.requires.ready g.B.Base.ahead
    (λ j s. taking (setting h m j) s (λ seen u. sweeping_where (setting h m j) c.args.indicator.now (option_map (built m.terms) c.args.goal) s.front seen u (procedure_named seen c.args.indicator.now)))
    c.sweep_none.ensures.seen
    (absent_taken v w h m mid n c.args.indicator.now c.args.goal (taking_front v m mid t.same t.mode t.front t.fronts) t.sound
    (ready_front v w m n same (g.B.Base.serves c.args.base.now) g.B.Base.group (g.B.Base.out c.args.base.now) g.B.Base.rest g.B.Base.may_visit g.B.Base.looked_at c.args.host.now.budget c.requires.ready) c.sweep_none.ensures.seen c.requires.absent a))
    c.sweep_none.ensures.asks
