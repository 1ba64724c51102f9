use Rattle.std.proofs.Common.{subst}
use Rattle.wam_machine.specs.View.{Erases}
use Rattle.wam_machine.specs.declared.database.Erasure.{Erasure}
use Rattle.wam_machine.proofs.Erasing.{served_done, served_gone, served_full}
use Rattle.wam_machine.proofs.database.retract_one.Goals as goal

pub returns-in-Done-clause-asks : goal.returns-in-Done-clause-asks
returns-in-Done-clause-asks g c =
    let v = g.B.Base.view c.args.base.now in
    let w = g.B.Base.view c.ask_erasure.new.base in
    let h = c.args.host.now in
    let m = c.args.machine.now in
    let n = c.ask_erasure.new.machine in
    served_done v w h m n c.args.clause (subst (λ (e : Erasure). Erases h v w c.args.clause m n e) c.in-Done.is c.in_ok-ask_erasure.ensures.erases)

pub returns-in-Gone-clause-asks : goal.returns-in-Gone-clause-asks
returns-in-Gone-clause-asks g c =
    let v = g.B.Base.view c.args.base.now in
    let w = g.B.Base.view c.ask_erasure.new.base in
    let h = c.args.host.now in
    let m = c.args.machine.now in
    let n = c.ask_erasure.new.machine in
    served_gone v w h m n c.args.clause (subst (λ (e : Erasure). Erases h v w c.args.clause m n e) c.in-Gone.is c.in_ok-ask_erasure.ensures.erases)

pub returns-in_ok-no_room_at-in-Full-clause-asks : goal.returns-in_ok-no_room_at-in-Full-clause-asks
returns-in_ok-no_room_at-in-Full-clause-asks g c =
    let v = g.B.Base.view c.args.base.now in
    let w = g.B.Base.view c.ask_erasure.new.base in
    let h = c.args.host.now in
    let m = c.args.machine.now in
    let n = c.ask_erasure.new.machine in
    served_full v w h m n c.args.clause c.in_ok-no_room_at-in-Full.field-0 c.in_ok-at-in-Full.at
    (subst (λ (e : Erasure). Erases h v w c.args.clause m n e) c.in-Full.is c.in_ok-ask_erasure.ensures.erases) c.in_ok-at-in-Full.ensures c.in_ok-no_room_at-in-Full.ensures
