use Rattle.std.proofs.Common.{codes}
use Rattle.std.proofs.lemmas.Result.{IfOk-weaker}
use Rattle.wam_machine.proofs.GoalParts.{tested, told, access-plain, front-asked, back-asked, retract-asked, retract_all-asked, abolish-asked}
use Rattle.wam_machine.proofs.control.access_control.Goals as goal

pub returns : goal.returns
returns c =
    let f = c.args.name.now in
    let only = c.args.only in
    let found = access-plain f only (tested f _ (codes "asserta") _ _ c.eq.ensures c.as_slice.ensures c.if-eq.false) (tested f _ (codes "assertz") _ _ c.eq-2.ensures c.as_slice-2.ensures c.if-eq-2.false)
    (tested f _ (codes "retract") _ _ c.eq-3.ensures c.as_slice-3.ensures c.if-eq-3.false) (tested f _ (codes "retractall") _ _ c.eq-4.ensures c.as_slice-4.ensures c.if-eq-4.false)
    (tested f _ (codes "abolish") _ _ c.eq-5.ensures c.as_slice-5.ensures c.if-eq-5.false) in
    IfOk-weaker c.plain.result _ _ found c.plain.ensures

pub returns-then-eq : goal.returns-then-eq
returns-then-eq c = front-asked c.args.name.now c.args.only (told c.args.name.now _ (codes "asserta") _ c.eq.ensures c.as_slice.ensures c.if-eq.true)

pub returns-then-eq-2 : goal.returns-then-eq-2
returns-then-eq-2 c = back-asked c.args.name.now c.args.only (told c.args.name.now _ (codes "assertz") _ c.eq-2.ensures c.as_slice-2.ensures c.if-eq-2.true)

pub returns-then-eq-3 : goal.returns-then-eq-3
returns-then-eq-3 c = retract-asked c.args.name.now c.args.only (told c.args.name.now _ (codes "retract") _ c.eq-3.ensures c.as_slice-3.ensures c.if-eq-3.true)

pub returns-then-eq-4 : goal.returns-then-eq-4
returns-then-eq-4 c = retract_all-asked c.args.name.now c.args.only (told c.args.name.now _ (codes "retractall") _ c.eq-4.ensures c.as_slice-4.ensures c.if-eq-4.true)

pub returns-then-eq-5 : goal.returns-then-eq-5
returns-then-eq-5 c = abolish-asked c.args.name.now c.args.only (told c.args.name.now _ (codes "abolish") _ c.eq-5.ensures c.as_slice-5.ensures c.if-eq-5.true)
