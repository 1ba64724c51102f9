use Rattle.std.proofs.Common.{◌<◌, ◌≤◌, ℕ, subst}
use Rattle.wam_machine.specs.View.{setting}
use Rattle.wam_machine.proofs.Acted.{if_ok}
use Rattle.wam_machine.proofs.Begins.{looks_refl}
use Rattle.wam_machine.proofs.BallMoves.{does_reach, goes_caught}
use Rattle.wam_machine.proofs.raising.raise.Goals as goal

pub returns-in-None-clause-seen : goal.returns-in-None-clause-seen
returns-in-None-clause-seen g c = looks_refl _ c.requires.ready.sound

pub returns-then-height-clause-moves : goal.returns-then-height-clause-moves
returns-then-height-clause-moves g c = λ ball j mode b.
    let m = c.args.machine.now in
    goes_caught g.B.Base.rest g.B.Base.may_visit g.B.Base.looked_at g.B.Base.ahead _ (setting c.args.host.now m j) ball c.in-Some.height j m c.cut_stack.new.machine c.in-Some.ensures
    (subst (λ (n : ℕ). c.in-Some.height < n) c.height.ensures c.if-height.true) (c.cut_stack.ensures.goes j b)

pub returns-else-height-clause-moves : goal.returns-else-height-clause-moves
returns-else-height-clause-moves g c =
    let m = c.args.machine.now in
    let n = c.reach.new.machine in
    if_ok c.reach.result _ _ c.reach.ensures.moves
    (λ o h ball j mode b.
    does_reach g.B.Base.rest g.B.Base.may_visit g.B.Base.looked_at g.B.Base.ahead _ (setting c.args.host.now m j) ball c.in-Some.height m n o c.in-Some.ensures
    (subst (λ (k : ℕ). k ≤ c.in-Some.height) c.height.ensures c.if-height.false) (h ball j mode b))
