use Rattle.std.proofs.Common.{◌-◌, ℕ, ap, ◌∙◌}
use Rattle.std.specs.Prelude.{◌==◌, if◌then◌else◌}
use Rattle.wam_machine.proofs.BallMoves.{goes_leaving}
use Rattle.wam_machine.proofs.cuts.leave_catch.Goals as goal

pub returns-clause-goes : goal.returns-clause-goes
returns-clause-goes g c = λ j b.
    let h = c.args.height in
    goes_leaving g.B.Base.rest g.B.Base.may_visit g.B.Base.looked_at g.B.Base.ahead _ h c.height_left-kept.result j c.args.machine.now c.cut_stack.new.machine
    (c.height_left-kept.ensures ∙ ap (λ (n : ℕ). if n == h then h - 1 else n) c.height.ensures) (c.cut_stack.ensures.goes j b)
