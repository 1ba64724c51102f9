use Rattle.wam_machine.specs.States.{cut_back}
use Rattle.wam_machine.proofs.CutMoves.{goes_failing}
use Rattle.wam_machine.proofs.cuts.end_not.Goals as goal

pub returns-clause-goes : goal.returns-clause-goes
returns-clause-goes g c = λ j b.
    goes_failing g.B.Base.rest g.B.Base.may_visit g.B.Base.looked_at g.B.Base.ahead _ (cut_back c.args.height) j c.args.machine.now c.cut_stack.new.machine (c.cut_stack.ensures.goes j b)
