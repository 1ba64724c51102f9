use Rattle.wam_machine.proofs.Begins.{begins_before}
use Rattle.wam_machine.proofs.CutMoves.{goes_cut, left_cut}
use Rattle.wam_machine.proofs.cuts.cut_stack.Goals as goal

pub returns-clause-left : goal.returns-clause-left
returns-clause-left g c =
    let m = c.args.machine.now in
    left_cut c.args.host.now.budget (g.B.Base.view c.args.base.now) (g.B.Base.view c.cut_back.new.base) c.args.height m c.cut_back.new.terms
    (c.cut_back.ensures.terms c.requires.ready.terms) c.cut_back.ensures.said c.requires.ready.held c.cut_back.ensures.seen

pub returns-clause-goes : goal.returns-clause-goes
returns-clause-goes g c = λ j b.
    goes_cut g.B.Base.rest g.B.Base.may_visit g.B.Base.looked_at g.B.Base.ahead _ c.args.height j c.args.machine.now c.cut_back.new.terms c.cut_back.ensures.said
    (c.requires.ready.each j (begins_before _ _ j c.cut_back.ensures.seen.grows b))
