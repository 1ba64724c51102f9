use Rattle.journals.specs.Journal.{Journal}
use Rattle.prolog_terms.specs.declared.entry.Entry.{Entry}
use Rattle.std.specs.Prelude.{List, Option}
use Rattle.wam_machine.specs.Cursors.{Begins}
use Rattle.wam_machine.specs.Machine.{move}
use Rattle.wam_machine.specs.View.{setting, Does}
use Rattle.wam_machine.specs.declared.run.RunEnd.{RunEnd}
use Rattle.wam_machine.proofs.Acted.{if_ok}
use Rattle.wam_machine.proofs.BallMoves.{does_raising}
use Rattle.wam_machine.proofs.Begins.{makes_none_ok}
use Rattle.wam_machine.proofs.machine.advance.Goals as goal

pub returns-in-Raising-clause-moves : goal.returns-in-Raising-clause-moves
returns-in-Raising-clause-moves g c =
    let m = c.args.machine.now in
    let w = g.B.Base.view c.raise.new.base in
    let ball = c.in-Raising._ball in
    makes_none_ok c.raise.result (g.B.Base.view c.args.base.now) w
    (λ (o : Option RunEnd) (made : List Entry). (j : Journal) → Begins w j
    → Does g.B.Base.rest g.B.Base.may_visit g.B.Base.looked_at g.B.Base.ahead w.causes made (move (setting c.args.host.now m j)) (setting c.args.host.now m j) m c.raise.new.machine o)
    c.raise.ensures.seen
    (if_ok c.raise.result _ _ c.raise.ensures.moves
    (λ o h j b.
    does_raising g.B.Base.rest g.B.Base.may_visit g.B.Base.looked_at g.B.Base.ahead _ (setting c.args.host.now m j) m c.raise.new.machine ball o c.in-Raising.is (h ball j c.in-Raising.is b)))
