use Rattle.term_store.specs.Terms.{text}
use Rattle.wam_machine.specs.Terms.{built}
use Rattle.wam_machine.proofs.GoalSeen.{seen-cell, seen-leaf, seen-view}
use Rattle.wam_machine.proofs.HeadCells.{number-integer, number-other}
use Rattle.wam_machine.proofs.matching.is_number.Goals as goal

pub look-requires : goal.look-requires
look-requires g c = seen-cell c.args.terms.now c.args.cell c.requires.cell

pub returns-in-Integer : goal.returns-in-Integer
returns-in-Integer g c = let t = c.args.terms.now in number-integer (built t c.args.cell) _ (seen-leaf t c.args.cell c.requires.cell _ (c.in-Integer.ensures.term t.names))

pub returns-in_default : goal.returns-in_default
returns-in_default g c =
    let t = c.args.terms.now in
    number-other (built t c.args.cell) (text t.names) (built t) c.look.result (seen-view t c.args.cell c.look.result (c.look.ensures.term t.names)) (λ z e. c.in_default.not-Integer z e)
