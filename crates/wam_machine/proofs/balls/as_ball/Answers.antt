use Rattle.term_store.specs.Terms.{text}
use Rattle.wam_machine.specs.Terms.{IsBuilt, built}
use Rattle.wam_machine.proofs.GoalSeen.{seen-cell, seen-leaf, seen-view}
use Rattle.wam_machine.proofs.Thrown.{thrown-variable, thrown-ball}
use Rattle.wam_machine.proofs.balls.as_ball.Goals as goal

pub look-requires : goal.look-requires
look-requires g c = seen-cell c.args.terms.now c.args.ball c.requires.ball

pub read_back-requires-clause-valid : goal.read_back-requires-clause-valid
unfolding IsBuilt
read_back-requires-clause-valid g c = c.requires.ball

pub returns-in-Variable : goal.returns-in-Variable
returns-in-Variable g c =
    let t = c.args.terms.now in
    thrown-variable (built t c.args.ball) c.in-Variable.field-0 (seen-leaf t c.args.ball c.requires.ball _ (c.in-Variable.ensures.term t.names))

pub returns-in_ok-read_back-in_default : goal.returns-in_ok-read_back-in_default
unfolding built
returns-in_ok-read_back-in_default g c =
    let t = c.args.terms.now in
    thrown-ball (text t.names) (built t) c.look.result (built t c.args.ball) _ (seen-view t c.args.ball c.look.result (c.look.ensures.term t.names))
    (λ n e. c.in_default.not-Variable n e) c.in_ok-read_back-in_default.ensures
