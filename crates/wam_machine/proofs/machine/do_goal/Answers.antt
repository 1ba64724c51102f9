use Rattle.std.proofs.Common.{ap, ◌∙◌, Some}
use Rattle.wam_machine.specs.Goals.{control_in}
use Rattle.wam_machine.specs.Terms.{built}
use Rattle.wam_machine.specs.View.{setting}
use Rattle.wam_machine.specs.declared.control.Control.{Control}
use Rattle.wam_machine.proofs.Begins.{grows_refl, looks_refl, makes_none}
use Rattle.wam_machine.proofs.Going.{does_both}
use Rattle.wam_machine.proofs.machine.do_goal.Goals as goal

pub returns-in_err-conjoin-clause-seen : goal.returns-in_err-conjoin-clause-seen
returns-in_err-conjoin-clause-seen g c = grows_refl _ c.requires.ready.sound

pub returns-in-Both-clause-seen : goal.returns-in-Both-clause-seen
returns-in-Both-clause-seen g c = grows_refl _ c.requires.ready.sound

pub returns-in-Both-clause-moves : goal.returns-in-Both-clause-moves
returns-in-Both-clause-moves g c = makes_none _ _ _ (looks_refl _ c.requires.ready.sound) (λ j b.
    let m = c.args.machine.now in
    let t = built m.terms c.args.goal in
    let is = c.in_ok-control.ensures.is ∙ ap (λ (d : Control). Some (control_in (built m.terms) d)) c.in-Both.is in
    does_both g.B.Base.rest g.B.Base.may_visit g.B.Base.looked_at g.B.Base.ahead _ (setting c.args.host.now m j) j m c.conjoin.new.machine t (built m.terms c.in-Both.left) (built m.terms c.in-Both.right) c.args.cut
    is c.in_ok-conjoin.ensures.same c.in_ok-conjoin.ensures.said (c.requires.ready.each j b))
