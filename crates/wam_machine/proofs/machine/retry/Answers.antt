use Rattle.std.proofs.Common.{[]}
use Rattle.wam_machine.specs.Machine.{move}
use Rattle.wam_machine.specs.View.{setting}
use Rattle.wam_machine.proofs.Begins.{grows_refl, looks_refl, makes_none}
use Rattle.wam_machine.proofs.Done.{acts_goes, acts_left, acts_kept}
use Rattle.wam_machine.proofs.Resumed.{comes_back_nowhere}
use Rattle.wam_machine.proofs.machine.retry.Goals as goal

pub returns-in-Nothing-clause-seen : goal.returns-in-Nothing-clause-seen
returns-in-Nothing-clause-seen g c = grows_refl _ c.requires.ready.sound

pub returns-in-Nothing-clause-moves : goal.returns-in-Nothing-clause-moves
returns-in-Nothing-clause-moves g c = makes_none _ _ _ (looks_refl _ c.requires.ready.sound)
    (λ j b. comes_back_nowhere (setting c.args.host.now c.args.machine.now j) c.args.machine.now c.requires.failing g.B.Base.rest g.B.Base.looked_at c.in-Nothing.ensures)

pub returns-in_err-pass_mark-in-Mark-clause-seen : goal.returns-in_err-pass_mark-in-Mark-clause-seen
returns-in_err-pass_mark-in-Mark-clause-seen g c = grows_refl _ c.requires.ready.sound

pub returns-in_ok-pass_mark-in-Mark : goal.returns-in_ok-pass_mark-in-Mark
returns-in_ok-pass_mark-in-Mark g c =
    let m = c.args.machine.now in
    let n = c.pass_mark.new.machine in
    let x = setting c.args.host.now m [] in
    let acts = c.in_ok-pass_mark-in-Mark.ensures.acts in
    record {
      seen = grows_refl _ c.requires.ready.sound;
      becomes = g.met.B.Base.becomes_itself _;
      kept = acts_kept (move x) m n (acts x) (g.B.Base.serves c.args.base.now) g.B.Base.group (g.B.Base.out c.args.base.now) c.requires.ready.kept;
      left = acts_left (move x) m n (acts x) c.args.host.now.budget (g.B.Base.view c.args.base.now) c.requires.ready.held;
      moves = makes_none _ _ _ (looks_refl _ c.requires.ready.sound) (λ j b.
          let y = setting c.args.host.now m j in
          acts_goes (move y) m n (acts y) g.B.Base.rest g.B.Base.may_visit g.B.Base.looked_at g.B.Base.ahead _ j (c.requires.ready.each j b));
    }
