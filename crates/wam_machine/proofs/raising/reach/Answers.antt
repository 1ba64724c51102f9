use Rattle.std.proofs.Common.{rules, [], ◌-◌, ℕ, false, ap, ◌∙◌}
use Rattle.wam_machine.specs.Machine.{reached}
use Rattle.wam_machine.specs.Terms.{HasCatch, said}
use Rattle.wam_machine.specs.View.{setting}
use Rattle.wam_machine.proofs.Begins.{looks_refl}
use Rattle.wam_machine.proofs.Done.{acts_goes, acts_left, acts_kept}
use Rattle.wam_machine.proofs.BallMoves.{goes_dropping}
use Rattle.wam_machine.proofs.raising.reach.Goals as goal

pub returns-in-Nothing-clause-seen : goal.returns-in-Nothing-clause-seen
returns-in-Nothing-clause-seen g c = looks_refl _ c.requires.ready.sound

pub returns-in_err-recover-in-Catch-clause-seen : goal.returns-in_err-recover-in-Catch-clause-seen
returns-in_err-recover-in-Catch-clause-seen g c = looks_refl _ c.requires.ready.sound

pub returns-in_ok-recover-in-Catch : goal.returns-in_ok-recover-in-Catch
returns-in_ok-recover-in-Catch g c =
    let m = c.args.machine.now in
    let n = c.recover.new.machine in
    let acts = c.in_ok-recover-in-Catch.ensures.acts in
    let ball = c.requires.raising in
    let x = setting c.args.host.now m [] in
    record {
      seen = looks_refl _ c.requires.ready.sound;
      becomes = g.met.B.Base.becomes_itself _;
      kept = acts_kept (λ s. reached x ball.0 s s.stack) m n (acts x ball.0 ball.1) (g.B.Base.serves c.args.base.now) g.B.Base.group (g.B.Base.out c.args.base.now) c.requires.ready.kept;
      left = acts_left (λ s. reached x ball.0 s s.stack) m n (acts x ball.0 ball.1) c.args.host.now.budget (g.B.Base.view c.args.base.now) c.requires.ready.held;
      moves = λ b j mode h.
          let y = setting c.args.host.now m j in
          acts_goes (λ s. reached y b s s.stack) m n (acts y b mode) g.B.Base.rest g.B.Base.may_visit g.B.Base.looked_at g.B.Base.ahead _ j (c.requires.ready.each j h);
    }

pub returns-in-Open-clause-moves : goal.returns-in-Open-clause-moves
returns-in-Open-clause-moves g c = λ ball j mode b.
    let m = c.args.machine.now in
    let other : HasCatch (said m.terms).stack false = search rules in
    goes_dropping g.B.Base.rest g.B.Base.may_visit g.B.Base.looked_at g.B.Base.ahead _ (setting c.args.host.now m j) ball c.saturating_sub-below.result j m c.cut_stack.new.machine
    (c.saturating_sub-below.ensures ∙ ap (λ (n : ℕ). n - 1) c.height.ensures) other (c.cut_stack.ensures.goes j b)
