use Rattle.std.proofs.Common.{rules, length, ◌+◌, [], refl, sym, ap, ◌∙◌, subst, Some}
use Rattle.std.specs.Prelude.{pos}
use Rattle.wam_machine.specs.Control as spec
use Rattle.wam_machine.specs.Control.{control_of}
use Rattle.wam_machine.specs.Goals.{access_in, control_in}
use Rattle.wam_machine.specs.Terms.{built}
use Rattle.wam_machine.specs.Machine.{performing}
use Rattle.wam_machine.specs.View.{setting, calls, AreKept}
use Rattle.wam_machine.specs.declared.state.Machine.{Machine}
use Rattle.wam_machine.specs.declared.control.Control.{Control}
use Rattle.wam_machine.specs.declared.run.RunEnd.TheVariants.{Halted}
use Rattle.wam_machine.proofs.Begins.{grows_refl, looks_refl, makes_none, makes_as}
use Rattle.wam_machine.proofs.Going.{left_through}
use Rattle.wam_machine.proofs.Performed.{held_step, takes_step, performed, performed_so, is_spent}
use Rattle.wam_machine.proofs.Done.{acts_goes, acts_left, acts_kept}
use Rattle.wam_machine.proofs.BallMoves.{comes_over, does_halt, left_halt, kept_halt}
use Rattle.wam_machine.proofs.machine.perform.Goals as goal

pub returns-then-machine-host-clause-seen : goal.returns-then-machine-host-clause-seen
returns-then-machine-host-clause-seen g c = grows_refl _ c.requires.ready.sound

pub returns-then-machine-host-clause-moves : goal.returns-then-machine-host-clause-moves
returns-then-machine-host-clause-moves g c = makes_none _ _ _ (looks_refl _ c.requires.ready.sound) (λ j b.
    let m = c.args.machine.now in
    is_spent g.B.Base.rest g.B.Base.may_visit g.B.Base.looked_at g.B.Base.ahead [] (setting c.args.host.now m j) m (built m.terms c.args.goal) c.args.cut (control_in (built m.terms) c.args.control)
    c.requires.control.is (takes_step (built m.terms) c.args.control c.requires.simple) c.if-machine-host.true)

pub returns-in_err-construct-in_default : goal.returns-in_err-construct-in_default
returns-in_err-construct-in_default g c = record {
  seen = grows_refl _ c.requires.ready.sound;
  becomes = g.met.B.Base.becomes_itself _;
  kept = subst (AreKept (g.B.Base.serves c.args.base.now) g.B.Base.group (g.B.Base.out c.args.base.now)) (sym c.in_err-construct-in_default.ensures.err) c.requires.ready.kept;
  left = search rules;
  moves = search rules;
}

pub returns-in-Cut-clause-moves : goal.returns-in-Cut-clause-moves
returns-in-Cut-clause-moves g c = makes_none _ _ _ c.cut_stack.ensures.seen (λ j b.
    let m = c.args.machine.now in
    let is = c.requires.control.is ∙ ap (λ (d : Control). Some (control_in (built m.terms) d)) c.in-Cut.is in
    performed g.B.Base.rest g.B.Base.may_visit g.B.Base.looked_at g.B.Base.ahead _ (setting c.args.host.now m j) m (built m.terms c.args.goal) c.args.cut spec.Cut
    is tt j c.cut_stack.new.machine c.if-machine-host.false (c.cut_stack.ensures.goes j b))

pub returns-in_ok-call-in-User-clause-moves : goal.returns-in_ok-call-in-User-clause-moves
returns-in_ok-call-in-User-clause-moves g c =
    let m = c.args.machine.now in
    let is = c.requires.control.is ∙ ap (λ (d : Control). Some (control_in (built m.terms) d)) c.in-User.is in
    makes_as _ _ _ _
    (λ made h j b.
    performed g.B.Base.rest g.B.Base.may_visit g.B.Base.looked_at g.B.Base.ahead _ (setting c.args.host.now m j) m (built m.terms c.args.goal) c.args.cut (spec.User c.in-User.indicator)
    is tt j c.call.new.machine c.if-machine-host.false (h j b))
    c.in_ok-call-in-User.ensures.goes

pub returns-in_ok-access-in-Database-clause-moves : goal.returns-in_ok-access-in-Database-clause-moves
returns-in_ok-access-in-Database-clause-moves g c =
    let m = c.args.machine.now in
    let is = c.requires.control.is ∙ ap (λ (d : Control). Some (control_in (built m.terms) d)) c.in-Database.is in
    makes_as _ _ _ _
    (λ made h j b.
    performed g.B.Base.rest g.B.Base.may_visit g.B.Base.looked_at g.B.Base.ahead _ (setting c.args.host.now m j) m (built m.terms c.args.goal) c.args.cut (spec.Database (access_in (built m.terms) c.in-Database.asked))
    is tt j c.access.new.machine c.if-machine-host.false (h j b))
    c.in_ok-access-in-Database.ensures.goes

pub returns-in_ok-construct-in_default : goal.returns-in_ok-construct-in_default
returns-in_ok-construct-in_default g c =
    let m = c.args.machine.now in
    let mid : Machine _ = record m { steps = m.steps + 1 } in
    let n = c.construct.new.machine in
    let d = control_in (built m.terms) c.args.control in
    let t = built m.terms c.args.goal in
    let acts = c.in_ok-construct-in_default.ensures.acts in
    record {
      seen = grows_refl _ c.requires.ready.sound;
      becomes = g.met.B.Base.becomes_itself _;
      kept = acts_kept (performing (setting c.args.host.now m []) t c.args.cut d) mid n (acts (setting c.args.host.now m []) t refl) (g.B.Base.serves c.args.base.now) g.B.Base.group (g.B.Base.out c.args.base.now) c.requires.ready.kept;
      left = left_through c.args.host.now.budget (g.B.Base.view c.args.base.now) m mid n refl
          (acts_left (performing (setting c.args.host.now m []) t c.args.cut d) mid n (acts (setting c.args.host.now m []) t refl) c.args.host.now.budget (g.B.Base.view c.args.base.now)
          (held_step c.args.host.now.budget (g.B.Base.view c.args.base.now) m.steps m.front (length (calls m)) m.tally c.requires.ready.held c.if-machine-host.false));
      moves = makes_none _ _ _ (looks_refl _ c.requires.ready.sound) (λ j b.
          let x = setting c.args.host.now m j in
          performed g.B.Base.rest g.B.Base.may_visit g.B.Base.looked_at g.B.Base.ahead _ x m t c.args.cut d c.requires.control.is (takes_step (built m.terms) c.args.control c.requires.simple) j n c.if-machine-host.false
          (acts_goes (performing x t c.args.cut d) mid n (acts x t refl) g.B.Base.rest g.B.Base.may_visit g.B.Base.looked_at g.B.Base.ahead _ j (c.requires.ready.each j b)));
    }

pub returns-in-Halt : goal.returns-in-Halt
returns-in-Halt g c =
    let m = c.args.machine.now in
    let mid : Machine _ = record m { steps = m.steps + 1 } in
    let t = built m.terms c.args.goal in
    let is = c.requires.control.is ∙ ap (λ (d : Control). Some (control_in (built m.terms) d)) c.in-Halt.is in
    record {
      seen = grows_refl _ c.requires.ready.sound;
      becomes = g.met.B.Base.becomes_itself _;
      kept = c.requires.ready.kept;
      left = record {
        terms = c.requires.ready.terms;
        shown = refl;
        held = held_step c.args.host.now.budget (g.B.Base.view c.args.base.now) m.steps m.front (length (calls m)) m.tally c.requires.ready.held c.if-machine-host.false;
      };
      moves = makes_none _ _ _ (looks_refl _ c.requires.ready.sound) (λ j b.
          let x = setting c.args.host.now m j in
          performed_so g.B.Base.rest g.B.Base.may_visit g.B.Base.looked_at g.B.Base.ahead [] x m t c.args.cut spec.Halt is tt [] mid (Some (Halted (pos 0))) c.if-machine-host.false
          (comes_over g.B.Base.rest g.B.Base.may_visit g.B.Base.looked_at g.B.Base.ahead [] (performing x t c.args.cut spec.Halt) x mid mid (Halted (pos 0)) refl (λ looks tried. refl)));
    }

pub returns-in_err-end-in-HaltWith : goal.returns-in_err-end-in-HaltWith
returns-in_err-end-in-HaltWith g c = record {
  seen = grows_refl _ c.requires.ready.sound;
  becomes = g.met.B.Base.becomes_itself _;
  kept = subst (AreKept (g.B.Base.serves c.args.base.now) g.B.Base.group (g.B.Base.out c.args.base.now)) (sym c.in_err-end-in-HaltWith.ensures.err) c.requires.ready.kept;
  left = search rules;
  moves = search rules;
}

pub returns-in_ok-end-in-HaltWith : goal.returns-in_ok-end-in-HaltWith
returns-in_ok-end-in-HaltWith g c =
    let m = c.args.machine.now in
    let mid : Machine _ = record m { steps = m.steps + 1 } in
    let n = c.halt.new.machine in
    let w = built m.terms c.in-HaltWith.code in
    let t = built m.terms c.args.goal in
    let o = c.in_ok-end-in-HaltWith.end in
    let h = c.in_ok-end-in-HaltWith.ensures.halts in
    let x = setting c.args.host.now m [] in
    let is = c.requires.control.is ∙ ap (λ (d : Control). Some (control_in (built m.terms) d)) c.in-HaltWith.is in
    record {
      seen = grows_refl _ c.requires.ready.sound;
      becomes = g.met.B.Base.becomes_itself _;
      kept = kept_halt w mid n o x h (g.B.Base.serves c.args.base.now) g.B.Base.group (g.B.Base.out c.args.base.now) c.requires.ready.kept;
      left = left_through c.args.host.now.budget (g.B.Base.view c.args.base.now) m mid n refl
          (left_halt w mid n o x h c.args.host.now.budget (g.B.Base.view c.args.base.now) c.requires.ready.terms
          (held_step c.args.host.now.budget (g.B.Base.view c.args.base.now) m.steps m.front (length (calls m)) m.tally c.requires.ready.held c.if-machine-host.false));
      moves = makes_none _ _ _ (looks_refl _ c.requires.ready.sound) (λ j b.
          let y = setting c.args.host.now m j in
          performed_so g.B.Base.rest g.B.Base.may_visit g.B.Base.looked_at g.B.Base.ahead _ y m t c.args.cut (spec.HaltWith w) is tt [] n o c.if-machine-host.false
          (does_halt g.B.Base.rest g.B.Base.may_visit g.B.Base.looked_at g.B.Base.ahead _ w y mid n o h (c.requires.ready.each j b)));
    }
