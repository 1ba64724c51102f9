use Rattle.std.proofs.Common.{◌++◌, List, ◌∙◌, refl, sym, subst, ap, append_assoc}
use Rattle.std.specs.Prelude.{Option}
use Rattle.prolog_terms.specs.Tree.{Tree}
use Rattle.prolog_terms.specs.declared.entry.Entry.{Entry}
use Rattle.journals.specs.Journal.{Journal}
use Rattle.wam_machine.specs.Cursors.{Begins}
use Rattle.wam_machine.specs.States.{Setting}
use Rattle.wam_machine.specs.Machine.{move}
use Rattle.wam_machine.specs.View.{setting, Does, IsLed}
use Rattle.wam_machine.specs.declared.run.RunEnd.{RunEnd}
use Rattle.wam_machine.proofs.Begins.{begins_before, grows_refl, grows_trans, looks_refl, makes_none, host_on}
use Rattle.wam_machine.proofs.Going.{same_setting}
use Rattle.wam_machine.proofs.Led.{leads_on, led_at_first, leads_to_end}
use Rattle.wam_machine.proofs.Ready.{ready_at_first}
use Rattle.wam_machine.proofs.running.moves.Goals as goal

pub loop-init : goal.loop-init
loop-init g c = record {
  seen = grows_refl _ c.requires.sound;
  becomes = g.met.B.Base.becomes_itself _;
  ready = ready_at_first (g.B.Base.view c.args.base.now) (g.B.Base.serves c.args.base.now) g.B.Base.group (g.B.Base.out c.args.base.now) g.B.Base.rest g.B.Base.may_visit g.B.Base.looked_at c.args.host.now.budget
      c.args.host.now.start c.args.goal.now c.args.machine.now c.requires.sound c.requires.beginning c.requires.start c.requires.out;
  shown = refl;
  led = makes_none _ _ _ (looks_refl _ c.requires.sound)
      (λ j b. led_at_first g.B.Base.rest g.B.Base.may_visit g.B.Base.looked_at g.B.Base.ahead _ (setting c.args.host.now c.args.machine.now j) c.args.goal.now c.args.machine.now c.requires.beginning);
}

pub advance-requires-clause-host : goal.advance-requires-clause-host
advance-requires-clause-host g c = host_on c.args.host.now _ _ c.loop.invariant.seen c.requires.host

pub returns-in-Some-2-clause-ended : goal.returns-in-Some-2-clause-ended
returns-in-Some-2-clause-ended g c =
    let u = g.B.Base.view c.args.base.now in
    let v = g.B.Base.view c.loop.base in
    let w = g.B.Base.view c.advance.new.base in
    let m = c.loop.machine in
    let t : Tree = c.args.goal.now.term in
    let l = c.loop.invariant.led in
    let o = c.in_ok-end.ensures.moves in
    record {
      made = l.made ++ o.made;
      own = o.own ∙ ap (λ (es : List Entry). es ++ o.made) l.own ∙ append_assoc u.own l.made o.made;
      so = λ j b all.
          let x = setting c.args.host.now c.args.machine.now j in
          let before = begins_before v w j c.in_ok-end.ensures.seen b in
          let moves = subst (λ (y : Setting). Does g.B.Base.rest g.B.Base.may_visit g.B.Base.looked_at g.B.Base.ahead w.causes o.made (move y) y m c.advance.new.machine c.in_ok-end.field-0) (same_setting c.args.host.now c.args.machine.now m j c.loop.invariant.shown) (o.so j b) in
          let does = subst (λ (k : Option RunEnd). Does g.B.Base.rest g.B.Base.may_visit g.B.Base.looked_at g.B.Base.ahead w.causes o.made (move x) x m c.advance.new.machine k) c.in-Some-2.is moves in
          let led = subst (λ cs. IsLed g.B.Base.rest g.B.Base.may_visit g.B.Base.looked_at g.B.Base.ahead cs l.made x t m) (sym c.in_ok-end.ensures.seen.causes) (l.so j before) in
          leads_to_end g.B.Base.rest g.B.Base.may_visit g.B.Base.looked_at g.B.Base.ahead w.causes l.made o.made x t c.args.goal.now.shown m c.advance.new.machine c.in-Some-2.end all led does;
    }

pub loop-preserved : goal.loop-preserved
loop-preserved g c =
    let u = g.B.Base.view c.args.base.now in
    let v = g.B.Base.view c.loop.base in
    let w = g.B.Base.view c.advance.new.base in
    let m = c.loop.machine in
    let t : Tree = c.args.goal.now.term in
    let left = c.in_ok-end.ensures.left in
    let l = c.loop.invariant.led in
    let o = c.in_ok-end.ensures.moves in
    let goes = λ (j : Journal) (b : Begins w j).
    let x = setting c.args.host.now c.args.machine.now j in
    subst (λ (k : Option RunEnd). Does g.B.Base.rest g.B.Base.may_visit g.B.Base.looked_at g.B.Base.ahead w.causes o.made (move x) x m c.advance.new.machine k) c.in_default.is
    (subst (λ (y : Setting). Does g.B.Base.rest g.B.Base.may_visit g.B.Base.looked_at g.B.Base.ahead w.causes o.made (move y) y m c.advance.new.machine c.in_ok-end.field-0) (same_setting c.args.host.now c.args.machine.now m j c.loop.invariant.shown) (o.so j b))
    in
    record {
      seen = grows_trans _ _ _ c.loop.invariant.seen c.in_ok-end.ensures.seen;
      becomes = g.met.B.Base.becomes_further _ _ _ c.loop.invariant.becomes c.in_ok-end.ensures.becomes;
      ready = record {
        sound = c.in_ok-end.ensures.seen.sound;
        terms = left.terms;
        kept = c.in_ok-end.ensures.kept;
        held = left.held;
        each = λ j b. (goes j b).held;
      };
      shown = left.shown ∙ c.loop.invariant.shown;
      led = record {
        made = l.made ++ o.made;
        own = o.own ∙ ap (λ (es : List Entry). es ++ o.made) l.own ∙ append_assoc u.own l.made o.made;
        so = λ j b.
            let before = begins_before v w j c.in_ok-end.ensures.seen b in
            leads_on g.B.Base.rest g.B.Base.may_visit g.B.Base.looked_at g.B.Base.ahead w.causes l.made o.made (setting c.args.host.now c.args.machine.now j) t m c.advance.new.machine
            (subst (λ cs. IsLed g.B.Base.rest g.B.Base.may_visit g.B.Base.looked_at g.B.Base.ahead cs l.made (setting c.args.host.now c.args.machine.now j) t m) (sym c.in_ok-end.ensures.seen.causes) (l.so j before))
            (goes j b);
      };
    }

pub returns-in_err-end-clause-seen : goal.returns-in_err-end-clause-seen
returns-in_err-end-clause-seen g c = grows_trans _ _ _ c.loop.invariant.seen c.in_err-end.ensures.seen

pub returns-in-Some-2-clause-seen : goal.returns-in-Some-2-clause-seen
returns-in-Some-2-clause-seen g c = grows_trans _ _ _ c.loop.invariant.seen c.in_ok-end.ensures.seen
