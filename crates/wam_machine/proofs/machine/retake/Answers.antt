use Rattle.std.proofs.Common.{length, ◌+◌, true, ap, ◌∙◌, subst}
use Rattle.std.specs.Prelude.{All}
use Rattle.wam_machine.specs.Cursors.{AreNamed}
use Rattle.wam_machine.specs.States.{Setting}
use Rattle.wam_machine.specs.Terms.{said, calls_in, saved_now, turn_now}
use Rattle.wam_machine.specs.View.{setting, calls, turn_calls, AreKept, Resumes}
use Rattle.wam_machine.specs.declared.state.Machine.{Machine}
use Rattle.wam_machine.specs.declared.state.Mode.TheVariants.{Going as IsGoing}
use Rattle.wam_machine.proofs.Going.{same_setting}
use Rattle.wam_machine.proofs.Begins.{begins_before, grows_refl, looks_refl, makes_none, makes_as}
use Rattle.wam_machine.proofs.Room.{has_room}
use Rattle.wam_machine.proofs.Resumed.{calls-turn, retake_spent, retaken, held_retaken, fewer, newest-open}
use Rattle.wam_machine.proofs.machine.retake.Goals as goal

pub returns-then-machine-host-clause-seen : goal.returns-then-machine-host-clause-seen
returns-then-machine-host-clause-seen g c = grows_refl _ c.requires.ready.sound

pub returns-then-machine-host-clause-moves : goal.returns-then-machine-host-clause-moves
returns-then-machine-host-clause-moves g c = makes_none _ _ _ (looks_refl _ c.requires.ready.sound) (λ j b.
    let m = c.args.machine.now in
    retake_spent (setting c.args.host.now m j) m c.requires.failing g.B.Base.rest g.B.Base.looked_at c.requires.newest c.if-machine-host.true)

pub resume-requires-clause-front : goal.resume-requires-clause-front
resume-requires-clause-front g c = record { reached = c.requires.ready.held.reached; below = c.requires.ready.held.below }

pub resume-requires-clause-open : goal.resume-requires-clause-open
resume-requires-clause-open g c =
    let m = c.args.machine.now in
    let t = c.go_back.new.terms in
    newest-open (said m.terms).stack (said t).stack (saved_now t c.in-Some.what) true c.requires.newest c.in-Some.ensures.none

pub resume-requires-clause-kept : goal.resume-requires-clause-kept
resume-requires-clause-kept g c =
    let t = c.go_back.new.terms in
    subst (AreKept (g.B.Base.serves c.args.base.now) g.B.Base.group (g.B.Base.out c.args.base.now))
    (ap calls_in c.in-Some.ensures.none ∙ calls-turn (said t).stack (saved_now t c.in-Some.what)) c.requires.ready.kept

pub resume-requires-clause-named : goal.resume-requires-clause-named
resume-requires-clause-named g c = λ j b.
    let t = c.go_back.new.terms in
    subst (All (AreNamed g.B.Base.rest g.B.Base.looked_at j)) (ap calls_in c.in-Some.ensures.none ∙ calls-turn (said t).stack (saved_now t c.in-Some.what)) (c.requires.ready.each j b).named

pub resume-requires-clause-room : goal.resume-requires-clause-room
resume-requires-clause-room g c = has_room _ _ _ _ _ _ _ _ c.args.machine.now c.requires.ready c.requires.budget

pub returns-clause-left : goal.returns-clause-left
returns-clause-left g c =
    let m = c.args.machine.now in
    let t = c.go_back.new.terms in
    let n = c.resume.new.machine in
    let e = c.in_ok-resume-in-Some.ensures in
    let k = e.counts in
    let were = ap calls_in c.in-Some.ensures.none ∙ calls-turn (said t).stack (saved_now t c.in-Some.what) in
    record {
      terms = k.terms;
      shown = k.shown ∙ c.in-Some.ensures.shown;
      held = held_retaken c.args.host.now.budget (g.B.Base.view c.args.base.now) (g.B.Base.view c.resume.new.base) m n n.tally.visits k.steps k.tally
          (fewer (calls m) (calls_in (said t).stack) (turn_calls (turn_now t c.in-Some.what)) (length (calls n)) were e.grown) e.front c.if-machine-host.false c.requires.ready.held;
    }

pub returns-clause-moves : goal.returns-clause-moves
returns-clause-moves g c =
    let m = c.args.machine.now in
    let t = c.go_back.new.terms in
    let n = c.resume.new.machine in
    let e = c.in_ok-resume-in-Some.ensures in
    let is = c.in-Some.ensures.none in
    makes_as _ _ _ _
    (λ made h j b.
    let x = setting c.args.host.now m j in
    let mid : Machine _ = record m { mode = IsGoing; steps = m.steps + 1; terms = t } in
    retaken x m c.requires.failing t (turn_now t c.in-Some.what) is c.in-Some.ensures.fresh
    (newest-open (said m.terms).stack (said t).stack (saved_now t c.in-Some.what) true c.requires.newest is) c.if-machine-host.false
    g.B.Base.rest g.B.Base.may_visit g.B.Base.looked_at g.B.Base.ahead _ made n
    (subst (λ (y : Setting). Resumes g.B.Base.rest g.B.Base.may_visit g.B.Base.looked_at g.B.Base.ahead made y (turn_now t c.in-Some.what) mid n)
    (same_setting c.args.host.now m mid j c.in-Some.ensures.shown) (h j b))
    e.counts (c.requires.ready.each j (begins_before _ _ j e.seen b)))
    e.resumed
