use Rattle.std.proofs.Common.{◌++◌, ◌∷◌, [], refl, sym, ap, ◌∙◌, subst, inr}
use Rattle.std.specs.Prelude.{Bool, if◌then◌else◌}
use Rattle.wam_machine.specs.Terms.{Said, said, call_now, saved_now, calls_in}
use Rattle.wam_machine.specs.Cursors.{goal_of}
use Rattle.wam_machine.specs.View.{AreKept}
use Rattle.wam_machine.specs.declared.terms.Alternative.TheVariants as is
use Rattle.wam_machine.proofs.Begins.{begins_before, looks_refl}
use Rattle.wam_machine.proofs.Kept.{last_out, last_serves, kept_without}
use Rattle.wam_machine.proofs.Tried.{call_kept, calls-left}
use Rattle.wam_machine.proofs.procedures.keep.Goals as goal

pub more-requires-clause-out : goal.more-requires-clause-out
more-requires-clause-out g c = last_out g.B.Base.group (g.B.Base.serves c.args.base.now) _ _ (call_now c.args.machine.now.terms c.args.call) c.requires.kept

pub give_up-requires-clause-serves : goal.give_up-requires-clause-serves
give_up-requires-clause-serves g c = (
  goal_of (call_now c.args.machine.now.terms c.args.call),
  last_serves g.B.Base.group (g.B.Base.serves c.args.base.now) _ _ (call_now c.args.machine.now.terms c.args.call) c.requires.kept,
)

pub give_up-requires-clause-out : goal.give_up-requires-clause-out
give_up-requires-clause-out g c = last_out g.B.Base.group (g.B.Base.serves c.args.base.now) _ _ (call_now c.args.machine.now.terms c.args.call) c.requires.kept

pub give_up-requires-else-more-clause-serves : goal.give_up-requires-else-more-clause-serves
give_up-requires-else-more-clause-serves g c = (
  goal_of (call_now c.args.machine.now.terms c.args.call),
  last_serves g.B.Base.group (g.B.Base.serves c.args.base.now) _ _ (call_now c.args.machine.now.terms c.args.call) c.requires.kept,
)

pub give_up-requires-else-more-clause-out : goal.give_up-requires-else-more-clause-out
give_up-requires-else-more-clause-out g c = last_out g.B.Base.group (g.B.Base.serves c.args.base.now) _ _ (call_now c.args.machine.now.terms c.args.call) c.requires.kept

pub save-requires-clause-turn : goal.save-requires-clause-turn
save-requires-clause-turn g c = call_kept c.args.machine.now.terms c.make_place.new.terms c.in-Ok.ensures.cells c.args.call c.requires.cells

pub returns-in-Ok-clause-seen : goal.returns-in-Ok-clause-seen
returns-in-Ok-clause-seen g c = looks_refl _ c.front-front.ensures.sound

pub returns-in-Ok-clause-kept : goal.returns-in-Ok-clause-kept
returns-in-Ok-clause-kept g c =
    let t = c.args.machine.now.terms in
    subst (AreKept (g.B.Base.serves c.args.base.now) g.B.Base.group (g.B.Base.out c.args.base.now))
    (sym (calls-left t c.make_place.new.terms c.args.call c.in-Ok.ensures.said c.in-Ok.ensures.cells c.requires.cells c.save.new.terms c.save.ensures.said))
    c.requires.kept

pub returns-in-Ok-clause-cells : goal.returns-in-Ok-clause-cells
returns-in-Ok-clause-cells g c = λ k h.
    let first = c.in-Ok.ensures.cells k h in
    let last = c.save.ensures.cells k first.0 in
    (last.0, last.1 ∙ first.1)

pub returns-in-Ok-clause-pushed : goal.returns-in-Ok-clause-pushed
returns-in-Ok-clause-pushed g c =
    inr (calls-left c.args.machine.now.terms c.make_place.new.terms c.args.call c.in-Ok.ensures.said c.in-Ok.ensures.cells c.requires.cells c.save.new.terms c.save.ensures.said)

pub returns-in-Err-clause-kept : goal.returns-in-Err-clause-kept
returns-in-Err-clause-kept g c =
    subst (λ (t : Said g.row.B-Cursor.Denot). AreKept (g.B.Base.serves c.give_up.new.base) g.B.Base.group (g.B.Base.out c.give_up.new.base) (calls_in t.stack)) (sym c.in-Err.ensures.said)
    (kept_without g.B.Base.group (g.B.Base.serves c.args.base.now) _ _ (g.B.Base.serves c.give_up.new.base) _ (call_now c.args.machine.now.terms c.args.call) c.requires.kept
    c.give_up.ensures.others c.give_up.ensures.out)

pub returns-else-more-clause-kept : goal.returns-else-more-clause-kept
returns-else-more-clause-kept g c =
    kept_without g.B.Base.group (g.B.Base.serves c.args.base.now) _ _ (g.B.Base.serves c.give_up-else-more.new.base) _ (call_now c.args.machine.now.terms c.args.call) c.requires.kept
    c.give_up-else-more.ensures.others c.give_up-else-more.ensures.out

pub returns-else-more-clause-stack : goal.returns-else-more-clause-stack
returns-else-more-clause-stack g c j b =
    let t = c.args.machine.now.terms in
    let left = call_now t c.args.call in
    ap (λ (b : Bool). if b then (said t).stack ++ saved_now t (is.Clauses c.args.call) ∷ [] else (said t).stack)
    (sym c.if-more.false
    ∙ c.more.ensures left refl (last_serves g.B.Base.group (g.B.Base.serves c.args.base.now) _ _ left c.requires.kept) j (begins_before _ _ j c.give_up-else-more.ensures.seen.grows b))
