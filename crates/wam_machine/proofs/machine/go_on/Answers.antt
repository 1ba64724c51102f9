use Rattle.std.proofs.Common.{sym, ◌≡◌, ◌++◌, ◌∷◌, [], refl, ap, ◌∙◌, subst}
use Rattle.prolog_terms.specs.Substitutions.{substituted, numbered}
use Rattle.wam_machine.specs.States.{Setting, Do, ConditionEnd, NotEnd, CatchEnd, FindallEnd, State, Outcome, Goes, fails, cut_back}
use Rattle.wam_machine.specs.Machine.{leaving_catch, found_at}
use Rattle.wam_machine.specs.Terms.{Said, said, built, next_now, is_any_open}
use Rattle.wam_machine.specs.View.{setting, performs_goal, Does}
use Rattle.wam_machine.specs.declared.run.Event.TheVariants.{Answer}
use Rattle.wam_machine.specs.declared.state.Machine.{Machine}
use Rattle.wam_machine.specs.declared.state.Mode.TheVariants.{Failing as IsFailing}
use Rattle.wam_machine.specs.declared.terms.Next.{Next as Waiting}
use Rattle.wam_machine.specs.declared.terms.Terms.{Terms}
use Rattle.wam_machine.proofs.Begins.{grows_refl, looks_refl, makes_none, makes_as_ok}
use Rattle.wam_machine.proofs.Done.{acts_goes, acts_left, acts_kept}
use Rattle.wam_machine.proofs.Going.{left_through, same_setting, ready_taken, does_answer, goes_next, does_next}
use Rattle.wam_machine.proofs.machine.go_on.Goals as goal

pub do_goal-requires-clause-ready : goal.do_goal-requires-clause-ready
do_goal-requires-clause-ready g c = ready_taken _ _ _ _ _ _ _ _ c.args.machine.now c.take_next.new.terms c.requires.ready c.in-Some-Do.ensures.terms c.in-Some-Do.ensures.same

pub cut_stack-requires : goal.cut_stack-requires
cut_stack-requires g c = record { ready = ready_taken _ _ _ _ _ _ _ _ c.args.machine.now c.take_next.new.terms c.requires.ready c.in-Some-ConditionEnd.ensures.terms c.in-Some-ConditionEnd.ensures.same }

pub end_not-requires : goal.end_not-requires
end_not-requires g c = record { ready = ready_taken _ _ _ _ _ _ _ _ c.args.machine.now c.take_next.new.terms c.requires.ready c.in-Some-NotEnd.ensures.terms c.in-Some-NotEnd.ensures.same }

pub returns-in_ok-answer-in-None-clause-seen : goal.returns-in_ok-answer-in-None-clause-seen
returns-in_ok-answer-in-None-clause-seen g c = grows_refl _ c.requires.ready.sound

pub returns-in_ok-answer-in-None-clause-moves : goal.returns-in_ok-answer-in-None-clause-moves
returns-in_ok-answer-in-None-clause-moves g c = makes_none _ _ _ (looks_refl _ c.requires.ready.sound) (λ j b.
    let m = c.args.machine.now in
    let n = c.answer.new.machine in
    let e = c.in_ok-answer-in-None.ensures in
    let t = c.in-None.ensures.next in
    does_answer g.B.Base.rest g.B.Base.may_visit g.B.Base.looked_at g.B.Base.ahead _ (setting c.args.host.now m j) j m n c.requires.going c.in-None.ensures.none
    (e.same ∙ ap (λ (u : Terms _). let k : Machine _ = record m { mode = IsFailing; terms = u; events = n.events } in k) (sym e.terms)) (ap said (e.terms ∙ t))
    (e.events ∙ ap (λ (u : Terms _). m.events.items ++ Answer (numbered (substituted (said u).bindings (said u).shown)) (is_any_open (said u).stack) ∷ []) t) (c.requires.ready.each j b))

pub returns-in-Some-Do-clause-moves : goal.returns-in-Some-Do-clause-moves
returns-in-Some-Do-clause-moves g c =
    let m = c.args.machine.now in
    let t = c.take_next.new.terms in
    let mid : Machine _ = record m { terms = t } in
    let n = c.do_goal.new.machine in
    let w = built t c.in-Some-Do.goal in
    let some = subst (λ (k : Waiting). (said m.terms).goals ≡ next_now t k ∷ (said t).goals) c.in-Some-Do.field-0-is c.in-Some-Do.ensures.none in
    let same = c.in-Some-Do.ensures.same in
    makes_as_ok c.do_goal.result _ _ _ _
    (λ o made h j b.
    let x = setting c.args.host.now m j in
    does_next g.B.Base.rest g.B.Base.may_visit g.B.Base.looked_at g.B.Base.ahead (g.B.Base.view c.do_goal.new.base).causes x m t (Do w c.in-Some-Do.cut) (performs_goal x w c.in-Some-Do.cut) c.requires.going some same (λ s gs. refl) made n o
    (subst (λ (y : Setting). Does g.B.Base.rest g.B.Base.may_visit g.B.Base.looked_at g.B.Base.ahead (g.B.Base.view c.do_goal.new.base).causes made (performs_goal y w c.in-Some-Do.cut) y mid n o)
    (same_setting c.args.host.now m mid j (ap (λ (u : Said _). u.shown) same)) (h j b)))
    c.do_goal.ensures.moves

pub returns-in-Some-ConditionEnd-clause-moves : goal.returns-in-Some-ConditionEnd-clause-moves
returns-in-Some-ConditionEnd-clause-moves g c = makes_none _ _ _ c.cut_stack.ensures.seen (λ j b.
    let m = c.args.machine.now in
    let t = c.take_next.new.terms in
    let h = c.in-Some-ConditionEnd.height in
    let some = subst (λ (k : Waiting). (said m.terms).goals ≡ next_now t k ∷ (said t).goals) c.in-Some-ConditionEnd.field-0-is c.in-Some-ConditionEnd.ensures.none in
    goes_next g.B.Base.rest g.B.Base.may_visit g.B.Base.looked_at g.B.Base.ahead _ (setting c.args.host.now m j) m t (ConditionEnd h) (λ s. Goes (cut_back h s)) c.requires.going some c.in-Some-ConditionEnd.ensures.same
    (λ s gs. refl) j c.cut_stack.new.machine (c.cut_stack.ensures.goes j b))

pub returns-in-Some-NotEnd-clause-moves : goal.returns-in-Some-NotEnd-clause-moves
returns-in-Some-NotEnd-clause-moves g c = makes_none _ _ _ c.end_not.ensures.seen (λ j b.
    let m = c.args.machine.now in
    let t = c.take_next.new.terms in
    let h = c.in-Some-NotEnd.height in
    let some = subst (λ (k : Waiting). (said m.terms).goals ≡ next_now t k ∷ (said t).goals) c.in-Some-NotEnd.field-0-is c.in-Some-NotEnd.ensures.none in
    goes_next g.B.Base.rest g.B.Base.may_visit g.B.Base.looked_at g.B.Base.ahead _ (setting c.args.host.now m j) m t (NotEnd h) (λ s. fails (cut_back h s)) c.requires.going some c.in-Some-NotEnd.ensures.same
    (λ s gs. refl) j c.end_not.new.machine (c.end_not.ensures.goes j b))

pub leave_catch-requires : goal.leave_catch-requires
leave_catch-requires g c = record { ready = ready_taken _ _ _ _ _ _ _ _ c.args.machine.now c.take_next.new.terms c.requires.ready c.in-Some-CatchEnd.ensures.terms c.in-Some-CatchEnd.ensures.same }

pub returns-in-Some-CatchEnd-clause-moves : goal.returns-in-Some-CatchEnd-clause-moves
returns-in-Some-CatchEnd-clause-moves g c = makes_none _ _ _ c.leave_catch.ensures.seen (λ j b.
    let m = c.args.machine.now in
    let t = c.take_next.new.terms in
    let h = c.in-Some-CatchEnd.height in
    let some = subst (λ (k : Waiting). (said m.terms).goals ≡ next_now t k ∷ (said t).goals) c.in-Some-CatchEnd.field-0-is c.in-Some-CatchEnd.ensures.none in
    goes_next g.B.Base.rest g.B.Base.may_visit g.B.Base.looked_at g.B.Base.ahead _ (setting c.args.host.now m j) m t (CatchEnd h) (λ s. Goes (leaving_catch h s)) c.requires.going some c.in-Some-CatchEnd.ensures.same
    (λ s gs. refl) j c.leave_catch.new.machine (c.leave_catch.ensures.goes j b))

pub returns-in_err-keep_found-in-Some-FindallEnd-clause-seen : goal.returns-in_err-keep_found-in-Some-FindallEnd-clause-seen
returns-in_err-keep_found-in-Some-FindallEnd-clause-seen g c = grows_refl _ c.requires.ready.sound

pub returns-in_ok-keep_found-in-Some-FindallEnd : goal.returns-in_ok-keep_found-in-Some-FindallEnd
returns-in_ok-keep_found-in-Some-FindallEnd g c =
    let m = c.args.machine.now in
    let t = c.take_next.new.terms in
    let mid : Machine _ = record m { terms = t } in
    let n = c.keep_found.new.machine in
    let a = c.in-Some-FindallEnd in
    let w = built t a.template in
    let h = a.height in
    let ready = ready_taken _ _ _ _ _ _ _ _ m t c.requires.ready a.ensures.terms a.ensures.same in
    let some = subst (λ (k : Waiting). (said m.terms).goals ≡ next_now t k ∷ (said t).goals) a.field-0-is a.ensures.none in
    let f : State → Outcome = λ s. fails (record s { stack = found_at h (numbered w) s.stack }) in
    let acts = c.in_ok-keep_found-in-Some-FindallEnd.ensures.acts in
    record {
      seen = grows_refl _ c.requires.ready.sound;
      becomes = g.met.B.Base.becomes_itself _;
      kept = acts_kept f mid n acts (g.B.Base.serves c.args.base.now) g.B.Base.group (g.B.Base.out c.args.base.now) ready.kept;
      left = left_through c.args.host.now.budget (g.B.Base.view c.args.base.now) m mid n (ap (λ (u : Said _). u.shown) a.ensures.same)
          (acts_left f mid n acts c.args.host.now.budget (g.B.Base.view c.args.base.now) ready.held);
      moves = makes_none _ _ _ (looks_refl _ c.requires.ready.sound) (λ j b.
          goes_next g.B.Base.rest g.B.Base.may_visit g.B.Base.looked_at g.B.Base.ahead _ (setting c.args.host.now m j) m t (FindallEnd w h) f c.requires.going some a.ensures.same
          (λ s gs. refl) j n (acts_goes f mid n acts g.B.Base.rest g.B.Base.may_visit g.B.Base.looked_at g.B.Base.ahead _ j (ready.each j b)));
    }
