use Rattle.std.proofs.Common.{◌≡◌, ◌≤◌, ◌∷◌, [], sym, subst, length, take, refl, arith, None}
use Rattle.journals.specs.Journal.{number_of}
use Rattle.wam_machine.specs.Terms.{said}
use Rattle.wam_machine.specs.View.{setting, stack_of, mode_of as shown_mode}
use Rattle.wam_machine.proofs.Begins.{long, looks_refl, below_seen}
use Rattle.wam_machine.proofs.Looked.{call_missing}
use Rattle.wam_machine.proofs.Steps.{quiet}
use Rattle.wam_machine.proofs.procedures.miss.Goals as goal

pub returns-clause-goes : goal.returns-clause-goes
returns-clause-goes g c = λ tree j b.
    let m = c.args.machine.now in
    let t = said m.terms in
    let is : c.front-front.result ≡ (g.B.Base.view c.args.base.now).seen = c.front-front.ensures.front in
    let low : m.front ≤ c.front-front.result = omega (arith, c.requires.ready.held.reached) in
    let far = long (g.B.Base.view c.args.base.now) j c.requires.ready.sound b in
    let high : c.front-front.result ≤ length j = omega arith in
    let absent : number_of (take c.front-front.result j) c.args.indicator.now ≡ None = subst (λ n. number_of (take n j) c.args.indicator.now ≡ None) (sym is) (c.requires.absent j b) in
    quiet g.B.Base.rest g.B.Base.may_visit g.B.Base.looked_at g.B.Base.ahead _ _ j m _ (c.front-front.result ∷ []) c.in_ok-push.ensures.items
    (λ looks tried fs. call_missing (setting c.args.host.now m j) t.goals (stack_of g.B.Base.rest g.B.Base.looked_at j t.stack) t.bindings t.fresh m.steps m.events.items m.front looks tried
    (shown_mode m.mode) tree c.args.indicator.now _ c.front-front.result fs low high absent c.in_ok-ball.ensures)
    refl refl (c.requires.ready.each j b)

pub returns-in_err-push-clause-seen : goal.returns-in_err-push-clause-seen
returns-in_err-push-clause-seen g c = looks_refl _ c.requires.ready.sound

pub returns-clause-seen : goal.returns-clause-seen
returns-clause-seen g c = looks_refl _ c.requires.ready.sound

pub returns-clause-left : goal.returns-clause-left
returns-clause-left g c =
    let v = g.B.Base.view c.args.base.now in
    let is : c.front-front.result ≡ v.seen = c.front-front.ensures.front in
    let h = c.requires.ready.held in
    record {
      terms = c.requires.ready.terms;
      shown = refl;
      held = record {
        within = h.within;
        few = h.few;
        reached = omega (arith, is);
        below = below_seen v c.front-front.result c.requires.ready.sound is;
        looks = h.looks;
        scans = h.scans;
        kept = h.kept;
        wants = h.wants;
        built = h.built;
        indexes = h.indexes;
      };
    }
