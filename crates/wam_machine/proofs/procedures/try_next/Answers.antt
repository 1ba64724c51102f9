use Rattle.std.proofs.Common.{◌≤◌, ◌++◌, List, take, sym, ap, subst, arith, ◌∙◌}
use Rattle.prolog_terms.specs.declared.entry.Entry.{Entry}
use Rattle.prolog_terms.specs.Tree.{Tree}
use Rattle.wam_machine.specs.Terms.{IsBuilt, IsOfUse, built, use_of, call_now}
use Rattle.wam_machine.specs.Cursors.{Begins, goal_of}
use Rattle.wam_machine.specs.View.{IsFronted, calls, setting, state_of, where_met}
use Rattle.wam_machine.specs.declared.state.Machine.{Machine}
use Rattle.wam_machine.proofs.Begins.{begins_before, looks_trans, grows_trans, fronted_on, host_on, makes_none}
use Rattle.wam_machine.proofs.Kept.{kept_changed, last_serves, last_out, kept_without}
use Rattle.wam_machine.proofs.AskedMoves.{asked_kept}
use Rattle.wam_machine.proofs.UsableLater.{usable_seen, usable_alike}
use Rattle.wam_machine.proofs.Tried.{met_alike, all_named, name_usable, tries_none, tries_some, pushed_few, counts_served}
use Rattle.wam_machine.proofs.procedures.try_next.Goals as goal

pub next-requires-clause-serves : goal.next-requires-clause-serves
next-requires-clause-serves g c = last_serves g.B.Base.group (g.B.Base.serves c.args.base.now) _ _ (call_now c.args.machine.now.terms c.args.call) c.requires.kept

pub next-requires-clause-out : goal.next-requires-clause-out
next-requires-clause-out g c = last_out g.B.Base.group (g.B.Base.serves c.args.base.now) _ _ (call_now c.args.machine.now.terms c.args.call) c.requires.kept

pub give_up-requires-clause-serves : goal.give_up-requires-clause-serves
give_up-requires-clause-serves g c = (goal_of (call_now c.args.machine.now.terms c.next.new.call), c.next.ensures.serves)

pub give_up-requires-clause-out : goal.give_up-requires-clause-out
give_up-requires-clause-out g c =
    let before = call_now c.args.machine.now.terms c.args.call in
    let after = call_now c.args.machine.now.terms c.next.new.call in
    last_out g.B.Base.group (g.B.Base.serves c.next.new.base) _ _ after
    (kept_changed g.B.Base.group (g.B.Base.serves c.args.base.now) _ (calls c.args.machine.now) (g.B.Base.serves c.next.new.base) _ before after
    c.requires.kept c.next.ensures.others c.next.ensures.out c.next.ensures.group c.next.ensures.serves)

pub returns-in-None-clause-kept : goal.returns-in-None-clause-kept
returns-in-None-clause-kept g c =
    let before = call_now c.args.machine.now.terms c.args.call in
    let after = call_now c.args.machine.now.terms c.next.new.call in
    kept_without g.B.Base.group (g.B.Base.serves c.next.new.base) _ _ (g.B.Base.serves c.give_up.new.base) _ after
    (kept_changed g.B.Base.group (g.B.Base.serves c.args.base.now) _ (calls c.args.machine.now) (g.B.Base.serves c.next.new.base) _ before after
    c.requires.kept c.next.ensures.others c.next.ensures.out c.next.ensures.group c.next.ensures.serves)
    c.give_up.ensures.others c.give_up.ensures.out

pub returns-in-None-clause-seen : goal.returns-in-None-clause-seen
returns-in-None-clause-seen g c = (looks_trans _ _ _ c.next.ensures.seen c.give_up.ensures.seen).grows

pub returns-in-None-clause-front : goal.returns-in-None-clause-front
returns-in-None-clause-front g c = fronted_on _ _ c.args.machine.now.front (looks_trans _ _ _ c.next.ensures.seen c.give_up.ensures.seen) c.requires.front

pub returns-in-None-clause-tried : goal.returns-in-None-clause-tried
returns-in-None-clause-tried g c =
    let before = call_now c.args.machine.now.terms c.args.call in
    let after = call_now c.args.machine.now.terms c.next.new.call in
    makes_none _ _ _ (looks_trans _ _ _ c.next.ensures.seen c.give_up.ensures.seen)
    (λ j b.
    let between : Begins (g.B.Base.view c.next.new.base) j = begins_before _ _ j c.give_up.ensures.seen.grows b in
    tries_none g.B.Base.rest g.B.Base.may_visit g.B.Base.looked_at g.B.Base.ahead j before after (setting c.args.host.now c.args.machine.now j) c.args.machine.now c.next.new.tally
    (c.in-None.ensures.gives j between).0 (c.requires.named j (begins_before _ _ j c.next.ensures.seen.grows between)) (c.next.ensures.visits j between)
    (omega (arith, c.in-None.ensures.ahead)))

pub attempt-requires-clause-cells : goal.attempt-requires-clause-cells
attempt-requires-clause-cells g c =
    let t = c.args.machine.now.terms in
    (subst (IsBuilt t) (sym c.next.ensures.goal) c.requires.cells.0, subst (IsOfUse (IsBuilt t)) (sym c.next.ensures.used) c.requires.cells.1)

pub attempt-requires-clause-kept : goal.attempt-requires-clause-kept
attempt-requires-clause-kept g c =
    let before = call_now c.args.machine.now.terms c.args.call in
    let after = call_now c.args.machine.now.terms c.next.new.call in
    kept_changed g.B.Base.group (g.B.Base.serves c.args.base.now) _ (calls c.args.machine.now) (g.B.Base.serves c.next.new.base) _ before after
    c.requires.kept c.next.ensures.others c.next.ensures.out c.next.ensures.group c.next.ensures.serves

pub attempt-requires-clause-named : goal.attempt-requires-clause-named
attempt-requires-clause-named g c j b =
    let t = c.args.machine.now.terms in
    let before = call_now t c.args.call in
    let after = call_now t c.next.new.call in
    all_named g.B.Base.rest g.B.Base.may_visit g.B.Base.looked_at g.B.Base.ahead j before after c.in-Some.name (calls c.args.machine.now)
    c.next.ensures.at (ap (use_of (built t)) c.next.ensures.used) (c.in-Some.ensures.gives j b) (c.requires.named j (begins_before _ _ j c.next.ensures.seen.grows b))

pub attempt-requires-clause-name : goal.attempt-requires-clause-name
attempt-requires-clause-name g c j b =
    let t = c.args.machine.now.terms in
    let before = call_now t c.args.call in
    let after = call_now t c.next.new.call in
    (name_usable g.B.Base.rest g.B.Base.may_visit g.B.Base.looked_at g.B.Base.ahead j before after c.in-Some.name (calls c.args.machine.now)
    c.next.ensures.at (ap (use_of (built t)) c.next.ensures.used) (c.in-Some.ensures.gives j b) (c.requires.named j (begins_before _ _ j c.next.ensures.seen.grows b))).named

pub serve-requires-clause-host : goal.serve-requires-clause-host
serve-requires-clause-host g c =
    host_on c.args.host.now (g.B.Base.view c.args.base.now) (g.B.Base.view c.attempt.new.base) (looks_trans _ _ _ c.next.ensures.seen c.attempt.ensures.seen).grows c.requires.host

pub serve-requires-clause-front : goal.serve-requires-clause-front
serve-requires-clause-front g c =
    subst (λ (m : Machine _). IsFronted (g.B.Base.view c.attempt.new.base) m.front) (sym c.in_ok-met-in-Some.ensures.same)
    (fronted_on _ _ c.args.machine.now.front (looks_trans _ _ _ c.next.ensures.seen c.attempt.ensures.seen) c.requires.front)

pub serve-requires-clause-usable : goal.serve-requires-clause-usable
serve-requires-clause-usable g c = λ j b.
    let t = c.args.machine.now.terms in
    let v = g.B.Base.view c.next.new.base in
    let w = g.B.Base.view c.attempt.new.base in
    let before = call_now t c.args.call in
    let after = call_now t c.next.new.call in
    let at = g.B.Base.looked_at c.next.new.call.cursor in
    let low : at ≤ v.seen = g.met.B.Base.looked_seen _ _ _ c.next.ensures.serves in
    let le : at ≤ w.seen = omega (arith, low, c.attempt.ensures.seen.grows.front) in
    let between = begins_before v w j c.attempt.ensures.seen.grows b in
    usable_seen w j at c.in-Some.name (use_of (built c.attempt.new.machine.terms) c.next.new.call.used) c.attempt.ensures.seen.grows.sound b le
    (usable_alike (built t) (built c.attempt.new.machine.terms) c.next.new.call.used (take at j) c.in-Some.name
    (name_usable g.B.Base.rest g.B.Base.may_visit g.B.Base.looked_at g.B.Base.ahead j before after c.in-Some.name (calls c.args.machine.now)
    c.next.ensures.at (ap (use_of (built t)) c.next.ensures.used) (c.in-Some.ensures.gives j between) (c.requires.named j (begins_before _ v j c.next.ensures.seen.grows between))))

pub returns-in_err-met-in-Some-clause-seen : goal.returns-in_err-met-in-Some-clause-seen
returns-in_err-met-in-Some-clause-seen g c = (looks_trans _ _ _ c.next.ensures.seen c.attempt.ensures.seen).grows

pub returns-in_err-serve-in-Some-clause-seen : goal.returns-in_err-serve-in-Some-clause-seen
returns-in_err-serve-in-Some-clause-seen g c = grows_trans _ _ _ (looks_trans _ _ _ c.next.ensures.seen c.attempt.ensures.seen).grows c.serve.ensures.seen

pub returns-in_err-serve-in-Some-clause-kept : goal.returns-in_err-serve-in-Some-clause-kept
returns-in_err-serve-in-Some-clause-kept g c =
    asked_kept (g.B.Base.view c.attempt.new.base) (g.B.Base.view c.serve.new.base) c.attempt.new.machine c.serve.new.machine c.serve.ensures.same
    (g.B.Base.serves c.attempt.new.base) (g.B.Base.serves c.serve.new.base) g.B.Base.group _ _ c.attempt.ensures.kept c.serve.ensures.others c.serve.ensures.out

pub returns-in_ok-serve-in-Some-clause-seen : goal.returns-in_ok-serve-in-Some-clause-seen
returns-in_ok-serve-in-Some-clause-seen g c = grows_trans _ _ _ (looks_trans _ _ _ c.next.ensures.seen c.attempt.ensures.seen).grows c.serve.ensures.seen

pub returns-in_ok-serve-in-Some-clause-kept : goal.returns-in_ok-serve-in-Some-clause-kept
returns-in_ok-serve-in-Some-clause-kept g c =
    asked_kept (g.B.Base.view c.attempt.new.base) (g.B.Base.view c.serve.new.base) c.attempt.new.machine c.serve.new.machine c.serve.ensures.same
    (g.B.Base.serves c.attempt.new.base) (g.B.Base.serves c.serve.new.base) g.B.Base.group _ _ c.attempt.ensures.kept c.serve.ensures.others c.serve.ensures.out

pub returns-in_ok-serve-in-Some-clause-counts : goal.returns-in_ok-serve-in-Some-clause-counts
returns-in_ok-serve-in-Some-clause-counts g c =
    let e = c.in_ok-met-in-Some.ensures in
    counts_served c.args.machine.now c.attempt.new.machine c.serve.new.machine c.next.new.tally e.terms e.shown e.same c.next.ensures.counts c.serve.ensures.same

pub returns-in_ok-serve-in-Some-clause-front : goal.returns-in_ok-serve-in-Some-clause-front
returns-in_ok-serve-in-Some-clause-front g c = c.in_ok-serve-in-Some.ensures.asks.front

pub returns-in_ok-serve-in-Some-clause-grown : goal.returns-in_ok-serve-in-Some-clause-grown
returns-in_ok-serve-in-Some-clause-grown g c =
    pushed_few c.args.machine.now c.attempt.new.machine c.serve.new.machine (call_now c.args.machine.now.terms c.next.new.call) c.in_ok-met-in-Some.ensures.pushed c.serve.ensures.same

pub returns-in_ok-serve-in-Some-clause-tried : goal.returns-in_ok-serve-in-Some-clause-tried
returns-in_ok-serve-in-Some-clause-tried g c =
    let m = c.args.machine.now in
    let n = c.attempt.new.machine in
    let h = c.args.host.now in
    let a = c.in_ok-serve-in-Some.ensures.asks in
    let e = c.in_ok-met-in-Some.ensures in
    let before = call_now m.terms c.args.call in
    let after = call_now m.terms c.next.new.call in
    let first = looks_trans _ _ _ c.next.ensures.seen c.attempt.ensures.seen in
    record {
      made = a.made;
      own = a.own ∙ ap (λ (l : List Entry). l ++ a.made) first.own;
      so = λ j b.
          let last : Begins (g.B.Base.view c.attempt.new.base) j = begins_before _ _ j c.serve.ensures.seen b in
          let between : Begins (g.B.Base.view c.next.new.base) j = begins_before _ _ j c.attempt.ensures.seen.grows last in
          tries_some g.B.Base.rest g.B.Base.may_visit g.B.Base.looked_at g.B.Base.ahead j before after (setting h m j) m n c.serve.new.machine c.next.new.tally c.in-Some.name c.in_ok-met-in-Some.met
          a.added a.made c.next.ensures.at (ap (use_of (built m.terms)) c.next.ensures.used) (ap (built m.terms) c.next.ensures.goal) (c.in-Some.ensures.gives j between)
          (c.requires.named j (begins_before _ _ j c.next.ensures.seen.grows between)) (c.next.ensures.visits j between) c.in-Some.ensures.ahead e.same e.pushed (e.attempted j last)
          c.serve.ensures.same a.fronts_are
          (λ looks tried fs.
          let s = state_of g.B.Base.rest g.B.Base.looked_at j n looks tried (a.added ++ fs) in
          met_alike (setting h m j) (built m.terms) (built n.terms) c.next.new.call.used c.in-Some.name s c.in_ok-met-in-Some.met
          ∙ ap (λ (t : Tree). where_met (record (setting h m j) { shown = t }) (use_of (built n.terms) c.next.new.call.used) c.in-Some.name s c.in_ok-met-in-Some.met) (sym e.shown)
          ∙ a.goes j b g.B.Base.rest g.B.Base.looked_at looks tried fs);
    }
