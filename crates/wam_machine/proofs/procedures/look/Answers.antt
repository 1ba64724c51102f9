use Rattle.std.proofs.Common.{◌≡◌, ◌≤◌, ◌∙◌, ◌++◌, ◌∷◌, [], List, ℕ, sym, ap, subst, length, refl, arith}
use Rattle.std.proofs.lemmas.List.Elements.{All-push}
use Rattle.prolog_terms.specs.declared.entry.Entry.{Entry}
use Rattle.term_store.specs.declared.cell.Cell.{Cell}
use Rattle.wam_machine.specs.States.{taking}
use Rattle.wam_machine.specs.Terms.{IsBuilt, IsOfUse, call_now, built, use_of}
use Rattle.wam_machine.specs.Cursors.{AreNamed}
use Rattle.wam_machine.specs.View.{setting, calls, GoesOn, IsHeld, IsSearch}
use Rattle.wam_machine.specs.declared.terms.Use.{Use}
use Rattle.wam_machine.proofs.Begins.{begins_before, long, fronted, grows_trans, host_on}
use Rattle.wam_machine.proofs.Kept.{kept_count, kept_more}
use Rattle.wam_machine.proofs.Room.{has_room, room_after, less, held_looked}
use Rattle.wam_machine.proofs.Looked.{looked}
use Rattle.wam_machine.proofs.procedures.look.Goals as goal

pub open-call-requires-clause-room : goal.open-call-requires-clause-room
open-call-requires-clause-room g c =
    let r = c.requires.ready in
    let out = kept_count g.B.Base.group (g.B.Base.serves c.args.base.now) _ _ r.kept in
    omega (arith, out, r.held.few, r.held.looks, r.held.within, c.requires.budget)

pub open-call-requires-clause-tally : goal.open-call-requires-clause-tally
open-call-requires-clause-tally g c = has_room _ _ _ _ _ _ _ _ c.args.machine.now c.requires.ready c.requires.budget

pub try_next-requires-clause-kept : goal.try_next-requires-clause-kept
try_next-requires-clause-kept g c =
    kept_more g.B.Base.group (g.B.Base.serves c.args.base.now) _ _ (g.B.Base.serves c.open-call.new.base) _ (call_now c.args.machine.now.terms c.open-call.result.call) c.requires.ready.kept
    c.open-call.ensures.others c.open-call.ensures.out c.open-call.ensures.serves

pub try_next-requires-clause-named : goal.try_next-requires-clause-named
try_next-requires-clause-named g c = λ j b.
    let m = c.args.machine.now in
    let before = begins_before (g.B.Base.view c.args.base.now) (g.B.Base.view c.open-call.new.base) j c.open-call.ensures.seen.grows b in
    let opened = c.open-call.ensures.opened m.front c.requires.ready.held.reached j b in
    All-push (AreNamed g.B.Base.rest g.B.Base.looked_at j) (calls m) (call_now m.terms c.open-call.result.call) (c.requires.ready.each j before).named opened.named

pub try_next-requires-clause-room : goal.try_next-requires-clause-room
try_next-requires-clause-room g c =
    room_after _ _ _ _ _ _ _ _ c.args.machine.now c.open-call.result.how c.open-call.new.tally (g.B.Base.view c.open-call.new.base) c.requires.ready c.requires.budget c.requires.room c.open-call.ensures.seen
    c.open-call.ensures.counts
    (λ j b. less _ _ _ (c.open-call.ensures.opened c.args.machine.now.front c.requires.ready.held.reached j b).raised)

pub try_next-requires-clause-host : goal.try_next-requires-clause-host
try_next-requires-clause-host g c = host_on c.args.host.now (g.B.Base.view c.args.base.now) (g.B.Base.view c.open-call.new.base) c.open-call.ensures.seen.grows c.requires.host

pub try_next-requires-clause-front : goal.try_next-requires-clause-front
try_next-requires-clause-front g c = fronted (g.B.Base.view c.open-call.new.base) c.front-front.result c.open-call.ensures.seen.grows.sound c.front-front.ensures.front

pub try_next-requires-clause-cells : goal.try_next-requires-clause-cells
try_next-requires-clause-cells g c =
    let t = c.args.machine.now.terms in
    (subst (IsBuilt t) (sym c.open-call.ensures.goal) c.requires.goal, subst (IsOfUse (IsBuilt t)) (sym c.open-call.ensures.used) c.requires.used)

pub returns-in_err-try_next-clause-seen : goal.returns-in_err-try_next-clause-seen
returns-in_err-try_next-clause-seen g c = grows_trans _ _ _ c.open-call.ensures.seen.grows c.try_next.ensures.seen

pub returns-clause-seen : goal.returns-clause-seen
returns-clause-seen g c = grows_trans _ _ _ c.open-call.ensures.seen.grows c.try_next.ensures.seen

pub returns-clause-left : goal.returns-clause-left
returns-clause-left g c =
    let m = c.args.machine.now in
    let u = g.B.Base.view c.try_next.new.base in
    let n = c.try_next.new.machine in
    let e = c.in_ok-try_next.ensures in
    let k = e.counts in
    let held = held_looked c.args.host.now.budget (g.B.Base.view c.args.base.now) u m.steps m.front n.front (length (calls m)) (length (calls n)) m.tally c.open-call.new.tally n.tally c.open-call.result.how
    c.requires.ready.held c.requires.room c.open-call.ensures.counts k.tally e.grown e.front in
    record {
      terms = k.terms;
      shown = k.shown;
      held = subst (λ (s : ℕ). IsHeld c.args.host.now.budget u s n.front (length (calls n)) n.tally) (sym k.steps) held;
    }

pub returns-clause-goes : goal.returns-clause-goes
returns-clause-goes g c =
    let m = c.args.machine.now in
    let v = g.B.Base.view c.args.base.now in
    let w = g.B.Base.view c.open-call.new.base in
    let u = g.B.Base.view c.try_next.new.base in
    let h = c.args.host.now in
    let e = c.in_ok-try_next.ensures in
    let call = c.open-call.result.call in
    let left = call_now m.terms call in
    let made = e.tried.made in
    record {
      made = made;
      own = e.tried.own ∙ ap (λ (l : List Entry). l ++ made) c.open-call.ensures.seen.own;
      so = λ j b with search.
          let mid_b = begins_before w u j e.seen b in
          let old_b = begins_before v w j c.open-call.ensures.seen.grows mid_b in
          let at : g.B.Base.looked_at call.cursor ≡ w.seen = c.open-call.ensures.at in
          let low : m.front ≤ g.B.Base.looked_at call.cursor = omega (arith, at, c.requires.ready.held.reached, c.open-call.ensures.seen.grows.front) in
          let after : v.seen ≤ g.B.Base.looked_at call.cursor = omega (arith, at, c.open-call.ensures.seen.grows.front) in
          let far = long w j c.open-call.ensures.seen.grows.sound mid_b in
          let high : g.B.Base.looked_at call.cursor ≤ length j = omega (arith, at, far) in
          let mid = record m { front = c.front-front.result; fronts = c.push_reserved.new.self; tally = c.open-call.new.tally } in
          let tries = e.tried.so j b in
          let counts = e.counts in
          let searches : IsSearch (setting h m j) left.used left.goal v.seen left.procedure with =
          subst (λ (k : Use). IsSearch (setting h m j) (use_of (built m.terms) k) left.goal v.seen left.procedure with) (sym c.open-call.ensures.used)
          (subst (λ (k : Cell). IsSearch (setting h m j) (use_of (built m.terms) c.args.used) (built m.terms k) v.seen left.procedure with) (sym c.open-call.ensures.goal)
          (subst (λ (p : ℕ). IsSearch (setting h m j) (use_of (built m.terms) c.args.used) (built m.terms c.args.goal) v.seen p with) (sym c.open-call.ensures.procedure) search)) in
          subst (λ cs. GoesOn g.B.Base.rest g.B.Base.may_visit g.B.Base.looked_at g.B.Base.ahead cs made (λ s. taking (setting h m j) s (with s.front)) j m c.try_next.new.machine) (sym e.seen.causes)
          (looked g.B.Base.rest g.B.Base.may_visit g.B.Base.looked_at g.B.Base.ahead w.causes (setting h m j) m mid c.try_next.new.machine left c.open-call.result.how made v.seen with
          (c.front-front.ensures.front ∙ sym at) low after high searches refl refl refl refl
          (c.push_reserved.ensures.items ∙ ap (λ l. l ++ c.front-front.result ∷ []) c.in_ok-reserve.ensures.items)
          (c.open-call.ensures.opened m.front c.requires.ready.held.reached j mid_b) c.open-call.ensures.counts c.open-call.ensures.ahead
          (record { given = tries.given; added = tries.added; fronts_are = tries.fronts_are; goes = tries.goes; most = tries.most; least = tries.least; named = tries.named })
          (record { terms = counts.terms; shown = counts.shown; steps = counts.steps; events = counts.events; tally = counts.tally }) (c.requires.ready.each j old_b));
    }
