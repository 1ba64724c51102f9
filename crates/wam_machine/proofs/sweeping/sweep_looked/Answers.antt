use Rattle.std.proofs.Common.{◌≡◌, ◌≤◌, ◌<◌, ◌+◌, ◌∙◌, ◌++◌, ◌∷◌, [], ℕ, List, sym, ap, subst, length, refl, arith}
use Rattle.std.specs.Prelude.{option_map}
use Rattle.std.proofs.lemmas.Option.{slice_get_within}
use Rattle.prolog_terms.specs.declared.entry.Entry.{Entry}
use Rattle.call_patterns.specs.Keys.{keys}
use Rattle.term_store.specs.declared.cell.Cell.{Cell}
use Rattle.journal_base.specs.View.{Out, opened}
use Rattle.wam_machine.specs.States.{taking}
use Rattle.wam_machine.specs.Terms.{Saved, Said, IsBuilt, built, use_of, call_now, calls_in}
use Rattle.wam_machine.specs.Cursors.{visits_left}
use Rattle.wam_machine.specs.View.{setting, calls, AreKept, GoesOn, IsHeld}
use Rattle.wam_machine.specs.declared.state.Machine.{Machine}
use Rattle.wam_machine.proofs.Begins.{begins_before, begins_self, grows_trans, host_on, long, fronted, fronted_on}
use Rattle.wam_machine.proofs.Kept.{kept_count, kept_more, kept_without, last_out}
use Rattle.wam_machine.proofs.Room.{has_room, room_after, less, held_looked, within}
use Rattle.wam_machine.proofs.SweptWhole.{swept_whole}
use Rattle.wam_machine.proofs.sweeping.sweep_looked.Goals as goal

pub open-call-requires-clause-may : goal.open-call-requires-clause-may
open-call-requires-clause-may g c = c.requires.dynamic

pub open-call-requires-clause-declared : goal.open-call-requires-clause-declared
open-call-requires-clause-declared g c = λ J s. slice_get_within _ _ _ (c.requires.dynamic J (begins_self (g.B.Base.view c.args.base.now) J s)).1

pub open-call-requires-clause-room : goal.open-call-requires-clause-room
open-call-requires-clause-room g c =
    let r = c.requires.ready in
    let out = kept_count g.B.Base.group (g.B.Base.serves c.args.base.now) _ _ r.kept in
    omega (arith, out, r.held.few, r.held.looks, r.held.within, c.requires.budget)

pub open-call-requires-clause-tally : goal.open-call-requires-clause-tally
open-call-requires-clause-tally g c = has_room _ _ _ _ _ _ _ _ c.args.machine.now c.requires.ready c.requires.budget

pub sweep_left-requires-clause-host : goal.sweep_left-requires-clause-host
sweep_left-requires-clause-host g c = host_on c.args.host.now (g.B.Base.view c.args.base.now) (g.B.Base.view c.open-call.new.base) c.open-call.ensures.seen.grows c.requires.host

pub sweep_left-requires-clause-sound : goal.sweep_left-requires-clause-sound
sweep_left-requires-clause-sound g c = c.open-call.ensures.seen.grows.sound

pub sweep_left-requires-clause-front : goal.sweep_left-requires-clause-front
sweep_left-requires-clause-front g c = fronted (g.B.Base.view c.open-call.new.base) c.front-front.result c.open-call.ensures.seen.grows.sound c.front-front.ensures.front

pub sweep_left-requires-clause-terms : goal.sweep_left-requires-clause-terms
sweep_left-requires-clause-terms g c = c.requires.ready.terms

pub sweep_left-requires-clause-cell : goal.sweep_left-requires-clause-cell
sweep_left-requires-clause-cell g c = subst (IsBuilt c.args.machine.now.terms) (sym c.open-call.ensures.goal) c.requires.looked

pub sweep_left-requires-clause-out : goal.sweep_left-requires-clause-out
sweep_left-requires-clause-out g c =
    last_out g.B.Base.group (g.B.Base.serves c.open-call.new.base) _ _ (call_now c.args.machine.now.terms c.open-call.result.call)
    (kept_more g.B.Base.group (g.B.Base.serves c.args.base.now) _ _ (g.B.Base.serves c.open-call.new.base) _ (call_now c.args.machine.now.terms c.open-call.result.call) c.requires.ready.kept
    c.open-call.ensures.others c.open-call.ensures.out c.open-call.ensures.serves)

pub sweep_left-requires-clause-named : goal.sweep_left-requires-clause-named
sweep_left-requires-clause-named g c = λ j b. (c.open-call.ensures.opened c.args.machine.now.front c.requires.ready.held.reached j b).named

pub sweep_left-requires-clause-erases : goal.sweep_left-requires-clause-erases
sweep_left-requires-clause-erases g c = (built c.args.machine.now.terms c.args.looked, ap (use_of (built c.args.machine.now.terms)) c.open-call.ensures.used)

pub sweep_left-requires-clause-room : goal.sweep_left-requires-clause-room
sweep_left-requires-clause-room g c =
    room_after _ _ _ _ _ _ _ _ c.args.machine.now c.open-call.result.how c.open-call.new.tally (g.B.Base.view c.open-call.new.base) c.requires.ready c.requires.budget c.requires.room c.open-call.ensures.seen
    c.open-call.ensures.counts
    (λ j b. less _ _ _ (c.open-call.ensures.opened c.args.machine.now.front c.requires.ready.held.reached j b).raised)

pub sweep_left-requires-clause-visits : goal.sweep_left-requires-clause-visits
sweep_left-requires-clause-visits g c = λ j b.
    let m = c.args.machine.now in
    let r = c.requires.ready in
    let raised = (c.open-call.ensures.opened m.front r.held.reached j b).raised in
    let before = (r.each j (begins_before (g.B.Base.view c.args.base.now) (g.B.Base.view c.open-call.new.base) j c.open-call.ensures.seen.grows b)).raised in
    let more = c.requires.room in
    within (c.open-call.new.tally.visits + visits_left g.B.Base.may_visit g.B.Base.looked_at j (call_now m.terms c.open-call.result.call)) (m.tally.looks + 1) m.steps c.args.host.now.budget
    (omega (arith, raised, before)) (omega (arith, more)) r.held.within c.requires.budget

pub sweep_left-requires-clause-of : goal.sweep_left-requires-clause-of
sweep_left-requires-clause-of g c = c.keys-keys.ensures.keys ∙ ap (λ (x : Cell). keys (built c.args.machine.now.terms x)) (sym c.open-call.ensures.goal)

pub give_up-requires-clause-out : goal.give_up-requires-clause-out
give_up-requires-clause-out g c =
    subst (λ (x : Out). 0 < x.of_group (g.B.Base.group c.sweep_left.new.call.cursor)) (sym c.sweep_left.ensures.out)
    (subst (λ (n : ℕ). 0 < (g.B.Base.out c.open-call.new.base).of_group n) (sym c.sweep_left.ensures.group)
    (last_out g.B.Base.group (g.B.Base.serves c.open-call.new.base) _ _ (call_now c.args.machine.now.terms c.open-call.result.call)
    (kept_more g.B.Base.group (g.B.Base.serves c.args.base.now) _ _ (g.B.Base.serves c.open-call.new.base) _ (call_now c.args.machine.now.terms c.open-call.result.call) c.requires.ready.kept
    c.open-call.ensures.others c.open-call.ensures.out c.open-call.ensures.serves)))

pub returns-in-Ok-clause-seen : goal.returns-in-Ok-clause-seen
returns-in-Ok-clause-seen g c =
    grows_trans _ (g.B.Base.view c.sweep_left.new.base) _ (grows_trans _ (g.B.Base.view c.open-call.new.base) _ c.open-call.ensures.seen.grows c.sweep_left.ensures.seen) c.give_up.ensures.seen.grows

pub returns-in-Ok-clause-kept : goal.returns-in-Ok-clause-kept
returns-in-Ok-clause-kept g c =
    let m = c.args.machine.now in
    let left = call_now m.terms c.open-call.result.call in
    subst (λ (ss : List (Saved g.row.B-Cursor.Denot)). AreKept (g.B.Base.serves c.give_up.new.base) g.B.Base.group (g.B.Base.out c.give_up.new.base) (calls_in ss)) (sym c.sweep_left.ensures.stack)
    (kept_without g.B.Base.group (g.B.Base.serves c.open-call.new.base) _ (calls m) (g.B.Base.serves c.give_up.new.base) (g.B.Base.out c.give_up.new.base) left
    (kept_more g.B.Base.group (g.B.Base.serves c.args.base.now) _ _ (g.B.Base.serves c.open-call.new.base) _ left c.requires.ready.kept c.open-call.ensures.others c.open-call.ensures.out c.open-call.ensures.serves)
    (λ e q s some. c.give_up.ensures.others e q (c.sweep_left.ensures.others e q s) some)
    (sym c.sweep_left.ensures.out ∙ c.give_up.ensures.out ∙ ap (λ (n : ℕ). opened n (g.B.Base.out c.give_up.new.base)) c.sweep_left.ensures.group))

pub give_up-requires-in-Err-clause-out : goal.give_up-requires-in-Err-clause-out
give_up-requires-in-Err-clause-out g c =
    subst (λ (x : Out). 0 < x.of_group (g.B.Base.group c.sweep_left.new.call.cursor)) (sym c.sweep_left.ensures.out)
    (subst (λ (n : ℕ). 0 < (g.B.Base.out c.open-call.new.base).of_group n) (sym c.sweep_left.ensures.group)
    (last_out g.B.Base.group (g.B.Base.serves c.open-call.new.base) _ _ (call_now c.args.machine.now.terms c.open-call.result.call)
    (kept_more g.B.Base.group (g.B.Base.serves c.args.base.now) _ _ (g.B.Base.serves c.open-call.new.base) _ (call_now c.args.machine.now.terms c.open-call.result.call) c.requires.ready.kept
    c.open-call.ensures.others c.open-call.ensures.out c.open-call.ensures.serves)))

pub returns-in-Err-clause-seen : goal.returns-in-Err-clause-seen
returns-in-Err-clause-seen g c =
    grows_trans _ (g.B.Base.view c.sweep_left.new.base) _ (grows_trans _ (g.B.Base.view c.open-call.new.base) _ c.open-call.ensures.seen.grows c.sweep_left.ensures.seen) c.give_up-in-Err.ensures.seen.grows

pub returns-in-Err-clause-kept : goal.returns-in-Err-clause-kept
returns-in-Err-clause-kept g c =
    let m = c.args.machine.now in
    let left = call_now m.terms c.open-call.result.call in
    subst (λ (ss : List (Saved g.row.B-Cursor.Denot)). AreKept (g.B.Base.serves c.give_up-in-Err.new.base) g.B.Base.group (g.B.Base.out c.give_up-in-Err.new.base) (calls_in ss)) (sym c.sweep_left.ensures.stack)
    (kept_without g.B.Base.group (g.B.Base.serves c.open-call.new.base) _ (calls m) (g.B.Base.serves c.give_up-in-Err.new.base) (g.B.Base.out c.give_up-in-Err.new.base) left
    (kept_more g.B.Base.group (g.B.Base.serves c.args.base.now) _ _ (g.B.Base.serves c.open-call.new.base) _ left c.requires.ready.kept c.open-call.ensures.others c.open-call.ensures.out c.open-call.ensures.serves)
    (λ e q s some. c.give_up-in-Err.ensures.others e q (c.sweep_left.ensures.others e q s) some)
    (sym c.sweep_left.ensures.out ∙ c.give_up-in-Err.ensures.out ∙ ap (λ (n : ℕ). opened n (g.B.Base.out c.give_up-in-Err.new.base)) c.sweep_left.ensures.group))

pub returns-in-Ok-clause-left : goal.returns-in-Ok-clause-left
returns-in-Ok-clause-left g c =
    let m = c.args.machine.now in
    let n = c.sweep_left.new.machine in
    let w = g.B.Base.view c.sweep_left.new.base in
    let z = g.B.Base.view c.give_up.new.base in
    let stack : calls n ≡ calls m = ap (λ (ss : List (Saved g.row.B-Cursor.Denot)). calls_in ss) c.sweep_left.ensures.stack in
    let few : length (calls n) ≤ length (calls m) + 1 = let same = ap length stack in omega (arith, same) in
    record {
      terms = c.in-Ok.ensures.terms;
      shown = ap (λ (s : Said g.row.B-Cursor.Denot). s.shown) c.in-Ok.ensures.said;
      held = subst (λ (s : ℕ). IsHeld c.args.host.now.budget z s n.front (length (calls n)) n.tally) (sym (ap (λ (x : Machine g.row.B-Cursor.Denot). x.steps) c.sweep_left.ensures.same))
          (held_looked c.args.host.now.budget (g.B.Base.view c.args.base.now) z m.steps m.front n.front (length (calls m)) (length (calls n)) m.tally c.open-call.new.tally n.tally c.open-call.result.how
          c.requires.ready.held c.requires.room c.open-call.ensures.counts c.sweep_left.ensures.tally few (fronted_on w z n.front c.give_up.ensures.seen c.in-Ok.ensures.front));
    }

pub returns-in-Ok-clause-goes : goal.returns-in-Ok-clause-goes
returns-in-Ok-clause-goes g c =
    let m = c.args.machine.now in
    let n = c.sweep_left.new.machine in
    let h = c.args.host.now in
    let v = g.B.Base.view c.args.base.now in
    let u = g.B.Base.view c.open-call.new.base in
    let w = g.B.Base.view c.sweep_left.new.base in
    let z = g.B.Base.view c.give_up.new.base in
    let call = c.open-call.result.call in
    let left = call_now m.terms call in
    let mid = record m { front = c.front-front.result; fronts = c.push_reserved.new.self; tally = c.open-call.new.tally } in
    let at : g.B.Base.looked_at call.cursor ≡ u.seen = c.open-call.ensures.at in
    let stack = ap (λ (ss : List (Saved g.row.B-Cursor.Denot)). calls_in ss) c.sweep_left.ensures.stack in
    let r = c.in-Ok.ensures.sweeps in
    record {
      made = r.made;
      own = c.give_up.ensures.seen.own ∙ r.own ∙ ap (λ (l : List Entry). l ++ r.made) c.open-call.ensures.seen.own;
      so = λ j b with sweeps.
          let late = begins_before w z j c.give_up.ensures.seen.grows b in
          let mid_b = begins_before u w j c.sweep_left.ensures.seen late in
          let old_b = begins_before v u j c.open-call.ensures.seen.grows mid_b in
          let low : m.front ≤ g.B.Base.looked_at call.cursor = omega (arith, at, c.requires.ready.held.reached, c.open-call.ensures.seen.grows.front) in
          let above : v.seen ≤ g.B.Base.looked_at call.cursor = omega (arith, at, c.open-call.ensures.seen.grows.front) in
          let far = long u j c.open-call.ensures.seen.grows.sound mid_b in
          let high : g.B.Base.looked_at call.cursor ≤ length j = omega (arith, at, far) in
          subst (λ (cs : List ℕ). GoesOn g.B.Base.rest g.B.Base.may_visit g.B.Base.looked_at g.B.Base.ahead cs r.made (λ s. taking (setting h m j) s (with s.front)) j m n) (sym (c.give_up.ensures.seen.grows.causes ∙ c.sweep_left.ensures.seen.causes))
          (swept_whole g.B.Base.rest g.B.Base.may_visit g.B.Base.looked_at g.B.Base.ahead u.causes r.made (setting h m j) (option_map (built m.terms) c.args.goal) m mid n left
          (call_now m.terms c.sweep_left.new.call) c.open-call.result.how v.seen c.args.procedure with
          (c.front-front.ensures.front ∙ sym at) low above high sweeps c.open-call.ensures.procedure
          (ap (λ (x : Cell). keys (built m.terms x)) c.open-call.ensures.goal ∙ c.requires.keys) refl refl refl refl
          (c.push_reserved.ensures.items ∙ ap (λ l. l ++ c.front-front.result ∷ []) c.in_ok-reserve.ensures.items)
          (c.open-call.ensures.opened m.front c.requires.ready.held.reached j mid_b) c.open-call.ensures.counts c.open-call.ensures.ahead
          (r.so j late) c.sweep_left.ensures.tally stack (c.requires.ready.each j old_b));
    }
