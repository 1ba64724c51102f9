use Rattle.std.proofs.Common.{◌≡◌, ◌+◌, ◌≤◌, take, subst, arith}
use Rattle.call_patterns.specs.Calls.{goal_keys}
use Rattle.journal_base.specs.Goals.{Goal}
use Rattle.journal_base.specs.View.{View, Gives}
use Rattle.wam_machine.specs.Terms.{call_now}
use Rattle.wam_machine.specs.Cursors.{names_left, visits_left}
use Rattle.wam_machine.proofs.Begins.{seen_in}
use Rattle.wam_machine.proofs.Parts.{names_seen, visits_seen}
use Rattle.wam_machine.proofs.cursor.next.Goals as goal

pub returns-clause-gives : goal.returns-clause-gives
returns-clause-gives g c j b =
    let new : View = g.B.Base.view c.next.new.self in
    let rest = g.B.Base.rest in
    let at = g.B.Base.looked_at in
    let old_choice = call_now c.args.terms.now c.args.call.now in
    let ks = goal_keys c.args.terms.now.names c.args.keys.now.at in
    let call : Goal = record { procedure = old_choice.procedure; keys = ks } in
    let low : at old_choice.cursor ≤ new.seen = omega (arith, g.met.B.Base.looked_seen _ _ _ c.requires.serves, c.next.ensures.seen.grows.front) in
    let low_new : at c.next.new.cursor ≤ new.seen = omega (arith, low, c.next.ensures.at) in
    subst (λ l. Gives c.next.result l (names_left rest at j (record old_choice { cursor = c.next.new.cursor })))
    (names_seen rest at g.met.B.Base.rest_local j new.seen old_choice ks low c.requires.of)
    (subst (λ l. Gives c.next.result (rest old_choice.cursor call (take new.seen j)) l)
    (names_seen rest at g.met.B.Base.rest_local j new.seen (record old_choice { cursor = c.next.new.cursor }) ks low_new c.requires.of)
    (seen_in new (λ J. Gives c.next.result (rest old_choice.cursor call J) (rest c.next.new.cursor call J)) j c.next.ensures.gives b))

pub returns-clause-visits : goal.returns-clause-visits
returns-clause-visits g c j b =
    let new : View = g.B.Base.view c.next.new.self in
    let may = g.B.Base.may_visit in
    let at = g.B.Base.looked_at in
    let old_choice = call_now c.args.terms.now c.args.call.now in
    let ks = goal_keys c.args.terms.now.names c.args.keys.now.at in
    let call : Goal = record { procedure = old_choice.procedure; keys = ks } in
    let low : at old_choice.cursor ≤ new.seen = omega (arith, g.met.B.Base.looked_seen _ _ _ c.requires.serves, c.next.ensures.seen.grows.front) in
    let low_new : at c.next.new.cursor ≤ new.seen = omega (arith, low, c.next.ensures.at) in
    let before : may old_choice.cursor call (take new.seen j) ≡ visits_left may at j old_choice =
    visits_seen may at g.met.B.Base.visits_local j new.seen old_choice ks low c.requires.of in
    let after : may c.next.new.cursor call (take new.seen j) ≡ visits_left may at j (record old_choice { cursor = c.next.new.cursor }) =
    visits_seen may at g.met.B.Base.visits_local j new.seen (record old_choice { cursor = c.next.new.cursor }) ks low_new c.requires.of in
    let known : c.next.new.tally.visits + may c.next.new.cursor call (take new.seen j) ≤ c.args.tally.now.visits + may old_choice.cursor call (take new.seen j) =
    seen_in new (λ J. c.next.new.tally.visits + may c.next.new.cursor call J ≤ c.args.tally.now.visits + may old_choice.cursor call J) j c.next.ensures.visits b in
    omega (arith, before, after, known)
