use Rattle.std.proofs.Common.{◌≡◌, ◌+◌, ◌≤◌, take, sym, ap, ◌∙◌, subst, arith}
use Rattle.call_patterns.specs.Keys.{keys}
use Rattle.call_patterns.specs.Calls.{goal_keys}
use Rattle.journal_base.specs.Goals.{Goal}
use Rattle.call_patterns.specs.Candidates.{candidates}
use Rattle.journal_base.specs.Looks.{IsFair, allowance, most_raised}
use Rattle.journal_base.specs.View.{View}
use Rattle.wam_machine.specs.Cursors.{goal_of, part, names_left, visits_left, IsOpenTo}
use Rattle.wam_machine.specs.Terms.{Left, call_now}
use Rattle.wam_machine.proofs.Begins.{seen_in, begins_before}
use Rattle.wam_machine.proofs.Chains.{fair_before}
use Rattle.wam_machine.proofs.Parts.{names_seen, visits_seen, clauses_offered, named_offered}
use Rattle.wam_machine.proofs.Usable.{open_later}
use Rattle.wam_machine.proofs.cursor.open.Goals as goal

pub returns-clause-opened : goal.returns-clause-opened
returns-clause-opened g c before le j b =
    let new : View = g.B.Base.view c.look-cursor.new.self in
    let rest = g.B.Base.rest in
    let may = g.B.Base.may_visit in
    let at = g.B.Base.looked_at in
    let how = c.look-cursor.result.how in
    let choice : Left _ = call_now c.args.terms.now (record { used = c.args.used; goal = c.args.goal; procedure = c.args.procedure; cursor = c.look-cursor.result.cursor }) in
    let ks = goal_keys c.args.terms.now.names c.args.keys.now.at in
    let call : Goal = record { procedure = c.args.procedure; keys = ks } in
    let here : at choice.cursor ≡ new.seen = c.look-cursor.ensures.at in
    let low : at choice.cursor ≤ new.seen = omega (arith, here) in
    let whole : take new.seen j ≡ part at j choice = ap (λ n. take n j) (sym here) in
    let same : ◌≡◌ {A = Goal} call (goal_of choice) = ap {B = Goal} (λ k. record { procedure = c.args.procedure; keys = k }) c.requires.of in
    let offered : names_left rest at j choice ≡ candidates (part at j choice) c.args.procedure (keys choice.goal) =
    sym (names_seen rest at g.met.B.Base.rest_local j new.seen choice ks low c.requires.of)
    ∙ seen_in new (λ J. rest choice.cursor call J ≡ candidates J c.args.procedure ks) j c.look-cursor.ensures.clauses b
    ∙ ap (λ J. candidates J c.args.procedure ks) whole ∙ ap (candidates (part at j choice) c.args.procedure) c.requires.of in
    let left : may choice.cursor call (take new.seen j) ≡ visits_left may at j choice =
    visits_seen may at g.met.B.Base.visits_local j new.seen choice ks low c.requires.of in
    let allowed : allowance (take new.seen j) call how ≡ allowance (part at j choice) (goal_of choice) how =
    ap (λ J. allowance J call how) whole ∙ ap (λ k. allowance (part at j choice) k how) same in
    let most : c.look-cursor.new.tally.visits + may choice.cursor call (take new.seen j) ≤ c.args.tally.now.visits + allowance (take new.seen j) call how =
    seen_in new (λ J. c.look-cursor.new.tally.visits + may choice.cursor call J ≤ c.args.tally.now.visits + allowance J call how) j c.look-cursor.ensures.visits b in
    let raised : c.look-cursor.new.tally.visits + may choice.cursor call (take new.seen j) ≤ c.args.tally.now.visits + most_raised =
    seen_in new (λ J. c.look-cursor.new.tally.visits + may choice.cursor call J ≤ c.args.tally.now.visits + most_raised) j c.look-cursor.ensures.raised b in
    let old : View = g.B.Base.view c.args.base.now in
    let may_be : IsOpenTo choice.used (part at j choice) c.args.procedure =
    subst (λ n. IsOpenTo choice.used (take n j) c.args.procedure) (sym here)
    (open_later choice.used j old.seen new.seen c.args.procedure c.look-cursor.ensures.seen.grows.front (c.requires.may j (begins_before old new j c.look-cursor.ensures.seen.grows b))) in
    record {
      clauses = clauses_offered rest at j choice offered;
      named = named_offered rest at j choice may_be offered;
      fair = record {
        fair = subst (λ k. IsFair before k how (part at j choice)) same
            (subst (λ J. IsFair before call how J) whole
            (fair_before (take new.seen j) before _ call how le (seen_in new (IsFair (g.B.Base.view c.args.base.now).seen call how) j c.look-cursor.ensures.fair b)));
        told = c.look-cursor.ensures.causes;
      };
      most = omega (arith, left, allowed, most);
      raised = omega (arith, left, raised);
    }
