use Rattle.std.proofs.Common.{◌≡◌, ◌<◌, ℕ, sym, ap, subst, arith, Some, None}
use Rattle.journal_base.specs.View.{Out}
use Rattle.journal_base.specs.declared.tally.Tally.{Tally}
use Rattle.wam_machine.proofs.Begins.{host_on}
use Rattle.wam_machine.proofs.SweptKinds.{swept_kept}
use Rattle.wam_machine.proofs.SweptLeft.{sweeping_start, sweeping_serves, sweeping_keys, sweeping_of, sweeping_room, sweeping_next, next_front, sweeping_end, name_there, name_changes, sweeping_on, one_terms, sweeping_step, sweeping_stop, fewer}
use Rattle.wam_machine.proofs.sweeping.sweep_left.Goals as goal

pub loop-name-init : goal.loop-name-init
loop-name-init g c =
    record { becomes = g.met.B.Base.becomes_itself _; sweeps = sweeping_start (g.B.Base.view c.args.base.now) (g.B.Base.serves c.args.base.now) g.B.Base.group (g.B.Base.out c.args.base.now) g.B.Base.rest g.B.Base.may_visit g.B.Base.looked_at g.B.Base.ahead c.args.host.now c.args.goal c.args.machine.now c.args.call.now c.requires.sound c.requires.terms c.requires.front c.requires.serves c.requires.named }

pub next-requires-clause-serves : goal.next-requires-clause-serves
next-requires-clause-serves g c =
    sweeping_serves (g.B.Base.view c.args.base.now) (g.B.Base.serves c.args.base.now) g.B.Base.group (g.B.Base.out c.args.base.now) g.B.Base.rest g.B.Base.may_visit g.B.Base.looked_at g.B.Base.ahead c.args.host.now c.args.goal c.args.machine.now c.args.call.now
    (g.B.Base.view c.loop-name.base) (g.B.Base.serves c.loop-name.base) (g.B.Base.out c.loop-name.base) c.loop-name.machine c.loop-name.call c.loop-name.invariant.sweeps c.requires.cell

pub next-requires-clause-out : goal.next-requires-clause-out
next-requires-clause-out g c =
    let i = c.loop-name.invariant.sweeps.whole in
    subst (λ (o : Out). 0 < o.of_group (g.B.Base.group c.loop-name.call.cursor)) (sym i.out_is) (subst (λ (e : ℕ). 0 < (g.B.Base.out c.args.base.now).of_group e) (sym i.group_is) c.requires.out)

pub next-requires-clause-keys : goal.next-requires-clause-keys
next-requires-clause-keys g c =
    sweeping_keys (g.B.Base.view c.args.base.now) (g.B.Base.serves c.args.base.now) g.B.Base.group (g.B.Base.out c.args.base.now) g.B.Base.rest g.B.Base.may_visit g.B.Base.looked_at g.B.Base.ahead c.args.host.now c.args.goal c.args.machine.now c.args.call.now
    (g.B.Base.view c.loop-name.base) (g.B.Base.serves c.loop-name.base) (g.B.Base.out c.loop-name.base) c.loop-name.machine c.loop-name.call c.loop-name.invariant.sweeps c.requires.cell c.args.keys.now.at c.requires.keys

pub next-requires-clause-of : goal.next-requires-clause-of
next-requires-clause-of g c =
    sweeping_of (g.B.Base.view c.args.base.now) (g.B.Base.serves c.args.base.now) g.B.Base.group (g.B.Base.out c.args.base.now) g.B.Base.rest g.B.Base.may_visit g.B.Base.looked_at g.B.Base.ahead c.args.host.now c.args.goal c.args.machine.now c.args.call.now
    (g.B.Base.view c.loop-name.base) (g.B.Base.serves c.loop-name.base) (g.B.Base.out c.loop-name.base) c.loop-name.machine c.loop-name.call c.loop-name.invariant.sweeps c.requires.cell c.args.keys.now.at c.requires.keys c.requires.of

pub next-requires-clause-tally : goal.next-requires-clause-tally
next-requires-clause-tally g c =
    sweeping_room (g.B.Base.view c.args.base.now) (g.B.Base.serves c.args.base.now) g.B.Base.group (g.B.Base.out c.args.base.now) g.B.Base.rest g.B.Base.may_visit g.B.Base.looked_at g.B.Base.ahead c.args.host.now c.args.goal c.args.machine.now c.args.call.now
    (g.B.Base.view c.loop-name.base) (g.B.Base.serves c.loop-name.base) (g.B.Base.out c.loop-name.base) c.loop-name.machine c.loop-name.call c.loop-name.invariant.sweeps c.requires.cell c.requires.room c.requires.visits

pub sweep_one-requires-clause-host : goal.sweep_one-requires-clause-host
sweep_one-requires-clause-host g c =
    host_on c.args.host.now (g.B.Base.view c.args.base.now) (g.B.Base.view c.next.new.base) (sweeping_next (g.B.Base.view c.args.base.now) (g.B.Base.serves c.args.base.now) g.B.Base.group (g.B.Base.out c.args.base.now) g.B.Base.rest g.B.Base.may_visit g.B.Base.looked_at g.B.Base.ahead c.args.host.now c.args.goal c.args.machine.now c.args.call.now
    (g.B.Base.view c.loop-name.base) (g.B.Base.serves c.loop-name.base) (g.B.Base.out c.loop-name.base) c.loop-name.machine c.loop-name.call c.loop-name.invariant.sweeps c.requires.cell
    (g.B.Base.view c.next.new.base) (g.B.Base.serves c.next.new.base) (g.B.Base.out c.next.new.base) c.next.new.call c.next.new.tally (Some c.in-Some.name)
    (record { seen = c.next.ensures.seen; others = c.next.ensures.others; out_is = c.next.ensures.out; used = c.next.ensures.used; goal_is = c.next.ensures.goal; at_is = c.next.ensures.at; group_is = c.next.ensures.group; serve = c.next.ensures.serves; gives = c.in-Some.ensures.gives; visits = c.next.ensures.visits; counts = c.next.ensures.counts; ahead_is = c.in-Some.ensures.ahead })).seen c.requires.host

pub sweep_one-requires-clause-sound : goal.sweep_one-requires-clause-sound
sweep_one-requires-clause-sound g c =
    c.next.ensures.seen.grows.sound

pub sweep_one-requires-clause-front : goal.sweep_one-requires-clause-front
sweep_one-requires-clause-front g c =
    next_front (g.B.Base.view c.args.base.now) (g.B.Base.serves c.args.base.now) g.B.Base.group (g.B.Base.out c.args.base.now) g.B.Base.rest g.B.Base.may_visit g.B.Base.looked_at g.B.Base.ahead c.args.host.now c.args.goal c.args.machine.now c.args.call.now
    (g.B.Base.view c.loop-name.base) (g.B.Base.serves c.loop-name.base) (g.B.Base.out c.loop-name.base) c.loop-name.machine c.loop-name.call c.loop-name.invariant.sweeps c.requires.cell
    (g.B.Base.view c.next.new.base) (g.B.Base.serves c.next.new.base) (g.B.Base.out c.next.new.base) c.next.new.call c.next.new.tally (Some c.in-Some.name)
    (record { seen = c.next.ensures.seen; others = c.next.ensures.others; out_is = c.next.ensures.out; used = c.next.ensures.used; goal_is = c.next.ensures.goal; at_is = c.next.ensures.at; group_is = c.next.ensures.group; serve = c.next.ensures.serves; gives = c.in-Some.ensures.gives; visits = c.next.ensures.visits; counts = c.next.ensures.counts; ahead_is = c.in-Some.ensures.ahead })

pub sweep_one-requires-clause-terms : goal.sweep_one-requires-clause-terms
sweep_one-requires-clause-terms g c =
    c.loop-name.invariant.sweeps.terms.terms

pub sweep_one-requires-clause-goal : goal.sweep_one-requires-clause-goal
sweep_one-requires-clause-goal g c =
    swept_kept c.args.machine.now.terms c.loop-name.machine.terms c.args.goal c.loop-name.invariant.sweeps.terms.cells c.requires.goal

pub sweep_one-requires-clause-serves : goal.sweep_one-requires-clause-serves
sweep_one-requires-clause-serves g c =
    (sweeping_next (g.B.Base.view c.args.base.now) (g.B.Base.serves c.args.base.now) g.B.Base.group (g.B.Base.out c.args.base.now) g.B.Base.rest g.B.Base.may_visit g.B.Base.looked_at g.B.Base.ahead c.args.host.now c.args.goal c.args.machine.now c.args.call.now
    (g.B.Base.view c.loop-name.base) (g.B.Base.serves c.loop-name.base) (g.B.Base.out c.loop-name.base) c.loop-name.machine c.loop-name.call c.loop-name.invariant.sweeps c.requires.cell
    (g.B.Base.view c.next.new.base) (g.B.Base.serves c.next.new.base) (g.B.Base.out c.next.new.base) c.next.new.call c.next.new.tally (Some c.in-Some.name)
    (record { seen = c.next.ensures.seen; others = c.next.ensures.others; out_is = c.next.ensures.out; used = c.next.ensures.used; goal_is = c.next.ensures.goal; at_is = c.next.ensures.at; group_is = c.next.ensures.group; serve = c.next.ensures.serves; gives = c.in-Some.ensures.gives; visits = c.next.ensures.visits; counts = c.next.ensures.counts; ahead_is = c.in-Some.ensures.ahead })).serve

pub sweep_one-requires-clause-named : goal.sweep_one-requires-clause-named
sweep_one-requires-clause-named g c =
    name_there (g.B.Base.view c.args.base.now) (g.B.Base.serves c.args.base.now) g.B.Base.group (g.B.Base.out c.args.base.now) g.B.Base.rest g.B.Base.may_visit g.B.Base.looked_at g.B.Base.ahead c.args.host.now c.args.goal c.args.machine.now c.args.call.now
    (g.B.Base.view c.loop-name.base) (g.B.Base.serves c.loop-name.base) (g.B.Base.out c.loop-name.base) c.loop-name.machine c.loop-name.call c.loop-name.invariant.sweeps c.requires.cell
    (g.B.Base.view c.next.new.base) (g.B.Base.serves c.next.new.base) (g.B.Base.out c.next.new.base) c.next.new.call c.next.new.tally c.in-Some.name
    (record { seen = c.next.ensures.seen; others = c.next.ensures.others; out_is = c.next.ensures.out; used = c.next.ensures.used; goal_is = c.next.ensures.goal; at_is = c.next.ensures.at; group_is = c.next.ensures.group; serve = c.next.ensures.serves; gives = c.in-Some.ensures.gives; visits = c.next.ensures.visits; counts = c.next.ensures.counts; ahead_is = c.in-Some.ensures.ahead })

pub sweep_one-requires-clause-changeable : goal.sweep_one-requires-clause-changeable
sweep_one-requires-clause-changeable g c =
    name_changes (g.B.Base.view c.args.base.now) (g.B.Base.serves c.args.base.now) g.B.Base.group (g.B.Base.out c.args.base.now) g.B.Base.rest g.B.Base.may_visit g.B.Base.looked_at g.B.Base.ahead c.args.host.now c.args.goal c.args.machine.now c.args.call.now
    (g.B.Base.view c.loop-name.base) (g.B.Base.serves c.loop-name.base) (g.B.Base.out c.loop-name.base) c.loop-name.machine c.loop-name.call c.loop-name.invariant.sweeps c.requires.cell
    (g.B.Base.view c.next.new.base) (g.B.Base.serves c.next.new.base) (g.B.Base.out c.next.new.base) c.next.new.call c.next.new.tally c.in-Some.name
    (record { seen = c.next.ensures.seen; others = c.next.ensures.others; out_is = c.next.ensures.out; used = c.next.ensures.used; goal_is = c.next.ensures.goal; at_is = c.next.ensures.at; group_is = c.next.ensures.group; serve = c.next.ensures.serves; gives = c.in-Some.ensures.gives; visits = c.next.ensures.visits; counts = c.next.ensures.counts; ahead_is = c.in-Some.ensures.ahead }) c.requires.erases.0 c.requires.erases.1

pub returns-in_err-on-clause-becomes : goal.returns-in_err-on-clause-becomes
returns-in_err-on-clause-becomes g c =
    g.met.B.Base.becomes_further _ _ _ (g.met.B.Base.becomes_further _ _ _ c.loop-name.invariant.becomes c.next.ensures.becomes) c.sweep_one.ensures.becomes

pub returns-in_err-on-clause-seen : goal.returns-in_err-on-clause-seen
returns-in_err-on-clause-seen g c =
    (sweeping_on (g.B.Base.view c.args.base.now) (g.B.Base.serves c.args.base.now) g.B.Base.group (g.B.Base.out c.args.base.now) g.B.Base.rest g.B.Base.may_visit g.B.Base.looked_at g.B.Base.ahead c.args.host.now c.args.goal c.args.machine.now c.args.call.now
    (g.B.Base.view c.loop-name.base) (g.B.Base.serves c.loop-name.base) (g.B.Base.out c.loop-name.base) c.loop-name.machine c.loop-name.call c.loop-name.invariant.sweeps c.requires.cell
    (g.B.Base.view c.next.new.base) (g.B.Base.serves c.next.new.base) (g.B.Base.out c.next.new.base) c.next.new.call c.next.new.tally c.in-Some.name
    (record { seen = c.next.ensures.seen; others = c.next.ensures.others; out_is = c.next.ensures.out; used = c.next.ensures.used; goal_is = c.next.ensures.goal; at_is = c.next.ensures.at; group_is = c.next.ensures.group; serve = c.next.ensures.serves; gives = c.in-Some.ensures.gives; visits = c.next.ensures.visits; counts = c.next.ensures.counts; ahead_is = c.in-Some.ensures.ahead })
    (g.B.Base.view c.sweep_one.new.base) (g.B.Base.serves c.sweep_one.new.base) (g.B.Base.out c.sweep_one.new.base) c.sweep_one.new.machine
    c.sweep_one.ensures.seen c.sweep_one.ensures.others c.sweep_one.ensures.out c.sweep_one.ensures.same c.sweep_one.ensures.stack c.sweep_one.ensures.tally).seen

pub returns-in_err-on-clause-others : goal.returns-in_err-on-clause-others
returns-in_err-on-clause-others g c =
    (sweeping_on (g.B.Base.view c.args.base.now) (g.B.Base.serves c.args.base.now) g.B.Base.group (g.B.Base.out c.args.base.now) g.B.Base.rest g.B.Base.may_visit g.B.Base.looked_at g.B.Base.ahead c.args.host.now c.args.goal c.args.machine.now c.args.call.now
    (g.B.Base.view c.loop-name.base) (g.B.Base.serves c.loop-name.base) (g.B.Base.out c.loop-name.base) c.loop-name.machine c.loop-name.call c.loop-name.invariant.sweeps c.requires.cell
    (g.B.Base.view c.next.new.base) (g.B.Base.serves c.next.new.base) (g.B.Base.out c.next.new.base) c.next.new.call c.next.new.tally c.in-Some.name
    (record { seen = c.next.ensures.seen; others = c.next.ensures.others; out_is = c.next.ensures.out; used = c.next.ensures.used; goal_is = c.next.ensures.goal; at_is = c.next.ensures.at; group_is = c.next.ensures.group; serve = c.next.ensures.serves; gives = c.in-Some.ensures.gives; visits = c.next.ensures.visits; counts = c.next.ensures.counts; ahead_is = c.in-Some.ensures.ahead })
    (g.B.Base.view c.sweep_one.new.base) (g.B.Base.serves c.sweep_one.new.base) (g.B.Base.out c.sweep_one.new.base) c.sweep_one.new.machine
    c.sweep_one.ensures.seen c.sweep_one.ensures.others c.sweep_one.ensures.out c.sweep_one.ensures.same c.sweep_one.ensures.stack c.sweep_one.ensures.tally).others

pub returns-in_err-on-clause-out : goal.returns-in_err-on-clause-out
returns-in_err-on-clause-out g c =
    (sweeping_on (g.B.Base.view c.args.base.now) (g.B.Base.serves c.args.base.now) g.B.Base.group (g.B.Base.out c.args.base.now) g.B.Base.rest g.B.Base.may_visit g.B.Base.looked_at g.B.Base.ahead c.args.host.now c.args.goal c.args.machine.now c.args.call.now
    (g.B.Base.view c.loop-name.base) (g.B.Base.serves c.loop-name.base) (g.B.Base.out c.loop-name.base) c.loop-name.machine c.loop-name.call c.loop-name.invariant.sweeps c.requires.cell
    (g.B.Base.view c.next.new.base) (g.B.Base.serves c.next.new.base) (g.B.Base.out c.next.new.base) c.next.new.call c.next.new.tally c.in-Some.name
    (record { seen = c.next.ensures.seen; others = c.next.ensures.others; out_is = c.next.ensures.out; used = c.next.ensures.used; goal_is = c.next.ensures.goal; at_is = c.next.ensures.at; group_is = c.next.ensures.group; serve = c.next.ensures.serves; gives = c.in-Some.ensures.gives; visits = c.next.ensures.visits; counts = c.next.ensures.counts; ahead_is = c.in-Some.ensures.ahead })
    (g.B.Base.view c.sweep_one.new.base) (g.B.Base.serves c.sweep_one.new.base) (g.B.Base.out c.sweep_one.new.base) c.sweep_one.new.machine
    c.sweep_one.ensures.seen c.sweep_one.ensures.others c.sweep_one.ensures.out c.sweep_one.ensures.same c.sweep_one.ensures.stack c.sweep_one.ensures.tally).out_is

pub returns-in_err-on-clause-group : goal.returns-in_err-on-clause-group
returns-in_err-on-clause-group g c =
    (sweeping_on (g.B.Base.view c.args.base.now) (g.B.Base.serves c.args.base.now) g.B.Base.group (g.B.Base.out c.args.base.now) g.B.Base.rest g.B.Base.may_visit g.B.Base.looked_at g.B.Base.ahead c.args.host.now c.args.goal c.args.machine.now c.args.call.now
    (g.B.Base.view c.loop-name.base) (g.B.Base.serves c.loop-name.base) (g.B.Base.out c.loop-name.base) c.loop-name.machine c.loop-name.call c.loop-name.invariant.sweeps c.requires.cell
    (g.B.Base.view c.next.new.base) (g.B.Base.serves c.next.new.base) (g.B.Base.out c.next.new.base) c.next.new.call c.next.new.tally c.in-Some.name
    (record { seen = c.next.ensures.seen; others = c.next.ensures.others; out_is = c.next.ensures.out; used = c.next.ensures.used; goal_is = c.next.ensures.goal; at_is = c.next.ensures.at; group_is = c.next.ensures.group; serve = c.next.ensures.serves; gives = c.in-Some.ensures.gives; visits = c.next.ensures.visits; counts = c.next.ensures.counts; ahead_is = c.in-Some.ensures.ahead })
    (g.B.Base.view c.sweep_one.new.base) (g.B.Base.serves c.sweep_one.new.base) (g.B.Base.out c.sweep_one.new.base) c.sweep_one.new.machine
    c.sweep_one.ensures.seen c.sweep_one.ensures.others c.sweep_one.ensures.out c.sweep_one.ensures.same c.sweep_one.ensures.stack c.sweep_one.ensures.tally).group_is

pub returns-in_err-on-clause-serves : goal.returns-in_err-on-clause-serves
returns-in_err-on-clause-serves g c =
    (sweeping_on (g.B.Base.view c.args.base.now) (g.B.Base.serves c.args.base.now) g.B.Base.group (g.B.Base.out c.args.base.now) g.B.Base.rest g.B.Base.may_visit g.B.Base.looked_at g.B.Base.ahead c.args.host.now c.args.goal c.args.machine.now c.args.call.now
    (g.B.Base.view c.loop-name.base) (g.B.Base.serves c.loop-name.base) (g.B.Base.out c.loop-name.base) c.loop-name.machine c.loop-name.call c.loop-name.invariant.sweeps c.requires.cell
    (g.B.Base.view c.next.new.base) (g.B.Base.serves c.next.new.base) (g.B.Base.out c.next.new.base) c.next.new.call c.next.new.tally c.in-Some.name
    (record { seen = c.next.ensures.seen; others = c.next.ensures.others; out_is = c.next.ensures.out; used = c.next.ensures.used; goal_is = c.next.ensures.goal; at_is = c.next.ensures.at; group_is = c.next.ensures.group; serve = c.next.ensures.serves; gives = c.in-Some.ensures.gives; visits = c.next.ensures.visits; counts = c.next.ensures.counts; ahead_is = c.in-Some.ensures.ahead })
    (g.B.Base.view c.sweep_one.new.base) (g.B.Base.serves c.sweep_one.new.base) (g.B.Base.out c.sweep_one.new.base) c.sweep_one.new.machine
    c.sweep_one.ensures.seen c.sweep_one.ensures.others c.sweep_one.ensures.out c.sweep_one.ensures.same c.sweep_one.ensures.stack c.sweep_one.ensures.tally).serve

pub returns-in_err-on-clause-same : goal.returns-in_err-on-clause-same
returns-in_err-on-clause-same g c =
    (sweeping_on (g.B.Base.view c.args.base.now) (g.B.Base.serves c.args.base.now) g.B.Base.group (g.B.Base.out c.args.base.now) g.B.Base.rest g.B.Base.may_visit g.B.Base.looked_at g.B.Base.ahead c.args.host.now c.args.goal c.args.machine.now c.args.call.now
    (g.B.Base.view c.loop-name.base) (g.B.Base.serves c.loop-name.base) (g.B.Base.out c.loop-name.base) c.loop-name.machine c.loop-name.call c.loop-name.invariant.sweeps c.requires.cell
    (g.B.Base.view c.next.new.base) (g.B.Base.serves c.next.new.base) (g.B.Base.out c.next.new.base) c.next.new.call c.next.new.tally c.in-Some.name
    (record { seen = c.next.ensures.seen; others = c.next.ensures.others; out_is = c.next.ensures.out; used = c.next.ensures.used; goal_is = c.next.ensures.goal; at_is = c.next.ensures.at; group_is = c.next.ensures.group; serve = c.next.ensures.serves; gives = c.in-Some.ensures.gives; visits = c.next.ensures.visits; counts = c.next.ensures.counts; ahead_is = c.in-Some.ensures.ahead })
    (g.B.Base.view c.sweep_one.new.base) (g.B.Base.serves c.sweep_one.new.base) (g.B.Base.out c.sweep_one.new.base) c.sweep_one.new.machine
    c.sweep_one.ensures.seen c.sweep_one.ensures.others c.sweep_one.ensures.out c.sweep_one.ensures.same c.sweep_one.ensures.stack c.sweep_one.ensures.tally).same

pub returns-in_err-on-clause-stack : goal.returns-in_err-on-clause-stack
returns-in_err-on-clause-stack g c =
    (sweeping_on (g.B.Base.view c.args.base.now) (g.B.Base.serves c.args.base.now) g.B.Base.group (g.B.Base.out c.args.base.now) g.B.Base.rest g.B.Base.may_visit g.B.Base.looked_at g.B.Base.ahead c.args.host.now c.args.goal c.args.machine.now c.args.call.now
    (g.B.Base.view c.loop-name.base) (g.B.Base.serves c.loop-name.base) (g.B.Base.out c.loop-name.base) c.loop-name.machine c.loop-name.call c.loop-name.invariant.sweeps c.requires.cell
    (g.B.Base.view c.next.new.base) (g.B.Base.serves c.next.new.base) (g.B.Base.out c.next.new.base) c.next.new.call c.next.new.tally c.in-Some.name
    (record { seen = c.next.ensures.seen; others = c.next.ensures.others; out_is = c.next.ensures.out; used = c.next.ensures.used; goal_is = c.next.ensures.goal; at_is = c.next.ensures.at; group_is = c.next.ensures.group; serve = c.next.ensures.serves; gives = c.in-Some.ensures.gives; visits = c.next.ensures.visits; counts = c.next.ensures.counts; ahead_is = c.in-Some.ensures.ahead })
    (g.B.Base.view c.sweep_one.new.base) (g.B.Base.serves c.sweep_one.new.base) (g.B.Base.out c.sweep_one.new.base) c.sweep_one.new.machine
    c.sweep_one.ensures.seen c.sweep_one.ensures.others c.sweep_one.ensures.out c.sweep_one.ensures.same c.sweep_one.ensures.stack c.sweep_one.ensures.tally).stack

pub returns-in_err-on-clause-tally : goal.returns-in_err-on-clause-tally
returns-in_err-on-clause-tally g c =
    (sweeping_on (g.B.Base.view c.args.base.now) (g.B.Base.serves c.args.base.now) g.B.Base.group (g.B.Base.out c.args.base.now) g.B.Base.rest g.B.Base.may_visit g.B.Base.looked_at g.B.Base.ahead c.args.host.now c.args.goal c.args.machine.now c.args.call.now
    (g.B.Base.view c.loop-name.base) (g.B.Base.serves c.loop-name.base) (g.B.Base.out c.loop-name.base) c.loop-name.machine c.loop-name.call c.loop-name.invariant.sweeps c.requires.cell
    (g.B.Base.view c.next.new.base) (g.B.Base.serves c.next.new.base) (g.B.Base.out c.next.new.base) c.next.new.call c.next.new.tally c.in-Some.name
    (record { seen = c.next.ensures.seen; others = c.next.ensures.others; out_is = c.next.ensures.out; used = c.next.ensures.used; goal_is = c.next.ensures.goal; at_is = c.next.ensures.at; group_is = c.next.ensures.group; serve = c.next.ensures.serves; gives = c.in-Some.ensures.gives; visits = c.next.ensures.visits; counts = c.next.ensures.counts; ahead_is = c.in-Some.ensures.ahead })
    (g.B.Base.view c.sweep_one.new.base) (g.B.Base.serves c.sweep_one.new.base) (g.B.Base.out c.sweep_one.new.base) c.sweep_one.new.machine
    c.sweep_one.ensures.seen c.sweep_one.ensures.others c.sweep_one.ensures.out c.sweep_one.ensures.same c.sweep_one.ensures.stack c.sweep_one.ensures.tally).tally

pub returns-then-not-on-clause-becomes : goal.returns-then-not-on-clause-becomes
returns-then-not-on-clause-becomes g c =
    g.met.B.Base.becomes_further _ _ _ (g.met.B.Base.becomes_further _ _ _ c.loop-name.invariant.becomes c.next.ensures.becomes) c.sweep_one.ensures.becomes

pub returns-then-not-on-clause-seen : goal.returns-then-not-on-clause-seen
returns-then-not-on-clause-seen g c =
    (sweeping_on (g.B.Base.view c.args.base.now) (g.B.Base.serves c.args.base.now) g.B.Base.group (g.B.Base.out c.args.base.now) g.B.Base.rest g.B.Base.may_visit g.B.Base.looked_at g.B.Base.ahead c.args.host.now c.args.goal c.args.machine.now c.args.call.now
    (g.B.Base.view c.loop-name.base) (g.B.Base.serves c.loop-name.base) (g.B.Base.out c.loop-name.base) c.loop-name.machine c.loop-name.call c.loop-name.invariant.sweeps c.requires.cell
    (g.B.Base.view c.next.new.base) (g.B.Base.serves c.next.new.base) (g.B.Base.out c.next.new.base) c.next.new.call c.next.new.tally c.in-Some.name
    (record { seen = c.next.ensures.seen; others = c.next.ensures.others; out_is = c.next.ensures.out; used = c.next.ensures.used; goal_is = c.next.ensures.goal; at_is = c.next.ensures.at; group_is = c.next.ensures.group; serve = c.next.ensures.serves; gives = c.in-Some.ensures.gives; visits = c.next.ensures.visits; counts = c.next.ensures.counts; ahead_is = c.in-Some.ensures.ahead })
    (g.B.Base.view c.sweep_one.new.base) (g.B.Base.serves c.sweep_one.new.base) (g.B.Base.out c.sweep_one.new.base) c.sweep_one.new.machine
    c.sweep_one.ensures.seen c.sweep_one.ensures.others c.sweep_one.ensures.out c.sweep_one.ensures.same c.sweep_one.ensures.stack c.sweep_one.ensures.tally).seen

pub returns-then-not-on-clause-others : goal.returns-then-not-on-clause-others
returns-then-not-on-clause-others g c =
    (sweeping_on (g.B.Base.view c.args.base.now) (g.B.Base.serves c.args.base.now) g.B.Base.group (g.B.Base.out c.args.base.now) g.B.Base.rest g.B.Base.may_visit g.B.Base.looked_at g.B.Base.ahead c.args.host.now c.args.goal c.args.machine.now c.args.call.now
    (g.B.Base.view c.loop-name.base) (g.B.Base.serves c.loop-name.base) (g.B.Base.out c.loop-name.base) c.loop-name.machine c.loop-name.call c.loop-name.invariant.sweeps c.requires.cell
    (g.B.Base.view c.next.new.base) (g.B.Base.serves c.next.new.base) (g.B.Base.out c.next.new.base) c.next.new.call c.next.new.tally c.in-Some.name
    (record { seen = c.next.ensures.seen; others = c.next.ensures.others; out_is = c.next.ensures.out; used = c.next.ensures.used; goal_is = c.next.ensures.goal; at_is = c.next.ensures.at; group_is = c.next.ensures.group; serve = c.next.ensures.serves; gives = c.in-Some.ensures.gives; visits = c.next.ensures.visits; counts = c.next.ensures.counts; ahead_is = c.in-Some.ensures.ahead })
    (g.B.Base.view c.sweep_one.new.base) (g.B.Base.serves c.sweep_one.new.base) (g.B.Base.out c.sweep_one.new.base) c.sweep_one.new.machine
    c.sweep_one.ensures.seen c.sweep_one.ensures.others c.sweep_one.ensures.out c.sweep_one.ensures.same c.sweep_one.ensures.stack c.sweep_one.ensures.tally).others

pub returns-then-not-on-clause-out : goal.returns-then-not-on-clause-out
returns-then-not-on-clause-out g c =
    (sweeping_on (g.B.Base.view c.args.base.now) (g.B.Base.serves c.args.base.now) g.B.Base.group (g.B.Base.out c.args.base.now) g.B.Base.rest g.B.Base.may_visit g.B.Base.looked_at g.B.Base.ahead c.args.host.now c.args.goal c.args.machine.now c.args.call.now
    (g.B.Base.view c.loop-name.base) (g.B.Base.serves c.loop-name.base) (g.B.Base.out c.loop-name.base) c.loop-name.machine c.loop-name.call c.loop-name.invariant.sweeps c.requires.cell
    (g.B.Base.view c.next.new.base) (g.B.Base.serves c.next.new.base) (g.B.Base.out c.next.new.base) c.next.new.call c.next.new.tally c.in-Some.name
    (record { seen = c.next.ensures.seen; others = c.next.ensures.others; out_is = c.next.ensures.out; used = c.next.ensures.used; goal_is = c.next.ensures.goal; at_is = c.next.ensures.at; group_is = c.next.ensures.group; serve = c.next.ensures.serves; gives = c.in-Some.ensures.gives; visits = c.next.ensures.visits; counts = c.next.ensures.counts; ahead_is = c.in-Some.ensures.ahead })
    (g.B.Base.view c.sweep_one.new.base) (g.B.Base.serves c.sweep_one.new.base) (g.B.Base.out c.sweep_one.new.base) c.sweep_one.new.machine
    c.sweep_one.ensures.seen c.sweep_one.ensures.others c.sweep_one.ensures.out c.sweep_one.ensures.same c.sweep_one.ensures.stack c.sweep_one.ensures.tally).out_is

pub returns-then-not-on-clause-group : goal.returns-then-not-on-clause-group
returns-then-not-on-clause-group g c =
    (sweeping_on (g.B.Base.view c.args.base.now) (g.B.Base.serves c.args.base.now) g.B.Base.group (g.B.Base.out c.args.base.now) g.B.Base.rest g.B.Base.may_visit g.B.Base.looked_at g.B.Base.ahead c.args.host.now c.args.goal c.args.machine.now c.args.call.now
    (g.B.Base.view c.loop-name.base) (g.B.Base.serves c.loop-name.base) (g.B.Base.out c.loop-name.base) c.loop-name.machine c.loop-name.call c.loop-name.invariant.sweeps c.requires.cell
    (g.B.Base.view c.next.new.base) (g.B.Base.serves c.next.new.base) (g.B.Base.out c.next.new.base) c.next.new.call c.next.new.tally c.in-Some.name
    (record { seen = c.next.ensures.seen; others = c.next.ensures.others; out_is = c.next.ensures.out; used = c.next.ensures.used; goal_is = c.next.ensures.goal; at_is = c.next.ensures.at; group_is = c.next.ensures.group; serve = c.next.ensures.serves; gives = c.in-Some.ensures.gives; visits = c.next.ensures.visits; counts = c.next.ensures.counts; ahead_is = c.in-Some.ensures.ahead })
    (g.B.Base.view c.sweep_one.new.base) (g.B.Base.serves c.sweep_one.new.base) (g.B.Base.out c.sweep_one.new.base) c.sweep_one.new.machine
    c.sweep_one.ensures.seen c.sweep_one.ensures.others c.sweep_one.ensures.out c.sweep_one.ensures.same c.sweep_one.ensures.stack c.sweep_one.ensures.tally).group_is

pub returns-then-not-on-clause-serves : goal.returns-then-not-on-clause-serves
returns-then-not-on-clause-serves g c =
    (sweeping_on (g.B.Base.view c.args.base.now) (g.B.Base.serves c.args.base.now) g.B.Base.group (g.B.Base.out c.args.base.now) g.B.Base.rest g.B.Base.may_visit g.B.Base.looked_at g.B.Base.ahead c.args.host.now c.args.goal c.args.machine.now c.args.call.now
    (g.B.Base.view c.loop-name.base) (g.B.Base.serves c.loop-name.base) (g.B.Base.out c.loop-name.base) c.loop-name.machine c.loop-name.call c.loop-name.invariant.sweeps c.requires.cell
    (g.B.Base.view c.next.new.base) (g.B.Base.serves c.next.new.base) (g.B.Base.out c.next.new.base) c.next.new.call c.next.new.tally c.in-Some.name
    (record { seen = c.next.ensures.seen; others = c.next.ensures.others; out_is = c.next.ensures.out; used = c.next.ensures.used; goal_is = c.next.ensures.goal; at_is = c.next.ensures.at; group_is = c.next.ensures.group; serve = c.next.ensures.serves; gives = c.in-Some.ensures.gives; visits = c.next.ensures.visits; counts = c.next.ensures.counts; ahead_is = c.in-Some.ensures.ahead })
    (g.B.Base.view c.sweep_one.new.base) (g.B.Base.serves c.sweep_one.new.base) (g.B.Base.out c.sweep_one.new.base) c.sweep_one.new.machine
    c.sweep_one.ensures.seen c.sweep_one.ensures.others c.sweep_one.ensures.out c.sweep_one.ensures.same c.sweep_one.ensures.stack c.sweep_one.ensures.tally).serve

pub returns-then-not-on-clause-same : goal.returns-then-not-on-clause-same
returns-then-not-on-clause-same g c =
    (sweeping_on (g.B.Base.view c.args.base.now) (g.B.Base.serves c.args.base.now) g.B.Base.group (g.B.Base.out c.args.base.now) g.B.Base.rest g.B.Base.may_visit g.B.Base.looked_at g.B.Base.ahead c.args.host.now c.args.goal c.args.machine.now c.args.call.now
    (g.B.Base.view c.loop-name.base) (g.B.Base.serves c.loop-name.base) (g.B.Base.out c.loop-name.base) c.loop-name.machine c.loop-name.call c.loop-name.invariant.sweeps c.requires.cell
    (g.B.Base.view c.next.new.base) (g.B.Base.serves c.next.new.base) (g.B.Base.out c.next.new.base) c.next.new.call c.next.new.tally c.in-Some.name
    (record { seen = c.next.ensures.seen; others = c.next.ensures.others; out_is = c.next.ensures.out; used = c.next.ensures.used; goal_is = c.next.ensures.goal; at_is = c.next.ensures.at; group_is = c.next.ensures.group; serve = c.next.ensures.serves; gives = c.in-Some.ensures.gives; visits = c.next.ensures.visits; counts = c.next.ensures.counts; ahead_is = c.in-Some.ensures.ahead })
    (g.B.Base.view c.sweep_one.new.base) (g.B.Base.serves c.sweep_one.new.base) (g.B.Base.out c.sweep_one.new.base) c.sweep_one.new.machine
    c.sweep_one.ensures.seen c.sweep_one.ensures.others c.sweep_one.ensures.out c.sweep_one.ensures.same c.sweep_one.ensures.stack c.sweep_one.ensures.tally).same

pub returns-then-not-on-clause-stack : goal.returns-then-not-on-clause-stack
returns-then-not-on-clause-stack g c =
    (sweeping_on (g.B.Base.view c.args.base.now) (g.B.Base.serves c.args.base.now) g.B.Base.group (g.B.Base.out c.args.base.now) g.B.Base.rest g.B.Base.may_visit g.B.Base.looked_at g.B.Base.ahead c.args.host.now c.args.goal c.args.machine.now c.args.call.now
    (g.B.Base.view c.loop-name.base) (g.B.Base.serves c.loop-name.base) (g.B.Base.out c.loop-name.base) c.loop-name.machine c.loop-name.call c.loop-name.invariant.sweeps c.requires.cell
    (g.B.Base.view c.next.new.base) (g.B.Base.serves c.next.new.base) (g.B.Base.out c.next.new.base) c.next.new.call c.next.new.tally c.in-Some.name
    (record { seen = c.next.ensures.seen; others = c.next.ensures.others; out_is = c.next.ensures.out; used = c.next.ensures.used; goal_is = c.next.ensures.goal; at_is = c.next.ensures.at; group_is = c.next.ensures.group; serve = c.next.ensures.serves; gives = c.in-Some.ensures.gives; visits = c.next.ensures.visits; counts = c.next.ensures.counts; ahead_is = c.in-Some.ensures.ahead })
    (g.B.Base.view c.sweep_one.new.base) (g.B.Base.serves c.sweep_one.new.base) (g.B.Base.out c.sweep_one.new.base) c.sweep_one.new.machine
    c.sweep_one.ensures.seen c.sweep_one.ensures.others c.sweep_one.ensures.out c.sweep_one.ensures.same c.sweep_one.ensures.stack c.sweep_one.ensures.tally).stack

pub returns-then-not-on-clause-tally : goal.returns-then-not-on-clause-tally
returns-then-not-on-clause-tally g c =
    (sweeping_on (g.B.Base.view c.args.base.now) (g.B.Base.serves c.args.base.now) g.B.Base.group (g.B.Base.out c.args.base.now) g.B.Base.rest g.B.Base.may_visit g.B.Base.looked_at g.B.Base.ahead c.args.host.now c.args.goal c.args.machine.now c.args.call.now
    (g.B.Base.view c.loop-name.base) (g.B.Base.serves c.loop-name.base) (g.B.Base.out c.loop-name.base) c.loop-name.machine c.loop-name.call c.loop-name.invariant.sweeps c.requires.cell
    (g.B.Base.view c.next.new.base) (g.B.Base.serves c.next.new.base) (g.B.Base.out c.next.new.base) c.next.new.call c.next.new.tally c.in-Some.name
    (record { seen = c.next.ensures.seen; others = c.next.ensures.others; out_is = c.next.ensures.out; used = c.next.ensures.used; goal_is = c.next.ensures.goal; at_is = c.next.ensures.at; group_is = c.next.ensures.group; serve = c.next.ensures.serves; gives = c.in-Some.ensures.gives; visits = c.next.ensures.visits; counts = c.next.ensures.counts; ahead_is = c.in-Some.ensures.ahead })
    (g.B.Base.view c.sweep_one.new.base) (g.B.Base.serves c.sweep_one.new.base) (g.B.Base.out c.sweep_one.new.base) c.sweep_one.new.machine
    c.sweep_one.ensures.seen c.sweep_one.ensures.others c.sweep_one.ensures.out c.sweep_one.ensures.same c.sweep_one.ensures.stack c.sweep_one.ensures.tally).tally

pub returns-then-not-on-clause-terms : goal.returns-then-not-on-clause-terms
returns-then-not-on-clause-terms g c =
    (one_terms (g.B.Base.view c.args.base.now) (g.B.Base.serves c.args.base.now) g.B.Base.group (g.B.Base.out c.args.base.now) g.B.Base.rest g.B.Base.may_visit g.B.Base.looked_at g.B.Base.ahead c.args.host.now c.args.goal c.args.machine.now c.args.call.now
    (g.B.Base.view c.loop-name.base) (g.B.Base.serves c.loop-name.base) (g.B.Base.out c.loop-name.base) c.loop-name.machine c.loop-name.call c.loop-name.invariant.sweeps c.requires.cell
    (g.B.Base.view c.next.new.base) (g.B.Base.serves c.next.new.base) (g.B.Base.out c.next.new.base) c.next.new.call c.next.new.tally c.in-Some.name
    (record { seen = c.next.ensures.seen; others = c.next.ensures.others; out_is = c.next.ensures.out; used = c.next.ensures.used; goal_is = c.next.ensures.goal; at_is = c.next.ensures.at; group_is = c.next.ensures.group; serve = c.next.ensures.serves; gives = c.in-Some.ensures.gives; visits = c.next.ensures.visits; counts = c.next.ensures.counts; ahead_is = c.in-Some.ensures.ahead })
    (g.B.Base.view c.sweep_one.new.base) (g.B.Base.serves c.sweep_one.new.base) (g.B.Base.out c.sweep_one.new.base) c.sweep_one.new.machine
    c.requires.goal c.in_ok-on.on (record { seen = c.sweep_one.ensures.seen; others = c.sweep_one.ensures.others; out_is = c.sweep_one.ensures.out; same = c.sweep_one.ensures.same; terms = record { terms = c.in_ok-on.ensures.terms; names = c.in_ok-on.ensures.names; cells = c.in_ok-on.ensures.cells; said_is = c.in_ok-on.ensures.said; front = c.in_ok-on.ensures.front }; tally = c.sweep_one.ensures.tally; sweeps = c.in_ok-on.ensures.sweeps })).terms

pub returns-then-not-on-clause-said : goal.returns-then-not-on-clause-said
returns-then-not-on-clause-said g c =
    (one_terms (g.B.Base.view c.args.base.now) (g.B.Base.serves c.args.base.now) g.B.Base.group (g.B.Base.out c.args.base.now) g.B.Base.rest g.B.Base.may_visit g.B.Base.looked_at g.B.Base.ahead c.args.host.now c.args.goal c.args.machine.now c.args.call.now
    (g.B.Base.view c.loop-name.base) (g.B.Base.serves c.loop-name.base) (g.B.Base.out c.loop-name.base) c.loop-name.machine c.loop-name.call c.loop-name.invariant.sweeps c.requires.cell
    (g.B.Base.view c.next.new.base) (g.B.Base.serves c.next.new.base) (g.B.Base.out c.next.new.base) c.next.new.call c.next.new.tally c.in-Some.name
    (record { seen = c.next.ensures.seen; others = c.next.ensures.others; out_is = c.next.ensures.out; used = c.next.ensures.used; goal_is = c.next.ensures.goal; at_is = c.next.ensures.at; group_is = c.next.ensures.group; serve = c.next.ensures.serves; gives = c.in-Some.ensures.gives; visits = c.next.ensures.visits; counts = c.next.ensures.counts; ahead_is = c.in-Some.ensures.ahead })
    (g.B.Base.view c.sweep_one.new.base) (g.B.Base.serves c.sweep_one.new.base) (g.B.Base.out c.sweep_one.new.base) c.sweep_one.new.machine
    c.requires.goal c.in_ok-on.on (record { seen = c.sweep_one.ensures.seen; others = c.sweep_one.ensures.others; out_is = c.sweep_one.ensures.out; same = c.sweep_one.ensures.same; terms = record { terms = c.in_ok-on.ensures.terms; names = c.in_ok-on.ensures.names; cells = c.in_ok-on.ensures.cells; said_is = c.in_ok-on.ensures.said; front = c.in_ok-on.ensures.front }; tally = c.sweep_one.ensures.tally; sweeps = c.in_ok-on.ensures.sweeps })).said_is

pub returns-then-not-on-clause-front : goal.returns-then-not-on-clause-front
returns-then-not-on-clause-front g c =
    (one_terms (g.B.Base.view c.args.base.now) (g.B.Base.serves c.args.base.now) g.B.Base.group (g.B.Base.out c.args.base.now) g.B.Base.rest g.B.Base.may_visit g.B.Base.looked_at g.B.Base.ahead c.args.host.now c.args.goal c.args.machine.now c.args.call.now
    (g.B.Base.view c.loop-name.base) (g.B.Base.serves c.loop-name.base) (g.B.Base.out c.loop-name.base) c.loop-name.machine c.loop-name.call c.loop-name.invariant.sweeps c.requires.cell
    (g.B.Base.view c.next.new.base) (g.B.Base.serves c.next.new.base) (g.B.Base.out c.next.new.base) c.next.new.call c.next.new.tally c.in-Some.name
    (record { seen = c.next.ensures.seen; others = c.next.ensures.others; out_is = c.next.ensures.out; used = c.next.ensures.used; goal_is = c.next.ensures.goal; at_is = c.next.ensures.at; group_is = c.next.ensures.group; serve = c.next.ensures.serves; gives = c.in-Some.ensures.gives; visits = c.next.ensures.visits; counts = c.next.ensures.counts; ahead_is = c.in-Some.ensures.ahead })
    (g.B.Base.view c.sweep_one.new.base) (g.B.Base.serves c.sweep_one.new.base) (g.B.Base.out c.sweep_one.new.base) c.sweep_one.new.machine
    c.requires.goal c.in_ok-on.on (record { seen = c.sweep_one.ensures.seen; others = c.sweep_one.ensures.others; out_is = c.sweep_one.ensures.out; same = c.sweep_one.ensures.same; terms = record { terms = c.in_ok-on.ensures.terms; names = c.in_ok-on.ensures.names; cells = c.in_ok-on.ensures.cells; said_is = c.in_ok-on.ensures.said; front = c.in_ok-on.ensures.front }; tally = c.sweep_one.ensures.tally; sweeps = c.in_ok-on.ensures.sweeps })).front

pub returns-then-not-on-clause-sweeps : goal.returns-then-not-on-clause-sweeps
returns-then-not-on-clause-sweeps g c =
    sweeping_stop (g.B.Base.view c.args.base.now) (g.B.Base.serves c.args.base.now) g.B.Base.group (g.B.Base.out c.args.base.now) g.B.Base.rest g.B.Base.may_visit g.B.Base.looked_at g.B.Base.ahead c.args.host.now c.args.goal c.args.machine.now c.args.call.now
    (g.B.Base.view c.loop-name.base) (g.B.Base.serves c.loop-name.base) (g.B.Base.out c.loop-name.base) c.loop-name.machine c.loop-name.call c.loop-name.invariant.sweeps c.requires.cell
    (g.B.Base.view c.next.new.base) (g.B.Base.serves c.next.new.base) (g.B.Base.out c.next.new.base) c.next.new.call c.next.new.tally c.in-Some.name
    (record { seen = c.next.ensures.seen; others = c.next.ensures.others; out_is = c.next.ensures.out; used = c.next.ensures.used; goal_is = c.next.ensures.goal; at_is = c.next.ensures.at; group_is = c.next.ensures.group; serve = c.next.ensures.serves; gives = c.in-Some.ensures.gives; visits = c.next.ensures.visits; counts = c.next.ensures.counts; ahead_is = c.in-Some.ensures.ahead })
    (g.B.Base.view c.sweep_one.new.base) (g.B.Base.serves c.sweep_one.new.base) (g.B.Base.out c.sweep_one.new.base) c.sweep_one.new.machine
    c.requires.goal c.in_ok-on.on (record { seen = c.sweep_one.ensures.seen; others = c.sweep_one.ensures.others; out_is = c.sweep_one.ensures.out; same = c.sweep_one.ensures.same; terms = record { terms = c.in_ok-on.ensures.terms; names = c.in_ok-on.ensures.names; cells = c.in_ok-on.ensures.cells; said_is = c.in_ok-on.ensures.said; front = c.in_ok-on.ensures.front }; tally = c.sweep_one.ensures.tally; sweeps = c.in_ok-on.ensures.sweeps }) c.if-not-on.true

pub loop-name-preserved : goal.loop-name-preserved
loop-name-preserved g c =
    record {
      becomes = g.met.B.Base.becomes_further _ _ _ (g.met.B.Base.becomes_further _ _ _ c.loop-name.invariant.becomes c.next.ensures.becomes) c.sweep_one.ensures.becomes;
      sweeps = sweeping_step (g.B.Base.view c.args.base.now) (g.B.Base.serves c.args.base.now) g.B.Base.group (g.B.Base.out c.args.base.now) g.B.Base.rest g.B.Base.may_visit g.B.Base.looked_at g.B.Base.ahead c.args.host.now c.args.goal c.args.machine.now c.args.call.now
          (g.B.Base.view c.loop-name.base) (g.B.Base.serves c.loop-name.base) (g.B.Base.out c.loop-name.base) c.loop-name.machine c.loop-name.call c.loop-name.invariant.sweeps c.requires.cell
          (g.B.Base.view c.next.new.base) (g.B.Base.serves c.next.new.base) (g.B.Base.out c.next.new.base) c.next.new.call c.next.new.tally c.in-Some.name
          (record { seen = c.next.ensures.seen; others = c.next.ensures.others; out_is = c.next.ensures.out; used = c.next.ensures.used; goal_is = c.next.ensures.goal; at_is = c.next.ensures.at; group_is = c.next.ensures.group; serve = c.next.ensures.serves; gives = c.in-Some.ensures.gives; visits = c.next.ensures.visits; counts = c.next.ensures.counts; ahead_is = c.in-Some.ensures.ahead })
          (g.B.Base.view c.sweep_one.new.base) (g.B.Base.serves c.sweep_one.new.base) (g.B.Base.out c.sweep_one.new.base) c.sweep_one.new.machine
          c.requires.goal c.in_ok-on.on (record { seen = c.sweep_one.ensures.seen; others = c.sweep_one.ensures.others; out_is = c.sweep_one.ensures.out; same = c.sweep_one.ensures.same; terms = record { terms = c.in_ok-on.ensures.terms; names = c.in_ok-on.ensures.names; cells = c.in_ok-on.ensures.cells; said_is = c.in_ok-on.ensures.said; front = c.in_ok-on.ensures.front }; tally = c.sweep_one.ensures.tally; sweeps = c.in_ok-on.ensures.sweeps }) c.if-not-on.false;
    }

pub loop-name-smaller : goal.loop-name-smaller
loop-name-smaller g c =
    let i = sweeping_step (g.B.Base.view c.args.base.now) (g.B.Base.serves c.args.base.now) g.B.Base.group (g.B.Base.out c.args.base.now) g.B.Base.rest g.B.Base.may_visit g.B.Base.looked_at g.B.Base.ahead c.args.host.now c.args.goal c.args.machine.now c.args.call.now
    (g.B.Base.view c.loop-name.base) (g.B.Base.serves c.loop-name.base) (g.B.Base.out c.loop-name.base) c.loop-name.machine c.loop-name.call c.loop-name.invariant.sweeps c.requires.cell
    (g.B.Base.view c.next.new.base) (g.B.Base.serves c.next.new.base) (g.B.Base.out c.next.new.base) c.next.new.call c.next.new.tally c.in-Some.name
    (record { seen = c.next.ensures.seen; others = c.next.ensures.others; out_is = c.next.ensures.out; used = c.next.ensures.used; goal_is = c.next.ensures.goal; at_is = c.next.ensures.at; group_is = c.next.ensures.group; serve = c.next.ensures.serves; gives = c.in-Some.ensures.gives; visits = c.next.ensures.visits; counts = c.next.ensures.counts; ahead_is = c.in-Some.ensures.ahead })
    (g.B.Base.view c.sweep_one.new.base) (g.B.Base.serves c.sweep_one.new.base) (g.B.Base.out c.sweep_one.new.base) c.sweep_one.new.machine
    c.requires.goal c.in_ok-on.on (record { seen = c.sweep_one.ensures.seen; others = c.sweep_one.ensures.others; out_is = c.sweep_one.ensures.out; same = c.sweep_one.ensures.same; terms = record { terms = c.in_ok-on.ensures.terms; names = c.in_ok-on.ensures.names; cells = c.in_ok-on.ensures.cells; said_is = c.in_ok-on.ensures.said; front = c.in_ok-on.ensures.front }; tally = c.sweep_one.ensures.tally; sweeps = c.in_ok-on.ensures.sweeps }) c.if-not-on.false in
    let r = sweeping_room (g.B.Base.view c.args.base.now) (g.B.Base.serves c.args.base.now) g.B.Base.group (g.B.Base.out c.args.base.now) g.B.Base.rest g.B.Base.may_visit g.B.Base.looked_at g.B.Base.ahead c.args.host.now c.args.goal c.args.machine.now c.args.call.now
    (g.B.Base.view c.sweep_one.new.base) (g.B.Base.serves c.sweep_one.new.base) (g.B.Base.out c.sweep_one.new.base) c.sweep_one.new.machine c.next.new.call i c.requires.cell c.requires.room c.requires.visits in
    let same : c.sweep_one.new.machine.tally.visits ≡ c.next.new.tally.visits = ap (λ (t : Tally). t.visits) c.sweep_one.ensures.tally in
    fewer c.loop-name.machine.tally.visits c.sweep_one.new.machine.tally.visits (g.B.Base.ahead c.loop-name.call.cursor) (g.B.Base.ahead c.next.new.call.cursor)
    (omega (arith, c.in-Some.ensures.ahead, same)) r.visits

pub returns-clause-becomes : goal.returns-clause-becomes
returns-clause-becomes g c =
    g.met.B.Base.becomes_further _ _ _ c.loop-name.invariant.becomes c.next.ensures.becomes

pub returns-clause-seen : goal.returns-clause-seen
returns-clause-seen g c =
    (sweeping_next (g.B.Base.view c.args.base.now) (g.B.Base.serves c.args.base.now) g.B.Base.group (g.B.Base.out c.args.base.now) g.B.Base.rest g.B.Base.may_visit g.B.Base.looked_at g.B.Base.ahead c.args.host.now c.args.goal c.args.machine.now c.args.call.now
    (g.B.Base.view c.loop-name.base) (g.B.Base.serves c.loop-name.base) (g.B.Base.out c.loop-name.base) c.loop-name.machine c.loop-name.call c.loop-name.invariant.sweeps c.requires.cell
    (g.B.Base.view c.next.new.base) (g.B.Base.serves c.next.new.base) (g.B.Base.out c.next.new.base) c.next.new.call c.next.new.tally None
    (record { seen = c.next.ensures.seen; others = c.next.ensures.others; out_is = c.next.ensures.out; used = c.next.ensures.used; goal_is = c.next.ensures.goal; at_is = c.next.ensures.at; group_is = c.next.ensures.group; serve = c.next.ensures.serves; gives = c.in_default.ensures.gives; visits = c.next.ensures.visits; counts = c.next.ensures.counts; ahead_is = c.in_default.ensures.ahead })).seen

pub returns-clause-others : goal.returns-clause-others
returns-clause-others g c =
    (sweeping_next (g.B.Base.view c.args.base.now) (g.B.Base.serves c.args.base.now) g.B.Base.group (g.B.Base.out c.args.base.now) g.B.Base.rest g.B.Base.may_visit g.B.Base.looked_at g.B.Base.ahead c.args.host.now c.args.goal c.args.machine.now c.args.call.now
    (g.B.Base.view c.loop-name.base) (g.B.Base.serves c.loop-name.base) (g.B.Base.out c.loop-name.base) c.loop-name.machine c.loop-name.call c.loop-name.invariant.sweeps c.requires.cell
    (g.B.Base.view c.next.new.base) (g.B.Base.serves c.next.new.base) (g.B.Base.out c.next.new.base) c.next.new.call c.next.new.tally None
    (record { seen = c.next.ensures.seen; others = c.next.ensures.others; out_is = c.next.ensures.out; used = c.next.ensures.used; goal_is = c.next.ensures.goal; at_is = c.next.ensures.at; group_is = c.next.ensures.group; serve = c.next.ensures.serves; gives = c.in_default.ensures.gives; visits = c.next.ensures.visits; counts = c.next.ensures.counts; ahead_is = c.in_default.ensures.ahead })).others

pub returns-clause-out : goal.returns-clause-out
returns-clause-out g c =
    (sweeping_next (g.B.Base.view c.args.base.now) (g.B.Base.serves c.args.base.now) g.B.Base.group (g.B.Base.out c.args.base.now) g.B.Base.rest g.B.Base.may_visit g.B.Base.looked_at g.B.Base.ahead c.args.host.now c.args.goal c.args.machine.now c.args.call.now
    (g.B.Base.view c.loop-name.base) (g.B.Base.serves c.loop-name.base) (g.B.Base.out c.loop-name.base) c.loop-name.machine c.loop-name.call c.loop-name.invariant.sweeps c.requires.cell
    (g.B.Base.view c.next.new.base) (g.B.Base.serves c.next.new.base) (g.B.Base.out c.next.new.base) c.next.new.call c.next.new.tally None
    (record { seen = c.next.ensures.seen; others = c.next.ensures.others; out_is = c.next.ensures.out; used = c.next.ensures.used; goal_is = c.next.ensures.goal; at_is = c.next.ensures.at; group_is = c.next.ensures.group; serve = c.next.ensures.serves; gives = c.in_default.ensures.gives; visits = c.next.ensures.visits; counts = c.next.ensures.counts; ahead_is = c.in_default.ensures.ahead })).out_is

pub returns-clause-group : goal.returns-clause-group
returns-clause-group g c =
    (sweeping_next (g.B.Base.view c.args.base.now) (g.B.Base.serves c.args.base.now) g.B.Base.group (g.B.Base.out c.args.base.now) g.B.Base.rest g.B.Base.may_visit g.B.Base.looked_at g.B.Base.ahead c.args.host.now c.args.goal c.args.machine.now c.args.call.now
    (g.B.Base.view c.loop-name.base) (g.B.Base.serves c.loop-name.base) (g.B.Base.out c.loop-name.base) c.loop-name.machine c.loop-name.call c.loop-name.invariant.sweeps c.requires.cell
    (g.B.Base.view c.next.new.base) (g.B.Base.serves c.next.new.base) (g.B.Base.out c.next.new.base) c.next.new.call c.next.new.tally None
    (record { seen = c.next.ensures.seen; others = c.next.ensures.others; out_is = c.next.ensures.out; used = c.next.ensures.used; goal_is = c.next.ensures.goal; at_is = c.next.ensures.at; group_is = c.next.ensures.group; serve = c.next.ensures.serves; gives = c.in_default.ensures.gives; visits = c.next.ensures.visits; counts = c.next.ensures.counts; ahead_is = c.in_default.ensures.ahead })).group_is

pub returns-clause-serves : goal.returns-clause-serves
returns-clause-serves g c =
    (sweeping_next (g.B.Base.view c.args.base.now) (g.B.Base.serves c.args.base.now) g.B.Base.group (g.B.Base.out c.args.base.now) g.B.Base.rest g.B.Base.may_visit g.B.Base.looked_at g.B.Base.ahead c.args.host.now c.args.goal c.args.machine.now c.args.call.now
    (g.B.Base.view c.loop-name.base) (g.B.Base.serves c.loop-name.base) (g.B.Base.out c.loop-name.base) c.loop-name.machine c.loop-name.call c.loop-name.invariant.sweeps c.requires.cell
    (g.B.Base.view c.next.new.base) (g.B.Base.serves c.next.new.base) (g.B.Base.out c.next.new.base) c.next.new.call c.next.new.tally None
    (record { seen = c.next.ensures.seen; others = c.next.ensures.others; out_is = c.next.ensures.out; used = c.next.ensures.used; goal_is = c.next.ensures.goal; at_is = c.next.ensures.at; group_is = c.next.ensures.group; serve = c.next.ensures.serves; gives = c.in_default.ensures.gives; visits = c.next.ensures.visits; counts = c.next.ensures.counts; ahead_is = c.in_default.ensures.ahead })).serve

pub returns-clause-same : goal.returns-clause-same
returns-clause-same g c =
    (sweeping_next (g.B.Base.view c.args.base.now) (g.B.Base.serves c.args.base.now) g.B.Base.group (g.B.Base.out c.args.base.now) g.B.Base.rest g.B.Base.may_visit g.B.Base.looked_at g.B.Base.ahead c.args.host.now c.args.goal c.args.machine.now c.args.call.now
    (g.B.Base.view c.loop-name.base) (g.B.Base.serves c.loop-name.base) (g.B.Base.out c.loop-name.base) c.loop-name.machine c.loop-name.call c.loop-name.invariant.sweeps c.requires.cell
    (g.B.Base.view c.next.new.base) (g.B.Base.serves c.next.new.base) (g.B.Base.out c.next.new.base) c.next.new.call c.next.new.tally None
    (record { seen = c.next.ensures.seen; others = c.next.ensures.others; out_is = c.next.ensures.out; used = c.next.ensures.used; goal_is = c.next.ensures.goal; at_is = c.next.ensures.at; group_is = c.next.ensures.group; serve = c.next.ensures.serves; gives = c.in_default.ensures.gives; visits = c.next.ensures.visits; counts = c.next.ensures.counts; ahead_is = c.in_default.ensures.ahead })).same

pub returns-clause-stack : goal.returns-clause-stack
returns-clause-stack g c =
    (sweeping_next (g.B.Base.view c.args.base.now) (g.B.Base.serves c.args.base.now) g.B.Base.group (g.B.Base.out c.args.base.now) g.B.Base.rest g.B.Base.may_visit g.B.Base.looked_at g.B.Base.ahead c.args.host.now c.args.goal c.args.machine.now c.args.call.now
    (g.B.Base.view c.loop-name.base) (g.B.Base.serves c.loop-name.base) (g.B.Base.out c.loop-name.base) c.loop-name.machine c.loop-name.call c.loop-name.invariant.sweeps c.requires.cell
    (g.B.Base.view c.next.new.base) (g.B.Base.serves c.next.new.base) (g.B.Base.out c.next.new.base) c.next.new.call c.next.new.tally None
    (record { seen = c.next.ensures.seen; others = c.next.ensures.others; out_is = c.next.ensures.out; used = c.next.ensures.used; goal_is = c.next.ensures.goal; at_is = c.next.ensures.at; group_is = c.next.ensures.group; serve = c.next.ensures.serves; gives = c.in_default.ensures.gives; visits = c.next.ensures.visits; counts = c.next.ensures.counts; ahead_is = c.in_default.ensures.ahead })).stack

pub returns-clause-tally : goal.returns-clause-tally
returns-clause-tally g c =
    (sweeping_next (g.B.Base.view c.args.base.now) (g.B.Base.serves c.args.base.now) g.B.Base.group (g.B.Base.out c.args.base.now) g.B.Base.rest g.B.Base.may_visit g.B.Base.looked_at g.B.Base.ahead c.args.host.now c.args.goal c.args.machine.now c.args.call.now
    (g.B.Base.view c.loop-name.base) (g.B.Base.serves c.loop-name.base) (g.B.Base.out c.loop-name.base) c.loop-name.machine c.loop-name.call c.loop-name.invariant.sweeps c.requires.cell
    (g.B.Base.view c.next.new.base) (g.B.Base.serves c.next.new.base) (g.B.Base.out c.next.new.base) c.next.new.call c.next.new.tally None
    (record { seen = c.next.ensures.seen; others = c.next.ensures.others; out_is = c.next.ensures.out; used = c.next.ensures.used; goal_is = c.next.ensures.goal; at_is = c.next.ensures.at; group_is = c.next.ensures.group; serve = c.next.ensures.serves; gives = c.in_default.ensures.gives; visits = c.next.ensures.visits; counts = c.next.ensures.counts; ahead_is = c.in_default.ensures.ahead })).tally

pub returns-clause-terms : goal.returns-clause-terms
returns-clause-terms g c =
    c.loop-name.invariant.sweeps.terms.terms

pub returns-clause-said : goal.returns-clause-said
returns-clause-said g c =
    c.loop-name.invariant.sweeps.terms.said_is

pub returns-clause-front : goal.returns-clause-front
returns-clause-front g c =
    next_front (g.B.Base.view c.args.base.now) (g.B.Base.serves c.args.base.now) g.B.Base.group (g.B.Base.out c.args.base.now) g.B.Base.rest g.B.Base.may_visit g.B.Base.looked_at g.B.Base.ahead c.args.host.now c.args.goal c.args.machine.now c.args.call.now
    (g.B.Base.view c.loop-name.base) (g.B.Base.serves c.loop-name.base) (g.B.Base.out c.loop-name.base) c.loop-name.machine c.loop-name.call c.loop-name.invariant.sweeps c.requires.cell
    (g.B.Base.view c.next.new.base) (g.B.Base.serves c.next.new.base) (g.B.Base.out c.next.new.base) c.next.new.call c.next.new.tally None
    (record { seen = c.next.ensures.seen; others = c.next.ensures.others; out_is = c.next.ensures.out; used = c.next.ensures.used; goal_is = c.next.ensures.goal; at_is = c.next.ensures.at; group_is = c.next.ensures.group; serve = c.next.ensures.serves; gives = c.in_default.ensures.gives; visits = c.next.ensures.visits; counts = c.next.ensures.counts; ahead_is = c.in_default.ensures.ahead })

pub returns-clause-sweeps : goal.returns-clause-sweeps
returns-clause-sweeps g c =
    sweeping_end (g.B.Base.view c.args.base.now) (g.B.Base.serves c.args.base.now) g.B.Base.group (g.B.Base.out c.args.base.now) g.B.Base.rest g.B.Base.may_visit g.B.Base.looked_at g.B.Base.ahead c.args.host.now c.args.goal c.args.machine.now c.args.call.now
    (g.B.Base.view c.loop-name.base) (g.B.Base.serves c.loop-name.base) (g.B.Base.out c.loop-name.base) c.loop-name.machine c.loop-name.call c.loop-name.invariant.sweeps c.requires.cell
    (g.B.Base.view c.next.new.base) (g.B.Base.serves c.next.new.base) (g.B.Base.out c.next.new.base) c.next.new.call c.next.new.tally
    (record { seen = c.next.ensures.seen; others = c.next.ensures.others; out_is = c.next.ensures.out; used = c.next.ensures.used; goal_is = c.next.ensures.goal; at_is = c.next.ensures.at; group_is = c.next.ensures.group; serve = c.next.ensures.serves; gives = c.in_default.ensures.gives; visits = c.next.ensures.visits; counts = c.next.ensures.counts; ahead_is = c.in_default.ensures.ahead })
