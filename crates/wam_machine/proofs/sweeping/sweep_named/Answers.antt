use Rattle.std.proofs.Common.{◌≡◌, sym, ◌∙◌, Some, None}
use Rattle.std.specs.Prelude.{option_map}
use Rattle.std.proofs.lemmas.Result.{on_ok_weaker}
use Rattle.journals.specs.Journal.{procedure_named}
use Rattle.wam_machine.specs.States.{taking}
use Rattle.wam_machine.specs.Procedures.{no_change, sweep_at, sweeping_named, sweeping_where}
use Rattle.wam_machine.specs.Terms.{built}
use Rattle.wam_machine.specs.View.{setting}
use Rattle.wam_machine.proofs.Begins.{seen_in, grows_trans, host_on}
use Rattle.wam_machine.proofs.Ready.{ready_on}
use Rattle.wam_machine.proofs.AsksOn.{makes_after, makes_goes}
use Rattle.wam_machine.proofs.SweptKinds.{sweep_reserved, sweep_free}
use Rattle.wam_machine.proofs.sweeping.sweep_named.Goals as goal

pub returns-then-is_reserved-clause-goes : goal.returns-then-is_reserved-clause-goes
returns-then-is_reserved-clause-goes g c =
    let m = c.args.machine.now in
    let G = option_map (built m.terms) c.args.goal in
    let i = c.args.indicator.now in
    c.raise.ensures.goes (no_change i) (sweep_at G) (λ j s. sweeping_named (setting c.args.host.now m j) G s i) (c.in_ok-ball.ensures (built m.terms))
    (λ j s. sweep_reserved (setting c.args.host.now m j) i G s (sym c.is_reserved.ensures ∙ c.if-is_reserved.true))

pub sweep_absent-requires-clause-absent : goal.sweep_absent-requires-clause-absent
sweep_absent-requires-clause-absent g c = λ j b. sym (seen_in (g.B.Base.view c.find.new.self) (λ J. None ≡ procedure_named J c.args.indicator.now) j c.in-None.ensures.found b)

pub sweep_absent-requires-clause-host : goal.sweep_absent-requires-clause-host
sweep_absent-requires-clause-host g c = host_on c.args.host.now (g.B.Base.view c.args.base.now) (g.B.Base.view c.find.new.self) c.in-None.ensures.seen.grows c.requires.host

pub sweep_absent-requires-clause-ready : goal.sweep_absent-requires-clause-ready
sweep_absent-requires-clause-ready g c =
    ready_on _ _ (g.B.Base.serves c.args.base.now) (g.B.Base.serves c.find.new.self) g.B.Base.group _ _ g.B.Base.rest g.B.Base.may_visit g.B.Base.looked_at _ _ c.requires.ready
    c.in-None.ensures.seen c.in-None.ensures.others c.in-None.ensures.out

pub returns-in-None-clause-seen : goal.returns-in-None-clause-seen
returns-in-None-clause-seen g c = grows_trans _ (g.B.Base.view c.find.new.self) _ c.in-None.ensures.seen.grows c.sweep_absent.ensures.seen

pub returns-in-None-clause-goes : goal.returns-in-None-clause-goes
returns-in-None-clause-goes g c =
    let m = c.args.machine.now in
    let G = option_map (built m.terms) c.args.goal in
    let i = c.args.indicator.now in
    let v = g.B.Base.view c.args.base.now in
    let u = g.B.Base.view c.find.new.self in
    let w = g.B.Base.view c.sweep_absent.new.base in
    on_ok_weaker c.sweep_absent.result
    (λ r. makes_after v u w _ c.in-None.ensures.seen
    (makes_goes g.B.Base.rest g.B.Base.may_visit g.B.Base.looked_at g.B.Base.ahead w.causes u w
    (λ j s. taking (setting c.args.host.now m j) s (λ seen t. sweeping_where (setting c.args.host.now m j) i G s.front seen t (procedure_named seen i)))
    (λ j s. sweeping_named (setting c.args.host.now m j) G s i) m c.sweep_absent.new.machine
    (λ j b s. sweep_free (setting c.args.host.now m j) i G s (sym c.is_reserved.ensures ∙ c.if-is_reserved.false))
    r))
    c.sweep_absent.ensures.goes

pub sweep_kind-requires-clause-found : goal.sweep_kind-requires-clause-found
sweep_kind-requires-clause-found g c = λ j b. sym (seen_in (g.B.Base.view c.find.new.self) (λ J. Some (c.in-Some.procedure, c.in-Some.kind) ≡ procedure_named J c.args.indicator.now) j c.in-Some.ensures.found b)

pub sweep_kind-requires-clause-host : goal.sweep_kind-requires-clause-host
sweep_kind-requires-clause-host g c = host_on c.args.host.now (g.B.Base.view c.args.base.now) (g.B.Base.view c.find.new.self) c.in-Some.ensures.seen.grows c.requires.host

pub sweep_kind-requires-clause-ready : goal.sweep_kind-requires-clause-ready
sweep_kind-requires-clause-ready g c =
    ready_on _ _ (g.B.Base.serves c.args.base.now) (g.B.Base.serves c.find.new.self) g.B.Base.group _ _ g.B.Base.rest g.B.Base.may_visit g.B.Base.looked_at _ _ c.requires.ready
    c.in-Some.ensures.seen c.in-Some.ensures.others c.in-Some.ensures.out

pub returns-in-Some-clause-seen : goal.returns-in-Some-clause-seen
returns-in-Some-clause-seen g c = grows_trans _ (g.B.Base.view c.find.new.self) _ c.in-Some.ensures.seen.grows c.sweep_kind.ensures.seen

pub returns-in-Some-clause-goes : goal.returns-in-Some-clause-goes
returns-in-Some-clause-goes g c =
    let m = c.args.machine.now in
    let G = option_map (built m.terms) c.args.goal in
    let i = c.args.indicator.now in
    let v = g.B.Base.view c.args.base.now in
    let u = g.B.Base.view c.find.new.self in
    let w = g.B.Base.view c.sweep_kind.new.base in
    on_ok_weaker c.sweep_kind.result
    (λ r. makes_after v u w _ c.in-Some.ensures.seen
    (makes_goes g.B.Base.rest g.B.Base.may_visit g.B.Base.looked_at g.B.Base.ahead w.causes u w
    (λ j s. taking (setting c.args.host.now m j) s (λ seen t. sweeping_where (setting c.args.host.now m j) i G s.front seen t (procedure_named seen i)))
    (λ j s. sweeping_named (setting c.args.host.now m j) G s i) m c.sweep_kind.new.machine
    (λ j b s. sweep_free (setting c.args.host.now m j) i G s (sym c.is_reserved.ensures ∙ c.if-is_reserved.false))
    r))
    c.sweep_kind.ensures.goes
