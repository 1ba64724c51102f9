use Rattle.std.proofs.Common.{◌≡◌, sym, ◌∙◌, take, Some, None}
use Rattle.std.proofs.lemmas.Result.{on_ok_weaker}
use Rattle.journals.specs.Journal.{procedure_named}
use Rattle.wam_machine.specs.States.{taking}
use Rattle.wam_machine.specs.Procedures.{matching, matching_where, refusal_for, call_for}
use Rattle.wam_machine.specs.Terms.{built, purpose_of}
use Rattle.wam_machine.specs.View.{setting}
use Rattle.wam_machine.proofs.Begins.{seen_in, grows_trans, host_on}
use Rattle.wam_machine.proofs.Ready.{ready_on}
use Rattle.wam_machine.proofs.AsksOn.{makes_after, makes_goes}
use Rattle.wam_machine.proofs.Matches.{on_ok_from, match_reserved, match_free, match_absent}
use Rattle.wam_machine.proofs.matching.match_clauses.Goals as goal

pub returns-then-is_reserved-clause-goes : goal.returns-then-is_reserved-clause-goes
returns-then-is_reserved-clause-goes g c =
    let m = c.args.machine.now in
    let hd = built m.terms c.args.matched.head in
    let bd = built m.terms c.args.matched.body in
    let P = purpose_of c.args.matched.purpose in
    let i = c.args.indicator.now in
    c.raise.ensures.goes (refusal_for P i) (call_for P) (λ j s. matching (setting c.args.host.now m j) P hd bd s i) c.in_ok-ball.ensures
    (λ j s. match_reserved (setting c.args.host.now m j) P hd bd i s (sym c.is_reserved.ensures ∙ c.if-is_reserved.true))

pub stop-requires : goal.stop-requires
stop-requires g c =
    record {
      ready = ready_on (g.B.Base.view c.args.base.now) (g.B.Base.view c.find.new.self) (g.B.Base.serves c.args.base.now) (g.B.Base.serves c.find.new.self) g.B.Base.group
          (g.B.Base.out c.args.base.now) (g.B.Base.out c.find.new.self) g.B.Base.rest g.B.Base.may_visit g.B.Base.looked_at c.args.host.now.budget c.args.machine.now c.requires.ready
          c.in-None.ensures.seen c.in-None.ensures.others c.in-None.ensures.out;
    }

pub returns-in-None-clause-seen : goal.returns-in-None-clause-seen
returns-in-None-clause-seen g c = c.in-None.ensures.seen.grows

pub returns-in-None-clause-goes : goal.returns-in-None-clause-goes
returns-in-None-clause-goes g c =
    let m = c.args.machine.now in
    let hd = built m.terms c.args.matched.head in
    let bd = built m.terms c.args.matched.body in
    let P = purpose_of c.args.matched.purpose in
    let i = c.args.indicator.now in
    let v = g.B.Base.view c.args.base.now in
    let u = g.B.Base.view c.find.new.self in
    on_ok_from c.stop.result c.stop.ensures.goes
    (λ f. makes_after v u u _ c.in-None.ensures.seen
    (makes_goes g.B.Base.rest g.B.Base.may_visit g.B.Base.looked_at g.B.Base.ahead u.causes u u
    (λ j s. taking (setting c.args.host.now m j) s (λ seen t. matching_where (setting c.args.host.now m j) P hd bd i s.front seen t (procedure_named seen i)))
    (λ j s. matching (setting c.args.host.now m j) P hd bd s i) m c.stop.new.machine
    (λ j b s. match_free (setting c.args.host.now m j) P hd bd i s (sym c.is_reserved.ensures ∙ c.if-is_reserved.false))
    (f (λ j before seen t. matching_where (setting c.args.host.now m j) P hd bd i before seen t (procedure_named seen i))
    (λ j b s. match_absent (setting c.args.host.now m j) P hd bd i m.front (take u.seen j) s (sym (seen_in u (λ J. None ≡ procedure_named J i) j c.in-None.ensures.found b))))))

pub match_kind-requires-clause-found : goal.match_kind-requires-clause-found
match_kind-requires-clause-found g c = λ j b.
    sym (seen_in (g.B.Base.view c.find.new.self) (λ J. Some (c.in-Some.procedure, c.in-Some.kind) ≡ procedure_named J c.args.indicator.now) j c.in-Some.ensures.found b)

pub match_kind-requires-clause-host : goal.match_kind-requires-clause-host
match_kind-requires-clause-host g c = host_on c.args.host.now (g.B.Base.view c.args.base.now) (g.B.Base.view c.find.new.self) c.in-Some.ensures.seen.grows c.requires.host

pub match_kind-requires-clause-ready : goal.match_kind-requires-clause-ready
match_kind-requires-clause-ready g c =
    ready_on _ _ (g.B.Base.serves c.args.base.now) (g.B.Base.serves c.find.new.self) g.B.Base.group _ _ g.B.Base.rest g.B.Base.may_visit g.B.Base.looked_at _ _ c.requires.ready
    c.in-Some.ensures.seen c.in-Some.ensures.others c.in-Some.ensures.out

pub returns-in-Some-clause-seen : goal.returns-in-Some-clause-seen
returns-in-Some-clause-seen g c = grows_trans _ (g.B.Base.view c.find.new.self) _ c.in-Some.ensures.seen.grows c.match_kind.ensures.seen

pub returns-in-Some-clause-goes : goal.returns-in-Some-clause-goes
returns-in-Some-clause-goes g c =
    let m = c.args.machine.now in
    let hd = built m.terms c.args.matched.head in
    let bd = built m.terms c.args.matched.body in
    let P = purpose_of c.args.matched.purpose in
    let i = c.args.indicator.now in
    let v = g.B.Base.view c.args.base.now in
    let u = g.B.Base.view c.find.new.self in
    let w = g.B.Base.view c.match_kind.new.base in
    on_ok_weaker c.match_kind.result
    (λ r. makes_after v u w _ c.in-Some.ensures.seen
    (makes_goes g.B.Base.rest g.B.Base.may_visit g.B.Base.looked_at g.B.Base.ahead w.causes u w
    (λ j s. taking (setting c.args.host.now m j) s (λ seen t. matching_where (setting c.args.host.now m j) P hd bd i s.front seen t (procedure_named seen i)))
    (λ j s. matching (setting c.args.host.now m j) P hd bd s i) m c.match_kind.new.machine
    (λ j b s. match_free (setting c.args.host.now m j) P hd bd i s (sym c.is_reserved.ensures ∙ c.if-is_reserved.false))
    r))
    c.match_kind.ensures.goes
