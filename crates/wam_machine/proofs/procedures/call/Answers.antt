use Rattle.std.proofs.Common.{◌≡◌, ◌∙◌, ◌++◌, List, sym, ap, take, None, Some}
use Rattle.prolog_terms.specs.declared.entry.Entry.{Entry}
use Rattle.journals.specs.Journal.{procedure_named, number_of}
use Rattle.wam_machine.specs.Procedures.{called}
use Rattle.wam_machine.specs.Terms.{built}
use Rattle.wam_machine.specs.View.{setting}
use Rattle.wam_machine.proofs.Begins.{begins_before, looks_trans, grows_trans, host_on, makes_none, seen_in}
use Rattle.wam_machine.proofs.Looked.{searches_called}
use Rattle.wam_machine.proofs.Named.{procedure_within}
use Rattle.wam_machine.proofs.Ready.{ready_on, absent_number, found_number}
use Rattle.wam_machine.proofs.procedures.call.Goals as goal

pub miss-requires-clause-absent : goal.miss-requires-clause-absent
miss-requires-clause-absent g c = λ j b.
    absent_number (take (g.B.Base.view c.find.new.self).seen j) c.args.indicator.now (sym (seen_in (g.B.Base.view c.find.new.self) (λ J. None ≡ procedure_named J c.args.indicator.now) j c.in-None.ensures.found b))

pub miss-requires-clause-ready : goal.miss-requires-clause-ready
miss-requires-clause-ready g c =
    ready_on _ _ (g.B.Base.serves c.args.base.now) (g.B.Base.serves c.find.new.self) g.B.Base.group _ _ g.B.Base.rest g.B.Base.may_visit g.B.Base.looked_at _ _ c.requires.ready
    c.in-None.ensures.seen c.in-None.ensures.others c.in-None.ensures.out

pub returns-in_err-miss-in-None-clause-seen : goal.returns-in_err-miss-in-None-clause-seen
returns-in_err-miss-in-None-clause-seen g c = (looks_trans _ _ _ c.in-None.ensures.seen c.in_err-miss-in-None.ensures.seen).grows

pub look-requires-clause-found : goal.look-requires-clause-found
look-requires-clause-found g c = λ j b.
    procedure_within (take (g.B.Base.view c.find.new.self).seen j) c.args.indicator.now c.in-Some.procedure
    (found_number (take (g.B.Base.view c.find.new.self).seen j) c.args.indicator.now c.in-Some.procedure c.in-Some._kind
    (sym (seen_in (g.B.Base.view c.find.new.self) (λ J. Some (c.in-Some.procedure, c.in-Some._kind) ≡ procedure_named J c.args.indicator.now) j c.in-Some.ensures.found b)))

pub look-requires-clause-ready : goal.look-requires-clause-ready
look-requires-clause-ready g c =
    ready_on _ _ (g.B.Base.serves c.args.base.now) (g.B.Base.serves c.find.new.self) g.B.Base.group _ _ g.B.Base.rest g.B.Base.may_visit g.B.Base.looked_at _ _ c.requires.ready
    c.in-Some.ensures.seen c.in-Some.ensures.others c.in-Some.ensures.out

pub returns-in_err-look-in-Some-clause-seen : goal.returns-in_err-look-in-Some-clause-seen
returns-in_err-look-in-Some-clause-seen g c = grows_trans _ _ _ c.in-Some.ensures.seen.grows c.in_err-look-in-Some.ensures.seen

pub returns-in_ok-miss-in-None-clause-seen : goal.returns-in_ok-miss-in-None-clause-seen
returns-in_ok-miss-in-None-clause-seen g c = (looks_trans _ _ _ c.in-None.ensures.seen c.in_ok-miss-in-None.ensures.seen).grows

pub returns-in_ok-miss-in-None-clause-goes : goal.returns-in_ok-miss-in-None-clause-goes
returns-in_ok-miss-in-None-clause-goes g c =
    makes_none _ _ _ (looks_trans _ _ _ c.in-None.ensures.seen c.in_ok-miss-in-None.ensures.seen)
    (λ j b. c.in_ok-miss-in-None.ensures.goes (built c.args.machine.now.terms c.args.goal) j b)

pub look-requires-clause-host : goal.look-requires-clause-host
look-requires-clause-host g c = host_on c.args.host.now (g.B.Base.view c.args.base.now) (g.B.Base.view c.find.new.self) c.in-Some.ensures.seen.grows c.requires.host

pub returns-in_ok-look-in-Some-clause-seen : goal.returns-in_ok-look-in-Some-clause-seen
returns-in_ok-look-in-Some-clause-seen g c = grows_trans _ _ _ c.in-Some.ensures.seen.grows c.in_ok-look-in-Some.ensures.seen

pub returns-in_ok-look-in-Some-clause-goes : goal.returns-in_ok-look-in-Some-clause-goes
returns-in_ok-look-in-Some-clause-goes g c =
    let m = c.args.machine.now in
    let u = g.B.Base.view c.find.new.self in
    let e = c.in_ok-look-in-Some.ensures in
    let goal = built m.terms c.args.goal in
    let i = c.args.indicator.now in
    record {
      made = e.goes.made;
      own = e.goes.own ∙ ap (λ (l : List Entry). l ++ e.goes.made) c.in-Some.ensures.seen.own;
      so = λ j b.
          let x = setting c.args.host.now m j in
          let found : number_of (take u.seen j) i ≡ Some c.in-Some.procedure =
          found_number (take u.seen j) i c.in-Some.procedure c.in-Some._kind
          (sym (seen_in u (λ J. Some (c.in-Some.procedure, c.in-Some._kind) ≡ procedure_named J i) j c.in-Some.ensures.found (begins_before _ _ j e.seen b))) in
          e.goes.so j b (λ before seen s. called x goal i before seen s (number_of seen i)) (searches_called x goal i u.seen c.in-Some.procedure found);
    }
