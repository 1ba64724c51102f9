use Rattle.std.proofs.Common.{take}
use Rattle.std.proofs.lemmas.Result.{on_ok_weaker}
use Rattle.journals.specs.Journal.{procedure_named}
use Rattle.wam_machine.specs.Procedures.{matching_where}
use Rattle.wam_machine.specs.Terms.{built, purpose_of}
use Rattle.wam_machine.specs.View.{setting}
use Rattle.wam_machine.proofs.Begins.{begins_before}
use Rattle.wam_machine.proofs.Matches.{on_ok_from, dynamic_found, within_found, for_any, match_static, match_search}
use Rattle.wam_machine.proofs.matching.match_kind.Goals as goal

pub returns-in_ok-ball-in-Static-clause-goes : goal.returns-in_ok-ball-in-Static-clause-goes
returns-in_ok-ball-in-Static-clause-goes g c =
    let m = c.args.machine.now in
    let hd = built m.terms c.args.matched.head in
    let bd = built m.terms c.args.matched.body in
    let P = purpose_of c.args.matched.purpose in
    let i = c.args.indicator.now in
    let v = g.B.Base.view c.args.base.now in
    on_ok_from c.stop.result c.stop.ensures.goes
    (λ f. f (λ j before seen t. matching_where (setting c.args.host.now m j) P hd bd i before seen t (procedure_named seen i))
    (λ j b s. match_static (setting c.args.host.now m j) P hd bd i m.front (take v.seen j) s c.args.procedure c.args.kind c.in_ok-ball-in-Static.ball (c.requires.found j b) c.in-Static.is c.in_ok-ball-in-Static.ensures))

pub look-requires-clause-found : goal.look-requires-clause-found
look-requires-clause-found g c = λ j b. within_found (take (g.B.Base.view c.args.base.now).seen j) c.args.indicator.now c.args.procedure c.args.kind (c.requires.found j b)

pub look-requires-clause-may : goal.look-requires-clause-may
look-requires-clause-may g c = λ j b. for_any (purpose_of c.args.matched.purpose) (take (g.B.Base.view c.args.base.now).seen j) c.args.procedure (dynamic_found (take (g.B.Base.view c.args.base.now).seen j) c.args.indicator.now c.args.procedure c.args.kind c.in-Dynamic.is (c.requires.found j b))

pub returns-in-Dynamic-clause-goes : goal.returns-in-Dynamic-clause-goes
returns-in-Dynamic-clause-goes g c =
    let m = c.args.machine.now in
    let hd = built m.terms c.args.matched.head in
    let bd = built m.terms c.args.matched.body in
    let P = purpose_of c.args.matched.purpose in
    let i = c.args.indicator.now in
    let v = g.B.Base.view c.args.base.now in
    let w = g.B.Base.view c.look.new.base in
    on_ok_weaker c.look.result
    (λ r. record {
      made = r.made;
      own = r.own;
      so = λ j b. r.so j b (λ before seen t. matching_where (setting c.args.host.now m j) P hd bd i before seen t (procedure_named seen i))
          (match_search (setting c.args.host.now m j) P hd bd i v.seen c.args.procedure c.args.kind c.in-Dynamic.is (c.requires.found j (begins_before v w j c.look.ensures.seen b)));
    })
    c.look.ensures.goes
