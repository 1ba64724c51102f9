use Rattle.std.proofs.Common.{take}
use Rattle.std.proofs.lemmas.Result.{on_ok_weaker}
use Rattle.std.specs.Prelude.{option_map}
use Rattle.journals.specs.Journal.{procedure_named}
use Rattle.wam_machine.specs.Procedures.{sweeping_where}
use Rattle.wam_machine.specs.Terms.{built}
use Rattle.wam_machine.specs.View.{setting}
use Rattle.wam_machine.proofs.Begins.{begins_before}
use Rattle.wam_machine.proofs.Matches.{on_ok_from, dynamic_found}
use Rattle.wam_machine.proofs.SweptKinds.{sweep_static, sweep_search}
use Rattle.wam_machine.proofs.sweeping.sweep_kind.Goals as goal

pub returns-in_ok-ball-in-Static-clause-goes : goal.returns-in_ok-ball-in-Static-clause-goes
returns-in_ok-ball-in-Static-clause-goes g c =
    let m = c.args.machine.now in
    let G = option_map (built m.terms) c.args.goal in
    let i = c.args.indicator.now in
    let v = g.B.Base.view c.args.base.now in
    on_ok_from c.stop.result c.stop.ensures.goes
    (λ f. f (λ j before seen t. sweeping_where (setting c.args.host.now m j) i G before seen t (procedure_named seen i))
    (λ j b s. sweep_static (setting c.args.host.now m j) i G m.front (take v.seen j) s c.args.procedure c.args.kind c.in_ok-ball-in-Static.ball (c.requires.found j b) c.in-Static.is
    (c.in_ok-ball-in-Static.ensures (built m.terms))))

pub sweep-requires-clause-dynamic : goal.sweep-requires-clause-dynamic
sweep-requires-clause-dynamic g c = λ j b. dynamic_found (take (g.B.Base.view c.args.base.now).seen j) c.args.indicator.now c.args.procedure c.args.kind c.in-Dynamic.is (c.requires.found j b)

pub returns-in-Dynamic-clause-goes : goal.returns-in-Dynamic-clause-goes
returns-in-Dynamic-clause-goes g c =
    let m = c.args.machine.now in
    let G = option_map (built m.terms) c.args.goal in
    let i = c.args.indicator.now in
    let v = g.B.Base.view c.args.base.now in
    let w = g.B.Base.view c.sweep.new.base in
    on_ok_weaker c.sweep.result
    (λ r. record {
      made = r.made;
      own = r.own;
      so = λ j b. r.so j b (λ before seen t. sweeping_where (setting c.args.host.now m j) i G before seen t (procedure_named seen i))
          (sweep_search (setting c.args.host.now m j) i G v.seen c.args.procedure c.args.kind c.in-Dynamic.is (c.requires.found j (begins_before v w j c.sweep.ensures.seen b)));
    })
    c.sweep.ensures.goes
