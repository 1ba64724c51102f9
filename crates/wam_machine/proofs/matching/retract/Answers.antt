use Rattle.std.proofs.lemmas.Result.{on_ok_weaker}
use Rattle.prolog_clauses.specs.Formed.{parts_of}
use Rattle.wam_machine.specs.Procedures.{retracting}
use Rattle.wam_machine.specs.Terms.{built}
use Rattle.wam_machine.specs.View.{setting}
use Rattle.wam_machine.proofs.AsksOn.{ready_said, left_said, goes_as, goes_said, setting_said, kept_stack}
use Rattle.wam_machine.proofs.Matches.{parts_retract}
use Rattle.wam_machine.proofs.matching.retract.Goals as goal

pub returns-in_err-cells-clause-kept : goal.returns-in_err-cells-clause-kept
returns-in_err-cells-clause-kept g c =
    kept_stack (g.B.Base.serves c.args.base.now) g.B.Base.group (g.B.Base.out c.args.base.now) c.args.machine.now c.parts.new.terms c.requires.ready.kept c.in_err-cells.ensures.err

pub retract_parts-requires-clause-head : goal.retract_parts-requires-clause-head
retract_parts-requires-clause-head g c = c.in_ok-cells.ensures.parts.head

pub retract_parts-requires-clause-body : goal.retract_parts-requires-clause-body
retract_parts-requires-clause-body g c = c.in_ok-cells.ensures.parts.body

pub retract_parts-requires-clause-ready : goal.retract_parts-requires-clause-ready
retract_parts-requires-clause-ready g c =
    let grown = c.in_ok-cells.ensures.grown in
    ready_said c.args.machine.now c.parts.new.terms grown.said_is (g.B.Base.view c.args.base.now) (g.B.Base.serves c.args.base.now) g.B.Base.group (g.B.Base.out c.args.base.now)
    g.B.Base.rest g.B.Base.may_visit g.B.Base.looked_at c.args.host.now.budget c.requires.ready grown.terms

pub returns-clause-left : goal.returns-clause-left
returns-clause-left g c =
    on_ok_weaker c.retract_parts.result
    (λ l. left_said c.args.machine.now c.parts.new.terms c.in_ok-cells.ensures.grown.said_is c.args.host.now.budget (g.B.Base.view c.retract_parts.new.base) c.retract_parts.new.machine l)
    c.retract_parts.ensures.left

pub returns-clause-goes : goal.returns-clause-goes
returns-clause-goes g c =
    let m = c.args.machine.now in
    let t = c.parts.new.terms in
    let same = c.in_ok-cells.ensures.grown.said_is in
    let e = c.in_ok-cells.ensures.parts in
    let n = c.retract_parts.new.machine in
    let w = g.B.Base.view c.retract_parts.new.base in
    let p = parts_of (built m.terms c.args.clause) in
    on_ok_weaker c.retract_parts.result
    (λ r. record {
      made = r.made;
      own = r.own;
      so = λ j b. goes_said m t same g.B.Base.rest g.B.Base.may_visit g.B.Base.looked_at g.B.Base.ahead w.causes r.made (retracting (setting c.args.host.now m j) p) j n
          (goes_as g.B.Base.rest g.B.Base.may_visit g.B.Base.looked_at g.B.Base.ahead w.causes r.made _ (retracting (setting c.args.host.now m j) p) j (record m { terms = t }) n
          (λ s. parts_retract (setting c.args.host.now (record m { terms = t }) j) (setting c.args.host.now m j) p _ _ s (setting_said m t same c.args.host.now j) e.head_is e.body_is)
          (r.so j b));
    })
    c.retract_parts.ensures.goes
