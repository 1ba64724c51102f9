use Rattle.std.proofs.Common.{ap, ◌∙◌, subst}
use Rattle.std.proofs.lemmas.Result.{on_ok_weaker}
use Rattle.prolog_terms.specs.Faults.{fault_tree}
use Rattle.prolog_terms.specs.declared.fault.Fault.TheVariants.{Instantiation}
use Rattle.wam_machine.specs.States.{not_callable, ToShow}
use Rattle.wam_machine.specs.Procedures.{clause_at, inspecting, matching, unless_integer}
use Rattle.wam_machine.specs.Heads.{IsHead}
use Rattle.wam_machine.specs.Terms.{built}
use Rattle.wam_machine.specs.View.{setting}
use Rattle.wam_machine.proofs.AsksOn.{makes_goes}
use Rattle.wam_machine.proofs.matching.inspect.Goals as goal

pub returns-in-Unbound-clause-goes : goal.returns-in-Unbound-clause-goes
returns-in-Unbound-clause-goes g c =
    let m = c.args.machine.now in
    let hd = built m.terms c.args.head in
    let bd = built m.terms c.args.body in
    c.raise.ensures.goes Instantiation clause_at (λ j s. inspecting (setting c.args.host.now m j) hd bd s) (c.in_ok-ball-in-Unbound.ensures ∙ ap (fault_tree Instantiation) c.in_ok-at.ensures)
    (λ j s. (subst (IsHead hd) c.in-Unbound.is c.in_ok-found.ensures) clause_at s (λ i. unless_integer clause_at bd s (matching (setting c.args.host.now m j) ToShow hd bd s i)))

pub returns-in-Number-clause-goes : goal.returns-in-Number-clause-goes
returns-in-Number-clause-goes g c =
    let m = c.args.machine.now in
    let hd = built m.terms c.args.head in
    let bd = built m.terms c.args.body in
    c.raise-in-Number.ensures.goes (not_callable hd) clause_at (λ j s. inspecting (setting c.args.host.now m j) hd bd s) (c.in_ok-ball-in-Number.ensures ∙ ap (fault_tree (not_callable hd)) c.in_ok-at.ensures)
    (λ j s. (subst (IsHead hd) c.in-Number.is c.in_ok-found.ensures) clause_at s (λ i. unless_integer clause_at bd s (matching (setting c.args.host.now m j) ToShow hd bd s i)))

pub returns-clause-goes : goal.returns-clause-goes
returns-clause-goes g c =
    let m = c.args.machine.now in
    let hd = built m.terms c.args.head in
    let bd = built m.terms c.args.body in
    let v = g.B.Base.view c.args.base.now in
    let w = g.B.Base.view c.inspect_named.new.base in
    on_ok_weaker c.inspect_named.result
    (λ r. makes_goes g.B.Base.rest g.B.Base.may_visit g.B.Base.looked_at g.B.Base.ahead w.causes v w
    (λ j s. unless_integer clause_at bd s (matching (setting c.args.host.now m j) ToShow hd bd s c.in-Named.indicator)) (λ j s. inspecting (setting c.args.host.now m j) hd bd s) m c.inspect_named.new.machine
    (λ j b s. (subst (IsHead hd) c.in-Named.is c.in_ok-found.ensures) clause_at s (λ i. unless_integer clause_at bd s (matching (setting c.args.host.now m j) ToShow hd bd s i)))
    r)
    c.inspect_named.ensures.goes
