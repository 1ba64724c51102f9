use Rattle.std.proofs.Common.{ap, ◌∙◌, subst}
use Rattle.std.proofs.lemmas.Result.{on_ok_weaker}
use Rattle.prolog_terms.specs.Faults.{fault_tree}
use Rattle.wam_machine.specs.States.{ToShow, not_callable}
use Rattle.wam_machine.specs.Procedures.{clause_at, matching, unless_integer}
use Rattle.wam_machine.specs.Heads.{IsNumber}
use Rattle.wam_machine.specs.Terms.{built}
use Rattle.wam_machine.specs.View.{setting}
use Rattle.wam_machine.proofs.AsksOn.{makes_goes}
use Rattle.wam_machine.proofs.matching.inspect_named.Goals as goal

pub returns-then-is_number-clause-goes : goal.returns-then-is_number-clause-goes
returns-then-is_number-clause-goes g c =
    let m = c.args.machine.now in
    let hd = built m.terms c.args.head in
    let bd = built m.terms c.args.body in
    let i = c.args.indicator.now in
    c.raise.ensures.goes (not_callable bd) clause_at (λ j s. unless_integer clause_at bd s (matching (setting c.args.host.now m j) ToShow hd bd s i))
    (c.in_ok-ball.ensures ∙ ap (fault_tree (not_callable bd)) c.in_ok-at.ensures)
    (λ j s. (subst (IsNumber bd) c.if-is_number.true c.is_number.ensures) clause_at s (matching (setting c.args.host.now m j) ToShow hd bd s i))

pub returns-clause-goes : goal.returns-clause-goes
returns-clause-goes g c =
    let m = c.args.machine.now in
    let hd = built m.terms c.args.head in
    let bd = built m.terms c.args.body in
    let i = c.args.indicator.now in
    let v = g.B.Base.view c.args.base.now in
    let w = g.B.Base.view c.match_clauses.new.base in
    on_ok_weaker c.match_clauses.result
    (λ r. makes_goes g.B.Base.rest g.B.Base.may_visit g.B.Base.looked_at g.B.Base.ahead w.causes v w
    (λ j s. matching (setting c.args.host.now m j) ToShow hd bd s i) (λ j s. unless_integer clause_at bd s (matching (setting c.args.host.now m j) ToShow hd bd s i)) m c.match_clauses.new.machine
    (λ j b s. (subst (IsNumber bd) c.if-is_number.false c.is_number.ensures) clause_at s (matching (setting c.args.host.now m j) ToShow hd bd s i))
    r)
    c.match_clauses.ensures.goes
