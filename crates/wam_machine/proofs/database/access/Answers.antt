use Rattle.std.proofs.Common.{ap, subst}
use Rattle.std.proofs.lemmas.Result.{on_ok_weaker}
use Rattle.prolog_clauses.specs.Formed.{parts_of}
use Rattle.wam_machine.specs.Goals.{access_in, IsOfAccess}
use Rattle.wam_machine.specs.Procedures.{accessing, inspecting, retracting, clearing, abolishing}
use Rattle.wam_machine.specs.Naming.{naming_of}
use Rattle.wam_machine.specs.Terms.{IsBuilt, built}
use Rattle.wam_machine.specs.View.{setting}
use Rattle.wam_machine.proofs.AccessCases.{access_inspects, access_retracts, access_clears, access_abolishes}
use Rattle.wam_machine.proofs.AskedMoves.{asked_kept, asked_left, asked_goes, asserted}
use Rattle.wam_machine.proofs.AsksOn.{makes_goes}
use Rattle.wam_machine.proofs.database.access.Goals as goal

pub assert-requires-clause-term : goal.assert-requires-clause-term
assert-requires-clause-term g c = subst (IsOfAccess (IsBuilt c.args.machine.now.terms)) c.in-Assert.is c.requires.access

pub returns-in-Assert-clause-kept : goal.returns-in-Assert-clause-kept
returns-in-Assert-clause-kept g c =
    asked_kept (g.B.Base.view c.args.base.now) (g.B.Base.view c.assert.new.base) c.args.machine.now c.assert.new.machine c.assert.ensures.same
    (g.B.Base.serves c.args.base.now) (g.B.Base.serves c.assert.new.base) g.B.Base.group (g.B.Base.out c.args.base.now) (g.B.Base.out c.assert.new.base)
    c.requires.ready.kept c.assert.ensures.others c.assert.ensures.out

pub returns-in-Assert-clause-left : goal.returns-in-Assert-clause-left
returns-in-Assert-clause-left g c =
    on_ok_weaker c.assert.result
    (λ a. asked_left (g.B.Base.view c.args.base.now) (g.B.Base.view c.assert.new.base) c.args.machine.now c.assert.new.machine c.assert.ensures.same
    (g.B.Base.serves c.args.base.now) g.B.Base.group (g.B.Base.out c.args.base.now) g.B.Base.rest g.B.Base.may_visit g.B.Base.looked_at c.args.host.now.budget c.requires.ready a.front)
    c.assert.ensures.asks

pub returns-in-Assert-clause-goes : goal.returns-in-Assert-clause-goes
returns-in-Assert-clause-goes g c =
    let v = g.B.Base.view c.args.base.now in
    let w = g.B.Base.view c.assert.new.base in
    let m = c.args.machine.now in
    on_ok_weaker c.assert.result
    (λ a. asked_goes v w m c.assert.new.machine c.assert.ensures.same (g.B.Base.serves c.args.base.now) g.B.Base.group (g.B.Base.out c.args.base.now) g.B.Base.rest g.B.Base.may_visit g.B.Base.looked_at
    c.args.host.now.budget c.requires.ready g.B.Base.ahead (λ j. accessing (setting c.args.host.now m j) (access_in (built m.terms) c.args.access)) c.assert.ensures.seen
    (asserted v w c.args.host.now m c.assert.new.machine c.args.access c.in-Assert.end c.in-Assert.clause a (ap (access_in (built m.terms)) c.in-Assert.is)))
    c.assert.ensures.asks

pub inspect-requires-clause-head : goal.inspect-requires-clause-head
inspect-requires-clause-head g c = (subst (IsOfAccess (IsBuilt c.args.machine.now.terms)) c.in-Inspect.is c.requires.access).0

pub inspect-requires-clause-body : goal.inspect-requires-clause-body
inspect-requires-clause-body g c = (subst (IsOfAccess (IsBuilt c.args.machine.now.terms)) c.in-Inspect.is c.requires.access).1

pub returns-in-Inspect-clause-goes : goal.returns-in-Inspect-clause-goes
returns-in-Inspect-clause-goes g c =
    let m = c.args.machine.now in
    let w = g.B.Base.view c.inspect.new.base in
    on_ok_weaker c.inspect.result
    (λ r. makes_goes g.B.Base.rest g.B.Base.may_visit g.B.Base.looked_at g.B.Base.ahead w.causes (g.B.Base.view c.args.base.now) w
    (λ j s. inspecting (setting c.args.host.now m j) (built m.terms c.in-Inspect.head) (built m.terms c.in-Inspect.body) s) (λ j. accessing (setting c.args.host.now m j) (access_in (built m.terms) c.args.access)) m c.inspect.new.machine
    (λ j b s. access_inspects (setting c.args.host.now m j) (built m.terms) c.args.access s c.in-Inspect.head c.in-Inspect.body c.in-Inspect.is)
    r)
    c.inspect.ensures.goes

pub retract-requires-clause-clause : goal.retract-requires-clause-clause
retract-requires-clause-clause g c = subst (IsOfAccess (IsBuilt c.args.machine.now.terms)) c.in-Retract.is c.requires.access

pub returns-in-Retract-clause-goes : goal.returns-in-Retract-clause-goes
returns-in-Retract-clause-goes g c =
    let m = c.args.machine.now in
    let w = g.B.Base.view c.retract.new.base in
    on_ok_weaker c.retract.result
    (λ r. makes_goes g.B.Base.rest g.B.Base.may_visit g.B.Base.looked_at g.B.Base.ahead w.causes (g.B.Base.view c.args.base.now) w
    (λ j s. retracting (setting c.args.host.now m j) (parts_of (built m.terms c.in-Retract.clause)) s) (λ j. accessing (setting c.args.host.now m j) (access_in (built m.terms) c.args.access)) m c.retract.new.machine
    (λ j b s. access_retracts (setting c.args.host.now m j) (built m.terms) c.args.access s c.in-Retract.clause c.in-Retract.is)
    r)
    c.retract.ensures.goes

pub retract_all-requires-clause-head : goal.retract_all-requires-clause-head
retract_all-requires-clause-head g c = subst (IsOfAccess (IsBuilt c.args.machine.now.terms)) c.in-RetractAll.is c.requires.access

pub returns-in-RetractAll-clause-goes : goal.returns-in-RetractAll-clause-goes
returns-in-RetractAll-clause-goes g c =
    let m = c.args.machine.now in
    let w = g.B.Base.view c.retract_all.new.base in
    on_ok_weaker c.retract_all.result
    (λ r. makes_goes g.B.Base.rest g.B.Base.may_visit g.B.Base.looked_at g.B.Base.ahead w.causes (g.B.Base.view c.args.base.now) w
    (λ j s. clearing (setting c.args.host.now m j) (built m.terms c.in-RetractAll.head) s) (λ j. accessing (setting c.args.host.now m j) (access_in (built m.terms) c.args.access)) m c.retract_all.new.machine
    (λ j b s. access_clears (setting c.args.host.now m j) (built m.terms) c.args.access s c.in-RetractAll.head c.in-RetractAll.is)
    r)
    c.retract_all.ensures.goes

pub abolish-requires-clause-named : goal.abolish-requires-clause-named
abolish-requires-clause-named g c = subst (IsOfAccess (IsBuilt c.args.machine.now.terms)) c.in-Abolish.is c.requires.access

pub returns-in-Abolish-clause-goes : goal.returns-in-Abolish-clause-goes
returns-in-Abolish-clause-goes g c =
    let m = c.args.machine.now in
    let w = g.B.Base.view c.abolish.new.base in
    on_ok_weaker c.abolish.result
    (λ r. makes_goes g.B.Base.rest g.B.Base.may_visit g.B.Base.looked_at g.B.Base.ahead w.causes (g.B.Base.view c.args.base.now) w
    (λ j s. abolishing (setting c.args.host.now m j) s (naming_of (built m.terms c.in-Abolish.named))) (λ j. accessing (setting c.args.host.now m j) (access_in (built m.terms) c.args.access)) m c.abolish.new.machine
    (λ j b s. access_abolishes (setting c.args.host.now m j) (built m.terms) c.args.access s c.in-Abolish.named c.in-Abolish.is)
    r)
    c.abolish.ensures.goes
