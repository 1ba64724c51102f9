use Rattle.std.proofs.Common.{sym, ◌∙◌, subst}
use Rattle.prolog_terms.specs.Operators.{Table}
use Rattle.prolog_session.specs.Bases.{sizes_of}
use Rattle.prolog_session.specs.Runs.{AreRunsBehind}
use Rattle.prolog_session.proofs.Under.{no_refusal, base_legal, refused_under, ran_under}
use Rattle.prolog_session.proofs.prepare.prepare.Goals as goal

pub returns-in-Some-refused-clause-prepares : goal.returns-in-Some-refused-clause-prepares
returns-in-Some-refused-clause-prepares g c =
    let l = c.in_ok-load.ensures in
    refused_under _ _ _ _ _ _ _ _ _ _ _ _ _ c.in-Whole.ensures.reads c.deref.ensures.value c.into_entries.ensures (base_legal _ _ l.base c.front-front.ensures.sound) l.runs l.operators l.refused
    c.in-Some-refused.is (sym c.in_ok-command.ensures.command ∙ c.in-Some.is)

pub returns-clause-prepares : goal.returns-clause-prepares
returns-clause-prepares g c =
    let l = c.in_ok-load.ensures in
    let r = c.in_ok-ran.ensures in
    ran_under _ _ _ _ _ _ _ _ _ _ _ _ _ c.in-Whole.ensures.reads c.deref.ensures.value l.base c.front-front.ensures.sound l.runs (r.operators ∙ l.operators) l.refused
    (no_refusal _ c.in_default.not-Some) (sym c.in_ok-command.ensures.command ∙ c.in-Some.is)
    (subst (λ (o : Table). AreRunsBehind (sizes_of c.in_ok-load.load.base) o c.in_ok-load.load.runs c.in_ok-load.load.base.entries c.in-Some.command c.in_ok-ran.ran.journal c.in_ok-ran.ran.runs) (sym r.operators) r.runs)
    r.legal
