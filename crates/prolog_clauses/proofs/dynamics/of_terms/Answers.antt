use Rattle.std.proofs.Common.{sym, ◌∙◌}
use Rattle.prolog_terms.specs.Flat.{tree}
use Rattle.prolog_clauses.specs.Dynamics as spec
use Rattle.prolog_clauses.specs.Procedures.{terms_left}
use Rattle.prolog_clauses.proofs.Indicated.{indicated, refused, all_indicated}
use Rattle.prolog_clauses.proofs.dynamics.of_terms.Goals as goal

pub returns-in-None : goal.returns-in-None
returns-in-None c =
    let form = c.args.form in
    refused c.terms.indicators (tree c.in-Some.term.now) (terms_left form c.in-Some.rest.now) (terms_left form c.terms.left.now) (spec.by_specs (terms_left form c.args.nodes.now)) c.in_ok-fault-in-None.fault
    (sym c.in-None.is ∙ c.in_ok-indicator.ensures)
    c.in-Some.ensures.next
    c.in_ok-fault-in-None.ensures
    c.terms.invariant.same

pub terms-preserved : goal.terms-preserved
terms-preserved c =
    let form = c.args.form in
    record {
      left = c.in-Some.ensures.rest;
      same =
          indicated c.terms.indicators c.push.new.self c.in-Some-2.indicator (tree c.in-Some.term.now) (terms_left form c.in-Some.rest.now) (terms_left form c.terms.left.now) (spec.by_specs (terms_left form c.args.nodes.now))
          c.in_ok-push-in-Some-2.ensures
          (sym c.in-Some-2.is ∙ c.in_ok-indicator.ensures)
          c.in-Some.ensures.next
          c.terms.invariant.same;
    }

pub returns : goal.returns
returns c =
    let form = c.args.form in
    all_indicated c.terms.indicators (terms_left form c.terms.left.now) (spec.by_specs (terms_left form c.args.nodes.now)) c.in_default.ensures.next c.terms.invariant.same
