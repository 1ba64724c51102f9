use Rattle.std.proofs.Common.{ap, subst, map, ◌∙◌, List}
use Rattle.wam_machine.specs.Goals.{IsOfKind, part_now}
use Rattle.wam_machine.specs.Terms.{built}
use Rattle.wam_machine.specs.declared.bodies.Part.{Part}
use Rattle.wam_machine.proofs.MadeBodies.{body-itself, body-whole, body-made}
use Rattle.wam_machine.proofs.bodies.body.Goals as goal

pub joined-requires-clause-whole : goal.joined-requires-clause-whole
joined-requires-clause-whole g c =
    let t = c.args.terms.now in
    body-whole t (built t c.args.goal) c.as_slice.result.now (ap (λ (ps : List Part). map (part_now t) ps) c.as_slice.ensures.value ∙ c.in_ok-parts-in-Open.ensures.parts)
    (subst (IsOfKind (built t c.args.goal)) c.in-Open.is c.in_ok-body_kind.ensures)

pub returns-in-Body-clause-body : goal.returns-in-Body-clause-body
returns-in-Body-clause-body g c =
    let t = c.args.terms.now in
    body-itself t c.args.goal c.requires.goal (subst (IsOfKind (built t c.args.goal)) c.in-Body.is c.in_ok-body_kind.ensures)

pub returns-in_ok-made-in-Open-clause-body : goal.returns-in_ok-made-in-Open-clause-body
returns-in_ok-made-in-Open-clause-body g c =
    let t = c.args.terms.now in
    body-made t c.joined.new.terms (built t c.args.goal) c.as_slice.result.now c.in_ok-made-in-Open.made
    (ap (λ (ps : List Part). map (part_now t) ps) c.as_slice.ensures.value ∙ c.in_ok-parts-in-Open.ensures.parts)
    c.in_ok-made-in-Open.ensures.cell c.in_ok-made-in-Open.ensures.term
