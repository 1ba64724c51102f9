use Rattle.std.proofs.Common.{sym, ap, ◌∙◌}
use Rattle.prolog_terms.specs.Flat.{tree}
use Rattle.prolog_clauses.specs.Formed as spec
use Rattle.prolog_clauses.specs.declared.clause.Formed.TheVariants.{Clause as Made}
use Rattle.prolog_terms.proofs.Converted.{is_same}
use Rattle.prolog_clauses.proofs.clause.with_body.Goals as goal

pub returns-then-is_body : goal.returns-then-is_body
returns-then-is_body c =
    ap Made c.in_ok-numbered.ensures
    ∙ ap (spec.with_body (spec.rule (tree c.args.head.now) (tree c.args.body.now))) (sym (is_same (tree c.args.body.now) (sym c.is_body.ensures ∙ c.if-is_body.true)))
