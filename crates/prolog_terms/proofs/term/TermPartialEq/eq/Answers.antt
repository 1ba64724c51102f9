use Rattle.std.proofs.Common.{ap, sym, ◌∙◌}
use Rattle.std.specs.Cmp.Lexicographic.{pointwise_decides}
use Rattle.prolog_terms.specs.Flat.{nodes, tree}
use Rattle.prolog_terms.proofs.Equal.{eq-decides}
use Rattle.prolog_terms.proofs.term.TermPartialEq.eq.Goals as goal

pub returns-clause-same : goal.returns-clause-same
returns-clause-same c =
    let d = pointwise_decides eq-decides c.self.inside.nodes c.other.inside.nodes in (
      λ h. sym c.self.view_is ∙ ap tree (d.0 (sym c.eq.ensures ∙ h)) ∙ c.other.view_is,
      λ e. c.eq.ensures ∙ d.1 (sym c.self.invariant.spelled ∙ ap nodes (c.self.view_is ∙ e ∙ sym c.other.view_is) ∙ c.other.invariant.spelled),
    )
