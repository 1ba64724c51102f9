use Rattle.std.proofs.Common.{sym, ap₂, ◌∙◌}
use Rattle.std.specs.Cmp.Lexicographic.{slice_cmp}
use Rattle.prolog_terms.specs.Order.{node_order}
use Rattle.prolog_terms.proofs.Ordered.{by_nodes}
use Rattle.prolog_terms.proofs.term.Term.compare.Goals as goal

pub returns : goal.returns
returns c =
    c.compare_all.ensures ∙ ap₂ (slice_cmp node_order) c.nodes.ensures.nodes c.nodes-2.ensures.nodes ∙ sym (by_nodes c.args.self.now c.args.other.now)
