use Rattle.std.proofs.Common.{[], ◌∷◌, ◌++◌, sym, ap, ◌∙◌}
use Rattle.prolog_terms.specs.Tree.{atom}
use Rattle.prolog_terms.specs.declared.node.Node.TheVariants.{Atom}
use Rattle.prolog_clauses.proofs.table.atom.Goals as goal

pub from_prefix-requires : goal.from_prefix-requires
from_prefix-requires c =
    let items =
    c.in_ok-push.ensures.items
    ∙ (ap (λ ns. ns ++ Atom c.in_ok-clone.field-0 ∷ []) c.new-nodes.ensures.items ∙ ap (λ a. Atom a ∷ []) c.in_ok-clone.ensures.cases) in
    (atom c.args.name.now, (tt, sym items))
