use Rattle.std.proofs.Common.{ap, ◌∙◌, take, drop}
use Rattle.prolog_clauses.proofs.Lists.{front_is, back_is}
use Rattle.prolog_clauses.proofs.elements.split_tree.Goals as goal

pub returns-clause-front : goal.returns-clause-front
returns-clause-front c t ts e =
    c.split_at.ensures.front ∙ (ap (λ k. take k c.args.nodes.now) c.tree_len.ensures.value ∙ front_is t ts c.args.nodes.now e)

pub returns-clause-back : goal.returns-clause-back
returns-clause-back c t ts e =
    c.split_at.ensures.back ∙ (ap (λ k. drop k c.args.nodes.now) c.tree_len.ensures.value ∙ back_is t ts c.args.nodes.now e)
