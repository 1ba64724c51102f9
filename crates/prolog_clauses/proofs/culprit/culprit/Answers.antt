use Rattle.prolog_clauses.proofs.Culprits.{culprit_prefix, culprit_is}
use Rattle.prolog_clauses.proofs.culprit.culprit.Goals as goal

pub term_of-requires : goal.term_of-requires
term_of-requires c =
    culprit_prefix c.args.nodes.now c.new-numbers.result c.in_ok-nodes.nodes.items c.requires c.new-numbers.ensures c.in_ok-nodes.ensures.nodes

pub returns : goal.returns
returns c =
    culprit_is c.args.nodes.now c.new-numbers.result c.in_ok-nodes.nodes.items c.term_of.result c.requires c.new-numbers.ensures c.in_ok-nodes.ensures.nodes c.term_of.ensures
