use Rattle.prolog_clauses.proofs.Arguments.{once_put, once_prefix, once_is}
use Rattle.prolog_clauses.proofs.directive.once.Goals as goal

pub term_of-requires : goal.term_of-requires
term_of-requires c =
    once_prefix c.args.goal.now c.put_nodes.new.nodes.items c.requires
    (once_put _ c.new-nodes.result.items c.push.new.self.items c.put_nodes.new.nodes.items c.args.goal.now c.new-nodes.ensures.items c.in_ok-push.ensures.items c.in_ok-of.ensures c.in_ok-put_nodes.ensures)

pub returns : goal.returns
returns c =
    once_is c.args.goal.now c.put_nodes.new.nodes.items c.term_of.result c.requires
    (once_put _ c.new-nodes.result.items c.push.new.self.items c.put_nodes.new.nodes.items c.args.goal.now c.new-nodes.ensures.items c.in_ok-push.ensures.items c.in_ok-of.ensures c.in_ok-put_nodes.ensures)
    c.term_of.ensures
