use Rattle.std.proofs.Common.{length, sym, ◌∙◌}
use Rattle.term_store.specs.Views.{Looks}
use Rattle.term_store.proofs.Compared.{looks-named, compared-one, compared-found, compared-args}
use Rattle.term_store.proofs.store.Store.compare_pair.Goals as goal
use Rattle.term_store.proofs.store.Store.compare_pair.Goals.{After-node-second}

left : (c : After-node-second) → Looks c.args.self.now c.args.pair.left c.node-first.result
left c = c.deref-left.ensures.looks c.node-first.result c.node-first.ensures.sees

right : (c : After-node-second) → Looks c.args.self.now c.args.pair.right c.node-second.result
right c = c.deref-right.ensures.looks c.node-second.result c.node-second.ensures.sees

pub returns-then-are_one : goal.returns-then-are_one
returns-then-are_one c =
    compared-one c.args.names.now c.args.self.now c.args.pair.left c.args.pair.right c.deref-left.result c.deref-right.result c.args.todo.now.items
    (c.deref-left.ensures.term c.args.names.now) (c.deref-right.ensures.term c.args.names.now) (c.are_one.ensures c.if-are_one.true)

pub compare_views-found-requires-clause-left : goal.compare_views-found-requires-clause-left
compare_views-found-requires-clause-left c =
    let d = (goal.at.compare_views-found-requires-clause-left c).After-node-second in
    (looks-named c.args.self.now (length c.args.names.now) c.args.pair.left c.node-first.result c.known.ensures c.requires.named c.requires.left.1 (left d)).0

pub compare_views-found-requires-clause-right : goal.compare_views-found-requires-clause-right
compare_views-found-requires-clause-right c =
    let d = (goal.at.compare_views-found-requires-clause-right c).After-node-second in
    (looks-named c.args.self.now (length c.args.names.now) c.args.pair.right c.node-second.result c.known.ensures c.requires.named c.requires.right.1 (right d)).0

pub returns-then-is_ne : goal.returns-then-is_ne
returns-then-is_ne c =
    let d = (goal.at.returns-then-is_ne c).After-node-second in
    compared-found c.args.names.now c.args.self.now c.args.pair.left c.args.pair.right c.node-first.result c.node-second.result c.known.ensures c.requires.named c.requires.left c.requires.right (left d) (right d)
    c.args.todo.now.items c.compare_views-found.result c.compare_views-found.ensures (sym c.is_ne.ensures ∙ c.if-is_ne.true)

pub returns : goal.returns
returns c =
    let d = (goal.at.returns c).After-node-second in
    compared-args c.args.names.now c.args.self.now c.args.pair.left c.args.pair.right c.node-first.result c.node-second.result c.known.ensures c.requires.named c.requires.left c.requires.right (left d) (right d)
    c.args.todo.now.items c.push_pairs_back.new.todo.items c.args-2.result.now c.args-3.result.now c.compare_views-found.result c.compare_views-found.ensures (sym c.is_ne.ensures ∙ c.if-is_ne.false)
    c.args-2.ensures c.args-3.ensures c.in_ok-push_pairs_back.ensures
