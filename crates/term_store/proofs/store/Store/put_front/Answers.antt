use Rattle.std.proofs.Common.{◌≤◌, ℕ, ◌^◌, sym, subst}
use Rattle.term_store.specs.Terms.{raw}
use Rattle.term_store.proofs.Fronts.{front-fits, front-one, front-term, further-wider, grown-variables}
use Rattle.term_store.proofs.store.Store.put_front.Goals as goal

pub front_end-end-requires-clause-fit : goal.front_end-end-requires-clause-fit
front_end-end-requires-clause-fit c = (2 ^ 64, (c.args.from, c.requires.fit))

pub make_variables-requires : goal.make_variables-requires
make_variables-requires c = record { fit = front-fits c.args.nodes.now c.args.at c.front_end-end.result c.front_end-end.ensures (2 ^ 64) c.args.from c.requires.fit }

pub returns-in_err-make_variables-clause-further : goal.returns-in_err-make_variables-clause-further
returns-in_err-make_variables-clause-further c =
    further-wider c.args.self.now c.make_variables.new.self c.args.names.now c.in_err-make_variables.ensures.same c.in_err-make_variables.ensures.more c.requires.named

pub returns-in_err-make_variables-clause-within : goal.returns-in_err-make_variables-clause-within
returns-in_err-make_variables-clause-within c = λ m fit low.
    c.in_err-make_variables.ensures.within m (front-fits c.args.nodes.now c.args.at c.front_end-end.result c.front_end-end.ensures m c.args.from fit) low

pub put_nodes-requires-clause-one : goal.put_nodes-requires-clause-one
put_nodes-requires-clause-one c = front-one c.args.nodes.now c.args.at c.front_end-end.result c.front_end-end.ensures

pub returns-in_err-cell-clause-within : goal.returns-in_err-cell-clause-within
returns-in_err-cell-clause-within c = λ m fit low.
    subst (λ (k : ℕ). k ≤ m) (sym (grown-variables c.make_variables.new.self c.put_nodes.new.self c.args.names.now c.put_nodes.new.names c.in_err-cell.ensures.grows))
    (c.in_ok-make_variables.ensures.within m (front-fits c.args.nodes.now c.args.at c.front_end-end.result c.front_end-end.ensures m c.args.from fit) low)

pub returns-clause-within : goal.returns-clause-within
returns-clause-within c = λ m fit low.
    subst (λ (k : ℕ). k ≤ m) (sym (grown-variables c.make_variables.new.self c.put_nodes.new.self c.args.names.now c.put_nodes.new.names c.in_ok-cell.ensures.grows))
    (c.in_ok-make_variables.ensures.within m (front-fits c.args.nodes.now c.args.at c.front_end-end.result c.front_end-end.ensures m c.args.from fit) low)

pub returns-clause-term : goal.returns-clause-term
returns-clause-term c =
    front-term c.args.nodes.now c.args.at c.front_end-end.result c.front_end-end.ensures c.args.from (raw c.put_nodes.new.names c.put_nodes.new.self c.in_ok-cell.cell) c.in_ok-cell.ensures.term
