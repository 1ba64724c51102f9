use Rattle.std.proofs.Common.{[], reverse, drop, arith}
use Rattle.prolog_terms.specs.Flat.{forest}
use Rattle.term_store.specs.Puts.{shifted}
use Rattle.term_store.specs.Heads.{left_at}
use Rattle.term_store.proofs.WorkSteps.{IfOk-more}
use Rattle.term_store.proofs.Leaves.{built-free, built-older, further-further, further-solved, variables-solved, comes-built}
use Rattle.term_store.proofs.store.Store.match_free.Goals as goal

pub solve_variable-requires-clause-cell_free : goal.solve_variable-requires-clause-cell_free
solve_variable-requires-clause-cell_free c =
    built-free c.put_front.new.names c.put_front.new.self c.in_ok-built.built (shifted c.args.matching.now.from) (forest (drop c.args.matching.now.at c.args.nodes.now))
    (left_at c.args.matching.now.from c.args.nodes.now c.in_ok-built.end) c.requires.compound c.in_ok-built.ensures.term

pub solve_variable-requires-clause-older : goal.solve_variable-requires-clause-older
solve_variable-requires-clause-older c =
    built-older c.put_front.new.names c.put_front.new.self c.in_ok-built.built (shifted c.args.matching.now.from) (forest (drop c.args.matching.now.at c.args.nodes.now))
    (left_at c.args.matching.now.from c.args.nodes.now c.in_ok-built.end) c.requires.compound c.in_ok-built.ensures.term c.args.free

pub returns-clause-further : goal.returns-clause-further
returns-clause-further c =
    let further = c.put_front.ensures.further in
    further-further c.args.self.now c.put_front.new.self c.solve_variable.new.self c.args.names.now c.put_front.new.names c.put_front.new.names further
    (further-solved c.put_front.new.self c.solve_variable.new.self c.args.free c.in_ok-built.built c.put_front.new.names c.solve_variable.result further.named c.in_ok-built.ensures.cell.1
    c.solve_variable.ensures.err c.solve_variable.ensures.outcome)

pub returns-clause-within : goal.returns-clause-within
returns-clause-within c = λ m fit low.
    let same = variables-solved c.put_front.new.self c.solve_variable.new.self c.args.free c.in_ok-built.built c.solve_variable.result c.solve_variable.ensures.err c.solve_variable.ensures.outcome in
    let le = c.put_front.ensures.within m fit low in
    omega (arith, same, le)

pub returns-clause-comes : goal.returns-clause-comes
returns-clause-comes c =
    IfOk-more c.solve_variable.result _ _ (λ t h.
    comes-built c.args.self.now c.put_front.new.self c.solve_variable.new.self c.args.names.now c.put_front.new.names c.args.free c.in_ok-built.built
    (left_at c.args.matching.now.from c.args.nodes.now c.args.matching.now.at) (left_at c.args.matching.now.from c.args.nodes.now c.in_ok-built.end) (reverse c.args.matching.now.todo.items)
    c.known.ensures c.known-2.ensures c.put_front.ensures.further c.put_front.ensures.bindings c.in_ok-built.ensures.cell c.count.ensures.distinct c.requires.inside c.requires.valid
    c.in_ok-built.ensures.term t (h [])) c.solve_variable.ensures.outcome
