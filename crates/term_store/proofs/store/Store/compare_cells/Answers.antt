use Rattle.std.proofs.Common.{◌≡◌, ◌++◌, ◌∷◌, [], List, length, sym, ap, ◌∙◌, subst, arith}
use Rattle.term_store.specs.declared.solve.Pair.{Pair}
use Rattle.term_store.specs.Compares.{IsComparing}
use Rattle.term_store.proofs.Compared.{comparing-start, comparing-pair, comparing-step, comparing-smaller, comparing-found, comparing-end}
use Rattle.term_store.proofs.store.Store.compare_cells.Goals as goal

pub loop-pair-init : goal.loop-pair-init
loop-pair-init c =
    subst (IsComparing c.args.names.now c.args.self.now c.args.left c.args.right)
    (sym (c.in_ok-push.ensures.items ∙ ap (λ (ps : List Pair). ps ++ record { left = c.args.left; right = c.args.right } ∷ []) c.new-todo.ensures.items))
    (comparing-start c.args.names.now c.args.self.now c.args.left c.args.right c.requires.left c.requires.right)

pub compare_pair-requires-clause-left : goal.compare_pair-requires-clause-left
compare_pair-requires-clause-left c =
    (comparing-pair c.args.names.now c.args.self.now c.args.left c.args.right c.loop-pair.todo.items c.pop.new.self.items c.pop.new.self.items c.in-Some.pair c.in-Some.ensures.items c.loop-pair.invariant).0

pub compare_pair-requires-clause-right : goal.compare_pair-requires-clause-right
compare_pair-requires-clause-right c =
    (comparing-pair c.args.names.now c.args.self.now c.args.left c.args.right c.loop-pair.todo.items c.pop.new.self.items c.pop.new.self.items c.in-Some.pair c.in-Some.ensures.items c.loop-pair.invariant).1

pub returns-then-is_ne : goal.returns-then-is_ne
returns-then-is_ne c =
    comparing-found c.args.names.now c.args.self.now c.args.left c.args.right c.loop-pair.todo.items c.pop.new.self.items c.compare_pair.new.todo.items c.in-Some.pair c.in-Some.ensures.items c.loop-pair.invariant
    c.in_ok-found.found (sym c.is_ne.ensures ∙ c.if-is_ne.true) c.in_ok-found.ensures

pub loop-pair-smaller : goal.loop-pair-smaller
loop-pair-smaller c =
    comparing-smaller c.args.names.now c.args.self.now c.args.left c.args.right c.loop-pair.todo.items c.pop.new.self.items c.compare_pair.new.todo.items c.in-Some.pair c.in-Some.ensures.items c.loop-pair.invariant
    c.in_ok-found.found c.in_ok-found.ensures

pub loop-pair-preserved : goal.loop-pair-preserved
loop-pair-preserved c =
    comparing-step c.args.names.now c.args.self.now c.args.left c.args.right c.loop-pair.todo.items c.pop.new.self.items c.compare_pair.new.todo.items c.in-Some.pair c.in-Some.ensures.items c.loop-pair.invariant
    c.in_ok-found.found (sym c.is_ne.ensures ∙ c.if-is_ne.false) c.in_ok-found.ensures

pub returns : goal.returns
returns c =
    comparing-end c.args.names.now c.args.self.now c.args.left c.args.right c.loop-pair.todo.items
    (let q = c.in_default.ensures.cases in let none : length c.loop-pair.todo.items ≡ 0 = omega arith in none) c.loop-pair.invariant
