use Rattle.std.proofs.Common.{◌≡◌, ◌<◌, ◌-◌, ℕ, suc, length, drop, sym, ap, ◌∙◌, subst, arith}
use Rattle.prolog_terms.specs.Substitutions.{all_substituted}
use Rattle.prolog_terms.specs.Flat.{forest}
use Rattle.prolog_terms.specs.declared.node.Node.{Node}
use Rattle.term_store.specs.Shape.{Shape}
use Rattle.term_store.specs.Puts.{shifted, placed, IsFit, AreCells}
use Rattle.term_store.proofs.Puts.{fit-at, next-placed, cells-count, grows-further, cells-last, cells-only, count-substituted}
use Rattle.term_store.proofs.store.Store.put_nodes.Goals as goal
use Rattle.term_store.proofs.store.Store.put_nodes.Goals.{After-index-nodes-at, In-Some}

inside : (c : After-index-nodes-at) → c.loop-at.at - 1 < length c.args.nodes.now
inside c = let t = c.loop-at-test.true in let low = c.loop-at.invariant.low in omega (arith, t, low)

one : (c : After-index-nodes-at) → suc (c.loop-at.at - 1) ≡ c.loop-at.at
one c = let t = c.loop-at-test.true in omega (arith, t)

-- the cells so far, by the place of the node
before : (c : After-index-nodes-at) → AreCells c.loop-at.self c.loop-at.names c.loop-at.stack.items (all_substituted (shifted c.args.from) (forest (drop (suc (c.loop-at.at - 1)) c.args.nodes.now)))
before c = subst (λ (n : ℕ). AreCells c.loop-at.self c.loop-at.names c.loop-at.stack.items (all_substituted (shifted c.args.from) (forest (drop n c.args.nodes.now)))) (sym (one c)) c.loop-at.invariant.cells

pub put_node-requires-clause-fit : goal.put_node-requires-clause-fit
put_node-requires-clause-fit c =
    let d = (goal.at.put_node-requires-clause-fit c).After-index-nodes-at in
    let here = fit-at c.args.self.now.variables c.args.from c.args.nodes.now (c.loop-at.at - 1) c.index-nodes-at.result (inside d) c.requires.fit in
    let wide : c.loop-at.self.variables ≡ c.args.self.now.variables = ap (λ (s : Shape). s.variables) c.loop-at.invariant.grows.same in
    let long = cells-count c.loop-at.self c.loop-at.names c.loop-at.stack.items c.args.from _ (before d) in
    subst (λ (m : ℕ). IsFit m c.args.from (length c.loop-at.stack.items) c.index-nodes-at.result) (sym wide)
    (subst (λ (k : ℕ). IsFit c.args.self.now.variables c.args.from k c.index-nodes-at.result) long
    (subst (IsFit c.args.self.now.variables c.args.from _) (sym c.index-nodes-at.is) here))

pub loop-at-preserved : goal.loop-at-preserved
loop-at-preserved c =
    let d = (goal.at.loop-at-preserved c).After-index-nodes-at in
    record {
      low = let low = inside d in omega (arith, low);
      grows = grows-further c.args.self.now c.loop-at.self c.put_node.new.self c.args.names.now c.loop-at.names c.put_node.new.names c.loop-at.invariant.grows c.in_ok-put_node.ensures.grows;
      cells = subst (AreCells c.put_node.new.self c.put_node.new.names c.put_node.new.stack.items)
          (ap (λ (n : Node). placed c.args.from n (all_substituted (shifted c.args.from) (forest (drop (suc (c.loop-at.at - 1)) c.args.nodes.now)))) c.index-nodes-at.is ∙ next-placed c.args.from c.args.nodes.now (c.loop-at.at - 1) c.index-nodes-at.result (inside d))
          (c.in_ok-put_node.ensures.cells _ (before d));
    }

-- the cells in the end
all : (c : In-Some) → AreCells c.loop-at.self c.loop-at.names c.loop-at.stack.items (all_substituted (shifted c.args.from) (forest c.args.nodes.now))
all c =
    let t = c.loop-at-test.false in let zero_at : c.loop-at.at ≡ 0 = omega (arith, t) in
    subst (λ (n : ℕ). AreCells c.loop-at.self c.loop-at.names c.loop-at.stack.items (all_substituted (shifted c.args.from) (forest (drop n c.args.nodes.now)))) zero_at c.loop-at.invariant.cells

pub returns-clause-cell : goal.returns-clause-cell
returns-clause-cell c =
    let d = (goal.at.returns-clause-cell c).In-Some in
    cells-last c.loop-at.self c.loop-at.names c.loop-at.stack.items c.pop.new.self.items c.in-Some.cell _ (all d) c.in-Some.ensures.items

pub returns-clause-term : goal.returns-clause-term
returns-clause-term c =
    let d = (goal.at.returns-clause-term c).In-Some in
    cells-only c.loop-at.self c.loop-at.names c.loop-at.stack.items c.pop.new.self.items c.in-Some.cell _ (all d) c.in-Some.ensures.items
    (count-substituted (shifted c.args.from) (forest c.args.nodes.now) ∙ c.requires.one)

-- there is one tree, and so one cell
pub unreachable-requires : goal.unreachable-requires
unreachable-requires c =
    let t = c.loop-at-test.false in let zero_at : c.loop-at.at ≡ 0 = omega (arith, t) in
    let cells = subst (λ (n : ℕ). AreCells c.loop-at.self c.loop-at.names c.loop-at.stack.items (all_substituted (shifted c.args.from) (forest (drop n c.args.nodes.now)))) zero_at c.loop-at.invariant.cells in
    let k = cells-count c.loop-at.self c.loop-at.names c.loop-at.stack.items c.args.from c.args.nodes.now cells in
    let one = c.requires.one in let q = c.in-None.ensures.cases in let none : length c.loop-at.stack.items ≡ 0 = omega arith in
    omega (arith, k, one, none)
