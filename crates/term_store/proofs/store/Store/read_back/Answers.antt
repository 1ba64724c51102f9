use Rattle.std.proofs.Common.{◌≡◌, ◌∙◌, length, sym, arith}
use Rattle.prolog_terms.specs.Tree.{variable}
use Rattle.prolog_terms.specs.Substitutions.{substituted, variables, place_of}
use Rattle.prolog_terms.specs.Flat.{nodes}
use Rattle.term_store.specs.Terms.{text, term_of}
use Rattle.term_store.proofs.Arities.{terms-arities, substituted-arities}
use Rattle.term_store.proofs.Readings.{partly-cell, partly-step, partly-smaller, partly-end, same-nodes}
use Rattle.term_store.proofs.store.Store.read_back.Goals as goal
use Rattle.term_store.proofs.store.Store.read_back.Goals.{In_default}

pub read_cell-requires-clause-valid : goal.read_cell-requires-clause-valid
read_cell-requires-clause-valid c =
    partly-cell c.args.names.now c.args.self.now (term_of c.args.names.now c.args.self.now c.args.cell) c.loop-next.todo.items c.pop.new.self.items c.pop.new.self.items c.loop-next.seen c.loop-next.seen
    c.loop-next.nodes.items c.loop-next.nodes.items c.in-Some.next c.in-Some.ensures.items c.loop-next.invariant

pub loop-next-smaller : goal.loop-next-smaller
loop-next-smaller c =
    partly-smaller c.args.names.now c.args.self.now (term_of c.args.names.now c.args.self.now c.args.cell) c.loop-next.todo.items c.pop.new.self.items c.read_cell.new.todo.items c.loop-next.seen c.read_cell.new.seen
    c.loop-next.nodes.items c.read_cell.new.nodes.items c.in-Some.next c.in-Some.ensures.items c.loop-next.invariant c.in_ok-read_cell.ensures

pub loop-next-preserved : goal.loop-next-preserved
loop-next-preserved c =
    partly-step c.args.names.now c.args.self.now (term_of c.args.names.now c.args.self.now c.args.cell) c.loop-next.todo.items c.pop.new.self.items c.read_cell.new.todo.items c.loop-next.seen c.read_cell.new.seen
    c.loop-next.nodes.items c.read_cell.new.nodes.items c.in-Some.next c.in-Some.ensures.items c.loop-next.invariant c.in_ok-read_cell.ensures

-- what was written is the whole term
whole : (c : In_default) → nodes (substituted (λ v. variable (place_of v (variables (term_of c.args.names.now c.args.self.now c.args.cell)))) (term_of c.args.names.now c.args.self.now c.args.cell)) ≡ c.loop-next.nodes.items
whole c =
    partly-end c.args.names.now c.args.self.now (term_of c.args.names.now c.args.self.now c.args.cell) c.loop-next.todo.items c.loop-next.seen c.loop-next.nodes.items
    (let q = c.in_default.ensures.cases in let none : length c.loop-next.todo.items ≡ 0 = omega arith in none) c.loop-next.invariant

pub from_prefix-requires : goal.from_prefix-requires
from_prefix-requires c =
    let t = term_of c.args.names.now c.args.self.now c.args.cell in (
      substituted (λ v. variable (place_of v (variables t))) t,
      (substituted-arities (λ v. variable (place_of v (variables t))) (λ v. tt) t (terms-arities c.args.self.now (text c.args.names.now) c.args.cell c.known.ensures c.requires.valid.0).1, whole c),
    )

pub returns : goal.returns
returns c = same-nodes _ _ (c.from_prefix.ensures ∙ sym (whole (goal.at.returns c).In_default))
