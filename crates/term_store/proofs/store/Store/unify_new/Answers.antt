use Rattle.std.proofs.Common.{◌≤◌, ℕ, [], sym, ap, subst, arith}
use Rattle.prolog_terms.specs.Tree.{none, count}
use Rattle.prolog_terms.specs.Substitutions.{renamed}
use Rattle.term_store.specs.Shape.{Shape}
use Rattle.term_store.specs.Later.{IsTakenBack}
use Rattle.term_store.specs.Puts.{AreFit}
use Rattle.term_store.specs.Heads.{IsMadeOne, Comes}
use Rattle.term_store.proofs.Puts.{fit-term}
use Rattle.term_store.proofs.Laws.{later-itself, at-want, taken-back}
use Rattle.term_store.proofs.Matched.{begun, one-term, all-made, all-refused}
use Rattle.term_store.proofs.store.Store.unify_new.Goals as goal
use Rattle.term_store.proofs.store.Store.unify_new.Goals.{After-nodes, After-variables, In_ok-is_one-in-Some}

-- the term's variables have a place below
fit : (c : After-nodes) (m : ℕ) → c.in-Some.all ≤ m → AreFit m c.variables-from.result c.nodes.result.now
fit c m le =
    let low = c.requires.variables in let all = c.in-Some.ensures.1 in
    subst (AreFit m c.variables-from.result) (sym c.nodes.ensures.nodes)
    (fit-term m c.variables-from.result c.args.term.now (omega (arith, le, low, all)) c.nodes.ensures.arities)

pub match_nodes-requires-clause-one : goal.match_nodes-requires-clause-one
match_nodes-requires-clause-one c = ap count (one-term c.nodes.result.now c.args.term.now c.nodes.ensures.nodes)

pub match_nodes-requires-clause-fit : goal.match_nodes-requires-clause-fit
match_nodes-requires-clause-fit c =
    let small = c.in-Some.ensures.0 in let all = c.in-Some.ensures.1 in
    fit (goal.at.match_nodes-requires-clause-fit c).After-nodes 0x1_0000_0000_0000_0000 (omega (arith, small, all))

below : (c : After-variables) → c.variables.result ≤ c.in-Some.all
below c =
    let from = c.variables-from.ensures in let all = c.in-Some.ensures.1 in let now = c.variables.ensures in
    let low = c.match_nodes.ensures.within c.in-Some.all (fit (goal.at.overflow_sub-all c).After-nodes c.in-Some.all (omega arith)) (omega (arith, from, all)) in
    omega (arith, now, low)

pub overflow_sub-all : goal.overflow_sub-all
overflow_sub-all c = below c

pub returns-in-None-clause-later : goal.returns-in-None-clause-later
returns-in-None-clause-later c = later-itself c.args.self.now

pub returns-in_ok-fresh-in-Some-clause-variables : goal.returns-in_ok-fresh-in-Some-clause-variables
returns-in_ok-fresh-in-Some-clause-variables c =
    let low = below (goal.at.returns-in_ok-fresh-in-Some-clause-variables c).After-variables in
    let e = ap (λ (s : Shape). s.variables) c.in_ok-fresh-in-Some.ensures.ok in
    let from = c.variables-from.ensures in let all = c.in-Some.ensures.1 in let now = c.variables.ensures in
    omega (arith, low, e, from, all, now)

comes : (c : In_ok-is_one-in-Some)
    → Comes (begun c.args.self.now c.args.names.now c.nodes.result.now c.args.self.now.variables c.args.cell)
    (record { store = c.match_nodes.new.self; texts = c.match_nodes.new.names; terms = none; cells = [] }) c.in_ok-is_one-in-Some.is_one
comes c =
    subst (λ (n : ℕ). Comes (begun c.args.self.now c.args.names.now c.nodes.result.now n c.args.cell)
    (record { store = c.match_nodes.new.self; texts = c.match_nodes.new.names; terms = none; cells = [] }) c.in_ok-is_one-in-Some.is_one)
    c.variables-from.ensures c.in_ok-is_one-in-Some.ensures.comes

pub returns-in_ok-fresh-in-Some-clause-made_one : goal.returns-in_ok-fresh-in-Some-clause-made_one
returns-in_ok-fresh-in-Some-clause-made_one c = λ e.
    subst (λ (s : Shape). IsMadeOne c.match_nodes.new.names c.args.self.now s (renamed c.args.self.now.variables c.args.term.now) c.args.cell) (sym c.in_ok-fresh-in-Some.ensures.ok)
    (all-made c.match_nodes.new.names c.args.names.now c.args.self.now c.match_nodes.new.self c.known.ensures c.args.term.now c.nodes.result.now c.args.cell c.nodes.ensures.nodes
    c.in_ok-is_one-in-Some.is_one (comes (goal.at.returns-in_ok-fresh-in-Some-clause-made_one c).In_ok-is_one-in-Some) c.known-in-Some.ensures c.match_nodes.ensures.further.later e)

pub returns-in_ok-fresh-in-Some-clause-refused : goal.returns-in_ok-fresh-in-Some-clause-refused
returns-in_ok-fresh-in-Some-clause-refused c =
    all-refused c.match_nodes.new.names c.args.names.now c.args.self.now c.match_nodes.new.self c.known.ensures c.args.term.now c.nodes.result.now c.args.cell c.nodes.ensures.nodes
    c.in_ok-is_one-in-Some.is_one (comes (goal.at.returns-in_ok-fresh-in-Some-clause-refused c).In_ok-is_one-in-Some)

pub returns-in-None-clause-want : goal.returns-in-None-clause-want
returns-in-None-clause-want c = taken-back c.args.self.now c.args.self.now (later-itself c.args.self.now)

pub returns-in_err-is_one-in-Some-clause-want : goal.returns-in_err-is_one-in-Some-clause-want
returns-in_err-is_one-in-Some-clause-want c = at-want _ _ (taken-back c.args.self.now c.match_nodes.new.self c.match_nodes.ensures.further.later)

pub returns-in_err-fresh-in-Some-clause-want : goal.returns-in_err-fresh-in-Some-clause-want
returns-in_err-fresh-in-Some-clause-want c =
    at-want _ _ (subst (IsTakenBack c.args.self.now) (sym c.in_err-fresh-in-Some.ensures.err) (taken-back c.args.self.now c.match_nodes.new.self c.match_nodes.ensures.further.later))
