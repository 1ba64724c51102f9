use Rattle.std.proofs.Common.{◌≡◌, ◌++◌, ◌∷◌, [], List, length, Bool, refl, ap, ◌∙◌, subst, arith}
use Rattle.term_store.specs.declared.cell.Cell.{Cell}
use Rattle.term_store.specs.Heads.{IsFurther, Comes, stage, stage_with}
use Rattle.term_store.proofs.Matched.{further-itself, further-further, matching-start, matching-end, matching-there, matching-fit, matching-valid, matching-step, matching-refused}
use Rattle.term_store.proofs.store.Store.match_nodes.Goals as goal
use Rattle.term_store.proofs.store.Store.match_nodes.Goals.{After-match_node}

pub returns-in_err-push-clause-further : goal.returns-in_err-push-clause-further
returns-in_err-push-clause-further c = further-itself c.args.self.now c.args.names.now c.requires.named

pub loop-next-init : goal.loop-next-init
loop-next-init c =
    matching-start c.args.self.now c.args.names.now c.args.nodes.now c.args.from c.args.cell (record { from = c.args.from; at = 0; todo = c.push.new.self }) refl refl
    (c.in_ok-push.ensures.items ∙ ap (λ (cs : List Cell). cs ++ c.args.cell ∷ []) c.new.ensures.items) c.requires.named c.requires.valid

pub match_node-requires-clause-there : goal.match_node-requires-clause-there
match_node-requires-clause-there c =
    matching-there c.args.self.now c.args.names.now c.args.nodes.now c.args.from c.args.cell c.requires.one c.loop-next.self c.loop-next.names c.loop-next.matching c.loop-next.invariant
    c.in-Some.next c.pop.new.self.items c.in-Some.ensures.items

pub match_node-requires-clause-fit : goal.match_node-requires-clause-fit
match_node-requires-clause-fit c =
    matching-fit c.args.self.now c.args.names.now c.args.nodes.now c.args.from c.args.cell c.requires.one c.loop-next.self c.loop-next.names c.loop-next.matching c.loop-next.invariant
    c.in-Some.next c.pop.new.self.items c.in-Some.ensures.items _ c.requires.fit

pub match_node-requires-clause-named : goal.match_node-requires-clause-named
match_node-requires-clause-named c = c.loop-next.invariant.further.named

pub match_node-requires-clause-valid : goal.match_node-requires-clause-valid
match_node-requires-clause-valid c =
    matching-valid c.args.self.now c.args.names.now c.args.nodes.now c.args.from c.args.cell c.requires.one c.loop-next.self c.loop-next.names c.loop-next.matching c.loop-next.invariant
    c.in-Some.next c.pop.new.self.items c.in-Some.ensures.items

further : (c : After-match_node) → IsFurther c.args.self.now c.args.names.now c.match_node.new.self c.match_node.new.names
further c =
    further-further c.args.self.now c.loop-next.self c.match_node.new.self c.args.names.now c.loop-next.names c.match_node.new.names c.loop-next.invariant.further c.match_node.ensures.further

pub returns-in_err-match_node-clause-further : goal.returns-in_err-match_node-clause-further
returns-in_err-match_node-clause-further c = further (goal.at.returns-in_err-match_node-clause-further c).After-match_node

pub returns-in_err-match_node-clause-within : goal.returns-in_err-match_node-clause-within
returns-in_err-match_node-clause-within c = λ m fit le.
    c.match_node.ensures.within m
    (matching-fit c.args.self.now c.args.names.now c.args.nodes.now c.args.from c.args.cell c.requires.one c.loop-next.self c.loop-next.names c.loop-next.matching c.loop-next.invariant
    c.in-Some.next c.pop.new.self.items c.in-Some.ensures.items m fit) (c.loop-next.invariant.within m fit le)

pub returns-then-not-branch-clause-further : goal.returns-then-not-branch-clause-further
returns-then-not-branch-clause-further c = further (goal.at.returns-then-not-branch-clause-further c).After-match_node

pub returns-then-not-branch-clause-within : goal.returns-then-not-branch-clause-within
returns-then-not-branch-clause-within c = λ m fit le.
    c.match_node.ensures.within m
    (matching-fit c.args.self.now c.args.names.now c.args.nodes.now c.args.from c.args.cell c.requires.one c.loop-next.self c.loop-next.names c.loop-next.matching c.loop-next.invariant
    c.in-Some.next c.pop.new.self.items c.in-Some.ensures.items m fit) (c.loop-next.invariant.within m fit le)

pub returns-then-not-branch-clause-comes : goal.returns-then-not-branch-clause-comes
returns-then-not-branch-clause-comes c =
    matching-refused c.args.self.now c.args.names.now c.args.nodes.now c.args.from c.args.cell c.requires.one c.loop-next.self c.loop-next.names c.loop-next.matching c.loop-next.invariant
    c.in-Some.next c.pop.new.self.items c.in-Some.ensures.items c.match_node.new.self c.match_node.new.names c.match_node.new.matching c.match_node.ensures.further
    (subst (λ (b : Bool). Comes (stage_with c.loop-next.self c.loop-next.names c.args.nodes.now (record c.loop-next.matching { todo = c.pop.new.self }) c.in-Some.next)
    (stage c.match_node.new.self c.match_node.new.names c.args.nodes.now c.match_node.new.matching) b) c.if-not-branch.true c.in_ok-match_node.ensures.comes)

pub loop-next-preserved : goal.loop-next-preserved
loop-next-preserved c =
    matching-step c.args.self.now c.args.names.now c.args.nodes.now c.args.from c.args.cell c.requires.one c.loop-next.self c.loop-next.names c.loop-next.matching c.loop-next.invariant
    c.in-Some.next c.pop.new.self.items c.in-Some.ensures.items c.match_node.new.self c.match_node.new.names c.match_node.new.matching c.match_node.ensures.further
    c.match_node.ensures.within c.match_node.ensures.from c.match_node.ensures.upper
    (subst (λ (b : Bool). Comes (stage_with c.loop-next.self c.loop-next.names c.args.nodes.now (record c.loop-next.matching { todo = c.pop.new.self }) c.in-Some.next)
    (stage c.match_node.new.self c.match_node.new.names c.args.nodes.now c.match_node.new.matching) b) c.if-not-branch.false c.in_ok-match_node.ensures.comes)

pub returns-clause-further : goal.returns-clause-further
returns-clause-further c = c.loop-next.invariant.further

pub returns-clause-within : goal.returns-clause-within
returns-clause-within c = c.loop-next.invariant.within

pub returns-clause-comes : goal.returns-clause-comes
returns-clause-comes c =
    matching-end c.args.self.now c.args.names.now c.args.nodes.now c.args.from c.args.cell c.requires.one c.loop-next.self c.loop-next.names c.loop-next.matching c.loop-next.invariant
    (let q = c.in_default.ensures.cases in let empty : length c.loop-next.matching.todo.items ≡ 0 = omega arith in empty)
