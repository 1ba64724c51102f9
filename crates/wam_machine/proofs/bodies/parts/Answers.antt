use Rattle.std.proofs.Common.{arith}
use Rattle.wam_machine.specs.Goals.{part_now}
use Rattle.wam_machine.specs.Terms.{built, IsBuilt}
use Rattle.wam_machine.proofs.SpineWalks.{ahead, not-some, is-some, ahead-step, ahead-less, walk-start, walk-step, walk-done}
use Rattle.wam_machine.proofs.bodies.parts.Goals as goal

pub loop-next-init : goal.loop-next-init
loop-next-init g c = walk-start c.args.terms.now c.args.goal c.new-parts.result.items c.new-todo.result.items c.new-parts.ensures.items c.new-todo.ensures.items c.requires.goal

pub next_part-requires-clause-cell : goal.next_part-requires-clause-cell
next_part-requires-clause-cell g c = is-some (IsBuilt c.args.terms.now) c.loop-next.next c.in-Some.cell c.in-Some.is c.loop-next.invariant.next_is

pub next_part-requires-clause-todo : goal.next_part-requires-clause-todo
next_part-requires-clause-todo g c = c.loop-next.invariant.todo_is

pub loop-next-smaller : goal.loop-next-smaller
loop-next-smaller g c =
    let t = c.args.terms.now in
    let len = c.next_part.new.todo.ok.0 in
    ahead-less (ahead (built t) c.loop-next.next c.loop-next.todo.items) _ (part_now t c.in_ok-met.met)
    (ahead-step (built t) c.loop-next.next c.in-Some.cell c.loop-next.todo.items c.next_part.new.todo.items c.pop-next.new.self.items c.pop-next.result (part_now t c.in_ok-met.met) c.in-Some.is
    c.in_ok-met.ensures.spine c.pop-next.ensures.items (λ some. c.pop-next.ensures.variant.1 (omega (arith, some, len))))

pub loop-next-preserved : goal.loop-next-preserved
loop-next-preserved g c =
    let t = c.args.terms.now in
    let len = c.next_part.new.todo.ok.0 in
    walk-step t (built t c.args.goal) c.loop-next.parts.items c.push.new.self.items c.loop-next.next c.loop-next.todo.items c.next_part.new.todo.items c.pop-next.new.self.items c.pop-next.result
    c.in_ok-met.met c.loop-next.invariant
    (ahead-step (built t) c.loop-next.next c.in-Some.cell c.loop-next.todo.items c.next_part.new.todo.items c.pop-next.new.self.items c.pop-next.result (part_now t c.in_ok-met.met) c.in-Some.is
    c.in_ok-met.ensures.spine c.pop-next.ensures.items (λ some. c.pop-next.ensures.variant.1 (omega (arith, some, len))))
    c.in_ok-met.ensures.is c.in_ok-push.ensures.items c.in_ok-met.ensures.todo c.pop-next.ensures.items

pub returns-clause-parts : goal.returns-clause-parts
returns-clause-parts g c =
    walk-done c.args.terms.now (built c.args.terms.now c.args.goal) c.loop-next.parts.items c.loop-next.next c.loop-next.todo.items c.loop-next.invariant
    (not-some c.loop-next.next (λ x e. c.in_default.not-Some x e))

pub returns-clause-are : goal.returns-clause-are
returns-clause-are g c = c.loop-next.invariant.are
