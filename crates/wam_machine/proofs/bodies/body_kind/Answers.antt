use Rattle.std.proofs.Common.{arith, ap, ◌∙◌}
use Rattle.term_store.specs.declared.cell.Cell.{Cell}
use Rattle.std.specs.Prelude.{Option}
use Rattle.wam_machine.specs.Goals.{part_now}
use Rattle.wam_machine.specs.Terms.{built, IsBuilt}
use Rattle.wam_machine.proofs.SpineWalks.{ahead, not-some, is-some, ahead-step, ahead-less}
use Rattle.wam_machine.proofs.SpineKinds.{IsMet, met-variable, met-goal, met-joint, sort-start, sort-step, sort-broken, sort-open, sort-body}
use Rattle.wam_machine.proofs.bodies.body_kind.Goals as goal
use Rattle.wam_machine.proofs.bodies.body_kind.Goals.{in-Variable, in-Goal, in-Joint}

pub loop-next-init : goal.loop-next-init
loop-next-init g c = sort-start c.args.terms.now c.args.goal c.new-todo.result.items c.new-todo.ensures.items c.requires.goal

pub next_part-requires-clause-cell : goal.next_part-requires-clause-cell
next_part-requires-clause-cell g c = is-some (IsBuilt c.args.terms.now) c.loop-next.next c.in-Some.cell c.in-Some.is c.loop-next.invariant.next_is

pub next_part-requires-clause-todo : goal.next_part-requires-clause-todo
next_part-requires-clause-todo g c = c.loop-next.invariant.todo_is

pub returns-in-Integer : goal.returns-in-Integer
returns-in-Integer g c =
    let t = c.args.terms.now in
    sort-broken t (built t c.args.goal) c.loop-next.unbound c.loop-next.next c.loop-next.todo.items _ c.in_ok-next_part.field-0 c.in-Integer.field-0 c.loop-next.invariant
    (ap (λ (o : Option Cell). ahead (built t) o c.loop-next.todo.items) c.in-Some.is ∙ c.in_ok-next_part.ensures.spine)
    c.in_ok-next_part.ensures.is c.in-Integer.is

pub loop-next-smaller : goal.loop-next-smaller
loop-next-smaller g c =
    let t = c.args.terms.now in
    let len = c.next_part.new.todo.ok.0 in
    ahead-less (ahead (built t) c.loop-next.next c.loop-next.todo.items) _ (part_now t c.in_ok-next_part.field-0)
    (ahead-step (built t) c.loop-next.next c.in-Some.cell c.loop-next.todo.items c.next_part.new.todo.items c.pop-next.new.self.items c.pop-next.result (part_now t c.in_ok-next_part.field-0)
    c.in-Some.is c.in_ok-next_part.ensures.spine c.pop-next.ensures.items (λ some. c.pop-next.ensures.variant.1 (omega (arith, some, len))))

pub loop-next-preserved : goal.loop-next-preserved
loop-next-preserved g c =
    let t = c.args.terms.now in
    let len = c.next_part.new.todo.ok.0 in
    let noted : IsMet c.loop-next.unbound c.match-branch-2.unbound c.in_ok-next_part.field-0 = elim c.match-branch-2.branch [
      | in-Variable w ↦ met-variable _ _ _ _ w.in-Variable.is w.unbound-is
      | in-Goal w ↦ met-goal _ _ _ _ w.in-Goal.is w.unbound-is
      | in-Joint w ↦ met-joint _ _ _ _ w.in-Joint.is w.unbound-is
    ] in
    sort-step t (built t c.args.goal) c.loop-next.unbound c.match-branch-2.unbound c.loop-next.next c.loop-next.todo.items c.next_part.new.todo.items c.pop-next.new.self.items c.pop-next.result
    c.in_ok-next_part.field-0 c.loop-next.invariant
    (ahead-step (built t) c.loop-next.next c.in-Some.cell c.loop-next.todo.items c.next_part.new.todo.items c.pop-next.new.self.items c.pop-next.result (part_now t c.in_ok-next_part.field-0)
    c.in-Some.is c.in_ok-next_part.ensures.spine c.pop-next.ensures.items (λ some. c.pop-next.ensures.variant.1 (omega (arith, some, len))))
    c.in_ok-next_part.ensures.is noted c.in_ok-next_part.ensures.todo c.pop-next.ensures.items

pub returns-then-unbound : goal.returns-then-unbound
returns-then-unbound g c =
    sort-open c.args.terms.now (built c.args.terms.now c.args.goal) c.loop-next.unbound c.loop-next.next c.loop-next.todo.items c.loop-next.invariant
    (not-some c.loop-next.next (λ x e. c.in_default.not-Some x e))

pub returns : goal.returns
returns g c =
    sort-body c.args.terms.now (built c.args.terms.now c.args.goal) c.loop-next.unbound c.loop-next.next c.loop-next.todo.items c.loop-next.invariant
    (not-some c.loop-next.next (λ x e. c.in_default.not-Some x e)) c.if-unbound.false
