use Rattle.std.proofs.Common.{ℕ, ◌<◌, ◌+◌, ◌^◌, refl, sym, ◌∙◌, subst, arith}
use Rattle.term_store.specs.Shape.{Shape}
use Rattle.term_store.proofs.Fronts.{IsMaking, fit-variable, making-step, var-same}
use Rattle.term_store.proofs.store.Store.make_variables.Goals as goal
use Rattle.term_store.proofs.store.Store.make_variables.Goals.{in-Var+in_ok-make_variable, in_default}

pub overflow_add-from : goal.overflow_add-from
overflow_add-from c =
    let low = fit-variable (2 ^ 64) c.args.from c.args.nodes.now c.loop-node.node-index c.node-item.result c.in-Var.number c.requires.fit c.loop-node-test.true c.node-item.is c.in-Var.is in
    omega (arith, low)

pub returns-in_err-make_variable-clause-within : goal.returns-in_err-make_variable-clause-within
returns-in_err-make_variable-clause-within c = λ m fit low.
    c.in_err-make_variable.ensures.within m
    (fit-variable m c.args.from c.args.nodes.now c.loop-node.node-index c.node-item.result c.in-Var.number fit c.loop-node-test.true c.node-item.is c.in-Var.is)
    (c.loop-node.invariant.within m fit low)

pub loop-node-preserved : goal.loop-node-preserved
loop-node-preserved c = elim c.match-node.branch [
  | in-Var+in_ok-make_variable w ↦ subst (λ (s : Shape). IsMaking c.args.self.now s c.args.from c.args.nodes.now (c.loop-node.node-index + 1)) (sym w.self-is)
      (making-step c.args.self.now c.loop-node.self w.make_variable.new.self (2 ^ 64) c.args.from c.args.nodes.now c.loop-node.node-index c.node-item.result c.loop-node.invariant c.requires.fit
      c.loop-node-test.true c.node-item.is w.in_ok-make_variable.ensures.same w.in_ok-make_variable.ensures.more
      (λ k there low. w.in_ok-make_variable.ensures.within k (there w.in-Var.number w.in-Var.is) low)
      (λ v e. subst (λ (n : ℕ). c.args.from + n < w.make_variable.new.self.variables) (var-same w.in-Var.number v (sym w.in-Var.is ∙ e)) w.in_ok-make_variable.ensures.there))
  | in_default w ↦ subst (λ (s : Shape). IsMaking c.args.self.now s c.args.from c.args.nodes.now (c.loop-node.node-index + 1)) (sym w.self-is)
      (making-step c.args.self.now c.loop-node.self c.loop-node.self (2 ^ 64) c.args.from c.args.nodes.now c.loop-node.node-index c.node-item.result c.loop-node.invariant c.requires.fit
      c.loop-node-test.true c.node-item.is refl (omega arith) (λ k there low. low) (λ v e. absurd (w.in_default.not-Var v e)))
]
