use Rattle.std.proofs.Common.{ap, ◌∙◌}
use Rattle.wam_machine.specs.Terms.{Said}
use Rattle.wam_machine.specs.declared.bodies.Part.TheVariants.{Variable}
use Rattle.term_store.specs.declared.cell.Cell.TheVariants as cell
use Rattle.wam_machine.proofs.Told.{at_err}
use Rattle.wam_machine.proofs.BodyFolds.{fold-start, fold-part, fold-can, fold-step, fold-done, fold-cell}
use Rattle.wam_machine.proofs.bodies.joined.Goals as goal

pub loop-left-init : goal.loop-left-init
loop-left-init g c = fold-start c.args.terms.now c.args.terms.now c.args.parts.now c.new-stack.result.items c.requires.terms c.new-stack.ensures.items

pub put_part-requires-clause-terms : goal.put_part-requires-clause-terms
put_part-requires-clause-terms g c = c.loop-left.invariant.grown.terms

pub put_part-requires-clause-part : goal.put_part-requires-clause-part
put_part-requires-clause-part g c =
    fold-part c.args.terms.now c.loop-left.terms c.args.parts.now c.loop-left.left c.loop-left.stack.items (Variable (cell.Variable 0)) c.loop-left-test.true c.loop-left.invariant c.requires.parts

pub put_part-requires-clause-stack : goal.put_part-requires-clause-stack
put_part-requires-clause-stack g c = c.loop-left.invariant.stack_is

pub put_part-requires-clause-can : goal.put_part-requires-clause-can
put_part-requires-clause-can g c =
    fold-can c.args.terms.now c.loop-left.terms c.args.parts.now c.loop-left.left c.loop-left.stack.items (Variable (cell.Variable 0)) c.loop-left-test.true c.loop-left.invariant c.requires.parts
    c.requires.whole

pub loop-left-preserved : goal.loop-left-preserved
loop-left-preserved g c =
    fold-step c.args.terms.now c.loop-left.terms c.args.parts.now c.loop-left.left c.loop-left.stack.items (Variable (cell.Variable 0)) c.loop-left-test.true c.loop-left.invariant c.requires.parts
    c.put_part.new.terms c.put_part.new.stack.items c.in_ok-put_part.ensures.grown c.in_ok-put_part.ensures.stack c.in_ok-put_part.ensures.put

pub returns-in_err-put_part-clause-err : goal.returns-in_err-put_part-clause-err
returns-in_err-put_part-clause-err g c =
    at_err c.from_residual.result _ (c.in_err-put_part.ensures.err ∙ ap (λ (s : Said _). s.stack) c.loop-left.invariant.grown.said_is)

pub returns-in-Some-clause-grown : goal.returns-in-Some-clause-grown
returns-in-Some-clause-grown g c = c.loop-left.invariant.grown

pub returns-in-Some-clause-cell : goal.returns-in-Some-clause-cell
returns-in-Some-clause-cell g c =
    fold-cell c.args.terms.now c.loop-left.terms c.args.parts.now c.loop-left.left c.loop-left.stack.items c.pop.new.self.items c.in-Some.body c.loop-left.invariant c.in-Some.ensures.items

pub returns-in-Some-clause-term : goal.returns-in-Some-clause-term
returns-in-Some-clause-term g c =
    fold-done c.args.terms.now c.loop-left.terms c.args.parts.now c.loop-left.left c.loop-left.stack.items c.pop.new.self.items c.in-Some.body c.loop-left-test.false c.loop-left.invariant
    c.in-Some.ensures.items c.requires.whole

pub returns-clause-err : goal.returns-clause-err
returns-clause-err g c = ap (λ (s : Said _). s.stack) c.loop-left.invariant.grown.said_is
