use Rattle.std.proofs.Common.{refl, sym, subst}
use Rattle.term_store.specs.Shape.{Shape}
use Rattle.term_store.specs.declared.cell.Cell.TheVariants.{Variable}
use Rattle.term_store.specs.Work.{IsFound, IsStep}
use Rattle.term_store.proofs.Trees.{Occurs-test}
use Rattle.term_store.proofs.WorkSteps.{step-bind, clash-occurs}
use Rattle.term_store.proofs.store.Store.solve_variable.Goals as goal

pub bind-requires-clause-absent : goal.bind-requires-clause-absent
bind-requires-clause-absent c = λ name o.
    subst (IsFound c.args.self.now c.args.variable c.args.cell) c.if-branch.false c.in_ok-occurs.ensures name (Occurs-test c.args.variable _ o)

pub returns-then-branch-clause-outcome : goal.returns-then-branch-clause-outcome
returns-then-branch-clause-outcome c = λ work. (
  refl,
  clash-occurs c.args.self.now c.args.variable c.args.cell c.known.ensures c.requires.valid c.requires.cell_free c.requires.older
      (subst (IsFound c.args.self.now c.args.variable c.args.cell) c.if-branch.true c.in_ok-occurs.ensures),
)

pub returns-clause-outcome : goal.returns-clause-outcome
returns-clause-outcome c = λ work.
    subst (λ (s : Shape). IsStep c.args.self.now s work work (Variable c.args.variable) c.args.cell) (sym c.in_ok-bind.ensures.ok)
    (step-bind c.args.self.now c.args.variable c.args.cell c.requires.inside c.requires.free work)
