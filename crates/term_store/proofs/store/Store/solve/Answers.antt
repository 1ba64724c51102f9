use Rattle.std.proofs.Common.{refl, sym, ap, ap₂, ◌∙◌, subst, Bool, rules, w64, SFits}
use Rattle.std.specs.Ordering.{int_eq}
use Rattle.std.proofs.Math.Facts.{to_z-of_z}
use Rattle.term_store.specs.Work.{Outcome}
use Rattle.term_store.specs.declared.cell.Cell.TheVariants.{Variable, Integer}
use Rattle.term_store.proofs.WorkSteps.{step-delete, outcome-at, outcome-right, outcome-integers, outcome-atoms, clash-at, clash-sym, clash-integer_atom, clash-integer_compound, clash-atom_compound, IfOk-more, is-compound}
use Rattle.term_store.proofs.store.Store.solve.Goals as goal

pub returns-then-x-y-clause-outcome : goal.returns-then-x-y-clause-outcome
returns-then-x-y-clause-outcome c =
    step-delete c.args.self.now c.args.left c.args.right (c.in-Variable.is ∙ ap Variable c.if-x-y.true ∙ sym c.in-Variable-right.is) c.args.work.now.items

pub returns-else-y-x-clause-outcome : goal.returns-else-y-x-clause-outcome
returns-else-y-x-clause-outcome c =
    IfOk-more c.solve_variable-in-Variable-right.result _ _ (λ t h. outcome-right c.args.self.now c.solve_variable-in-Variable-right.new.self c.args.work.now.items c.args.left c.args.right _ _ t c.in-Variable.is c.in-Variable-right.is (h c.args.work.now.items)) c.solve_variable-in-Variable-right.ensures.outcome

pub returns-in-Variable-right-2-clause-outcome : goal.returns-in-Variable-right-2-clause-outcome
returns-in-Variable-right-2-clause-outcome c =
    IfOk-more c.solve_variable-in-Variable-right-2.result _ _ (λ t h. outcome-right c.args.self.now c.solve_variable-in-Variable-right-2.new.self c.args.work.now.items c.args.left c.args.right _ _ t c.in-Integer.is c.in-Variable-right-2.is (h c.args.work.now.items)) c.solve_variable-in-Variable-right-2.ensures.outcome

pub returns-in-Variable-right-3-clause-outcome : goal.returns-in-Variable-right-3-clause-outcome
returns-in-Variable-right-3-clause-outcome c =
    IfOk-more c.solve_variable-in-Variable-right-3.result _ _ (λ t h. outcome-right c.args.self.now c.solve_variable-in-Variable-right-3.new.self c.args.work.now.items c.args.left c.args.right _ _ t c.in-Atom.is c.in-Variable-right-3.is (h c.args.work.now.items)) c.solve_variable-in-Variable-right-3.ensures.outcome

pub returns-in-Variable-right-4-clause-outcome : goal.returns-in-Variable-right-4-clause-outcome
returns-in-Variable-right-4-clause-outcome c =
    IfOk-more c.solve_variable-in-Variable-right-4.result _ _ (λ t h. outcome-right c.args.self.now c.solve_variable-in-Variable-right-4.new.self c.args.work.now.items c.args.left c.args.right _ _ t c.in-Compound.is c.in-Variable-right-4.is (h c.args.work.now.items)) c.solve_variable-in-Variable-right-4.ensures.outcome

pub returns-in-Integer-right-clause-outcome : goal.returns-in-Integer-right-clause-outcome
returns-in-Integer-right-clause-outcome c =
    let m_fits : SFits w64 c.in-Integer.m = search rules in
    let n_fits : SFits w64 c.in-Integer-right.n = search rules in
    outcome-at c.args.self.now c.args.self.now c.args.work.now.items c.args.work.now.items c.args.left c.args.right _ _ _ c.in-Integer.is c.in-Integer-right.is
    (subst (λ (t : Bool). Outcome c.args.self.now c.args.self.now c.args.work.now.items c.args.work.now.items (Integer c.in-Integer.m) (Integer c.in-Integer-right.n) t)
    (sym (c.are_same.ensures ∙ ap₂ int_eq (to_z-of_z m_fits) (to_z-of_z n_fits)))
    (outcome-integers c.args.self.now c.args.work.now.items c.in-Integer.m c.in-Integer-right.n))

pub returns-in-Atom-right-clause-outcome : goal.returns-in-Atom-right-clause-outcome
returns-in-Atom-right-clause-outcome c =
    (refl, clash-at c.args.self.now c.args.left c.args.right _ _ c.in-Integer.is c.in-Atom-right.is (clash-integer_atom c.args.self.now c.in-Integer.m c.in-Atom-right.field-0))

pub returns-in-Compound-right-clause-outcome : goal.returns-in-Compound-right-clause-outcome
returns-in-Compound-right-clause-outcome c =
    (refl, clash-at c.args.self.now c.args.left c.args.right _ _ c.in-Integer.is c.in-Compound-right.is (clash-integer_compound c.args.self.now c.in-Integer.m c.in-Compound-right.field-0 c.known.ensures (is-compound c.args.self.now _ c.args.right c.in-Compound-right.is c.requires.right_valid)))

pub returns-in-Integer-right-2-clause-outcome : goal.returns-in-Integer-right-2-clause-outcome
returns-in-Integer-right-2-clause-outcome c =
    (refl, clash-at c.args.self.now c.args.left c.args.right _ _ c.in-Atom.is c.in-Integer-right-2.is (clash-sym c.args.self.now _ _ (clash-integer_atom c.args.self.now c.in-Integer-right-2.field-0 c.in-Atom.m)))

pub returns-in-Atom-right-2-clause-outcome : goal.returns-in-Atom-right-2-clause-outcome
returns-in-Atom-right-2-clause-outcome c =
    outcome-at c.args.self.now c.args.self.now c.args.work.now.items c.args.work.now.items c.args.left c.args.right _ _ _ c.in-Atom.is c.in-Atom-right-2.is (outcome-atoms c.args.self.now c.args.work.now.items c.in-Atom.m c.in-Atom-right-2.n)

pub returns-in-Compound-right-2-clause-outcome : goal.returns-in-Compound-right-2-clause-outcome
returns-in-Compound-right-2-clause-outcome c =
    (refl, clash-at c.args.self.now c.args.left c.args.right _ _ c.in-Atom.is c.in-Compound-right-2.is (clash-atom_compound c.args.self.now c.in-Atom.m c.in-Compound-right-2.field-0 c.known.ensures (is-compound c.args.self.now _ c.args.right c.in-Compound-right-2.is c.requires.right_valid)))

pub returns-in-Integer-right-3-clause-outcome : goal.returns-in-Integer-right-3-clause-outcome
returns-in-Integer-right-3-clause-outcome c =
    (refl, clash-at c.args.self.now c.args.left c.args.right _ _ c.in-Compound.is c.in-Integer-right-3.is (clash-sym c.args.self.now _ _ (clash-integer_compound c.args.self.now c.in-Integer-right-3.field-0 c.in-Compound.i c.known.ensures (is-compound c.args.self.now _ c.args.left c.in-Compound.is c.requires.left_valid))))

pub returns-in-Atom-right-3-clause-outcome : goal.returns-in-Atom-right-3-clause-outcome
returns-in-Atom-right-3-clause-outcome c =
    (refl, clash-at c.args.self.now c.args.left c.args.right _ _ c.in-Compound.is c.in-Atom-right-3.is (clash-sym c.args.self.now _ _ (clash-atom_compound c.args.self.now c.in-Atom-right-3.field-0 c.in-Compound.i c.known.ensures (is-compound c.args.self.now _ c.args.left c.in-Compound.is c.requires.left_valid))))
