use Rattle.std.proofs.Common.{sym, subst, ◌∷◌, List, ℕ}
use Rattle.term_store.specs.declared.cell.Cell.{Cell}
use Rattle.term_store.specs.Shape.{Shape}
use Rattle.term_store.specs.Terms.{IsShape}
use Rattle.term_store.proofs.Shapes.{shape-bind}
use Rattle.term_store.proofs.store.Store.bind.Goals as goal

pub invariant_of-self-2 : goal.invariant_of-self-2
invariant_of-self-2 c =
    subst (λ (bs : List (ℕ × Cell)). IsShape (record { compounds = c.self.inside.heap; bindings = bs; variables = c.self.inside.variables })) (sym c.in_ok-bind.ensures.ok)
    (subst (λ (s : Shape). IsShape (record s { bindings = (c.args.variable, c.args.cell) ∷ s.bindings })) (sym c.self.view_is)
    (shape-bind c.args.self.now c.args.variable c.args.cell (subst IsShape c.self.view_is c.self.invariant) c.requires.inside c.requires.valid c.requires.free c.requires.older c.requires.absent))
