use Rattle.std.proofs.Common.{sym, subst, ◌∷◌, ◌++◌, [], List, ℕ}
use Rattle.term_store.specs.declared.cell.Cell.{Cell}
use Rattle.term_store.specs.Shape.{Shape}
use Rattle.term_store.specs.Terms.{IsShape}
use Rattle.term_store.proofs.Shapes.{shape-compound}
use Rattle.term_store.proofs.store.Store.compound.Goals as goal

pub invariant_of-self-2 : goal.invariant_of-self-2
invariant_of-self-2 c =
    subst (λ (rows : List (ℕ × List Cell)). IsShape (record { compounds = rows; bindings = c.self.inside.bound; variables = c.self.inside.variables })) (sym c.in_ok-push.ensures.ok)
    (subst (λ (s : Shape). IsShape (record s { compounds = s.compounds ++ (c.args.name, c.args.args.now) ∷ [] })) (sym c.self.view_is)
    (shape-compound c.args.self.now c.args.name c.args.args.now (subst IsShape c.self.view_is c.self.invariant) c.requires.some c.requires.few c.requires.valid))
