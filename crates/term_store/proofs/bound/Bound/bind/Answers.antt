use Rattle.std.proofs.Common.{◌≡◌, ◌≢◌, ℕ, None, ap, ◌∙◌, List, ◌++◌, ◌∷◌, []}
use Rattle.term_store.specs.declared.cell.Cell.{Cell}
use Rattle.term_store.specs.Terms.{lookup}
use Rattle.term_store.specs.Inside.{slot, trailed}
use Rattle.term_store.proofs.Trails.{trailed-more, kept-more, apart}
use Rattle.term_store.proofs.bound.Bound.bind.Goals as goal
use Rattle.term_store.proofs.bound.Bound.bind.Goals.{In_ok-push}

free : (c : In_ok-push) → lookup (trailed (slot c.self.inside.slots) c.self.inside.trail.items) c.args.variable ≡ None
free c = ap (λ (bs : List (ℕ × Cell)). lookup bs c.args.variable) c.self.view_is ∙ c.requires

others : (c : In_ok-push) (y : ℕ) → y ≢ c.args.variable → slot c.insert.new.self y ≡ slot c.self.inside.slots y
others c y ne = c.in_ok-insert.ensures.updates.2 y (apart c.args.variable y ne)

trail_is : (c : In_ok-push) → c.push.new.self.items ≡ c.self.inside.trail.items ++ c.args.variable ∷ []
trail_is c = c.in_ok-push.ensures.items ∙ ap (λ (xs : List ℕ). xs ++ c.args.variable ∷ []) c.in_ok-reserve.ensures.items

pub invariant_of-self-2 : goal.invariant_of-self-2
invariant_of-self-2 c =
    kept-more (slot c.self.inside.slots) (slot c.insert.new.self) c.self.inside.trail.items c.push.new.self.items c.args.variable c.args.cell
    (free c) c.in_ok-insert.ensures.updates.1 (others c) (trail_is c) c.self.invariant

pub returns-clause-ok : goal.returns-clause-ok
returns-clause-ok c =
    trailed-more (slot c.self.inside.slots) (slot c.insert.new.self) c.self.inside.trail.items c.push.new.self.items c.args.variable c.args.cell
    (free c) c.in_ok-insert.ensures.updates.1 (others c) (trail_is c)
    ∙ ap (λ (bs : List (ℕ × Cell)). (c.args.variable, c.args.cell) ∷ bs) c.self.view_is
