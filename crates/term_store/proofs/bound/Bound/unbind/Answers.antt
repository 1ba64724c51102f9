use Rattle.std.proofs.Common.{◌≡◌, ◌≢◌, ℕ, ap, ◌∙◌, drop}
use Rattle.term_store.specs.Inside.{slot}
use Rattle.term_store.proofs.Trails.{trailed-less, kept-less, apart}
use Rattle.term_store.proofs.bound.Bound.unbind.Goals as goal
use Rattle.term_store.proofs.bound.Bound.unbind.Goals.{After-remove}

others : (c : After-remove) (y : ℕ) → y ≢ c.in-Some.variable → slot c.remove.new.self y ≡ slot c.self.inside.slots y
others c y ne = c.remove.ensures.updates.2 y (apart c.in-Some.variable y ne)

pub invariant_of-self : goal.invariant_of-self
invariant_of-self c =
    kept-less (slot c.self.inside.slots) (slot c.remove.new.self) c.self.inside.trail.items c.pop.new.self.items c.in-Some.variable c.self.invariant
    c.remove.ensures.updates.1 (others c) c.in-Some.ensures.items

pub returns-in-Some : goal.returns-in-Some
returns-in-Some c =
    trailed-less (slot c.self.inside.slots) (slot c.remove.new.self) c.self.inside.trail.items c.pop.new.self.items c.in-Some.variable c.self.invariant
    c.remove.ensures.updates.1 (others c) c.in-Some.ensures.items
    ∙ ap (drop 1) c.self.view_is
