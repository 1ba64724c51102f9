use Rattle.std.proofs.Common.{ℕ, sym, ap, ◌∙◌, subst}
use Rattle.index_trees.specs.Levels.{tree_words}
use Rattle.index_trees.specs.Limits.{IsSize}
use Rattle.index_trees.proofs.Rowed.{placed, size_is}
use Rattle.index_trees.proofs.sizing.tree_size.Goals as goal

pub returns : goal.returns
returns c =
    let items = placed c.args.pattern c.args.rows.now c.places_of.result c.deref.result.now c.places_of.ensures (c.deref.ensures.value ∙ c.in-Ok.ensures) in
    subst (λ (n : ℕ). IsSize n c.args.limit c.items_size.result) (ap (tree_words c.args.pattern.count) items ∙ sym (size_is c.args.pattern c.args.rows.now c.requires)) c.items_size.ensures
