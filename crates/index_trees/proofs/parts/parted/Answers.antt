use Rattle.std.proofs.Common.{List, subst}
use Rattle.std.proofs.lemmas.List.{take_all}
use Rattle.index_trees.specs.declared.item.Item.{Item}
use Rattle.index_trees.specs.Parts.{AreParts}
use Rattle.index_trees.proofs.Parting.{split_from_parts}
use Rattle.index_trees.proofs.parts.parted.Goals as goal

pub returns : goal.returns
returns c =
    let P : List Item → Type 0 = λ xs. AreParts c.args.level xs c.args.codes.items c.loop-item.children.items c.loop-item.rest.items in
    split_from_parts c.args.level c.args.items.now c.args.codes.items c.loop-item.children.items c.loop-item.rest.items
    c.requires.ascending c.requires.are c.loop-item.invariant.many c.requires.complete
    (subst P (take_all c.loop-item.item-index c.args.items.now c.loop-item-test.false) c.loop-item.invariant.parts)
