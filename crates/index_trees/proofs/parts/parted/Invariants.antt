use Rattle.std.proofs.Common.{◌≡◌, length, take}
use Rattle.index_trees.specs.Parts.{AreParts}
use Rattle.index_trees.proofs.parts.parted.Given as goal

abbrev pub invariant-loop-item : goal.invariant-loop-item
invariant-loop-item l = record {
  many : length l.children.items ≡ length l.codes.items;
  parts : AreParts l.level (take l.item-index l.items) l.codes.items l.children.items l.rest.items;
}
