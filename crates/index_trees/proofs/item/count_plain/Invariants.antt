use Rattle.std.proofs.Common.{◌≡◌, ◌≤◌, length, take}
use Rattle.std.specs.List.{filter}
use Rattle.index_trees.specs.Items.{has_no_code}
use Rattle.index_trees.proofs.item.count_plain.Given as goal

abbrev pub invariant-loop-item : goal.invariant-loop-item
invariant-loop-item l = record {
  count : l.count ≡ length (filter (has_no_code l.level) (take l.item-index l.items));
  few : l.count ≤ l.item-index;
}
