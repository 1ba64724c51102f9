use Rattle.std.proofs.Common.{◌≡◌, ℕ, ◌<◌, ◌≤◌, [], ◌∷◌, ◌++◌, length, get_or}
use Rattle.std.specs.Global.{Vec}
use Rattle.index_trees.specs.declared.item.Item.{Item}
use Rattle.index_trees.proofs.parts.give.Given as goal

abbrev pub invariant-loop-child : goal.invariant-loop-child
invariant-loop-child l = record {
  many : length l.child-items ≡ length l.fn.children.items;
  done : (k : ℕ) (d : Vec Item) → k < l.child-index → (get_or l.child-items k d).items ≡ (get_or l.fn.children.items k d).items ++ l.item ∷ [];
  left : (k : ℕ) (d : Vec Item) → l.child-index ≤ k → get_or l.child-items k d ≡ get_or l.fn.children.items k d;
}
