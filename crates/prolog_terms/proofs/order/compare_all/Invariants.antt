use Rattle.std.proofs.Common.{◌≡◌, length}
use Rattle.std.specs.Cmp.Lexicographic.{slice_cmp}
use Rattle.prolog_terms.specs.Order.{node_order}
use Rattle.prolog_terms.proofs.order.compare_all.Given as goal

abbrev pub invariant-loop-node : goal.invariant-loop-node
invariant-loop-node l = slice_cmp node_order l.left l.right ≡ slice_cmp node_order l.fn.first l.fn.second

abbrev pub decreases-loop-node : goal.decreases-loop-node
decreases-loop-node l = length l.left
