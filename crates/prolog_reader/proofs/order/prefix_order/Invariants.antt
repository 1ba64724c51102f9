use Rattle.std.proofs.Common.{◌≡◌, length, reverse}
use Rattle.prolog_reader.specs.Orders as spec
use Rattle.prolog_reader.specs.Orders.{nothing_written}
use Rattle.prolog_reader.proofs.order.prefix_order.Given as goal

abbrev pub invariant-nodes : goal.invariant-nodes
invariant-nodes l = spec.turned l.turning l.nodes ≡ spec.turned nothing_written (reverse l.fn.nodes.items)

abbrev pub decreases-nodes : goal.decreases-nodes
decreases-nodes l = length l.nodes
