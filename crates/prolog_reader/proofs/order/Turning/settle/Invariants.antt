use Rattle.std.proofs.Common.{◌≡◌, length}
use Rattle.prolog_reader.specs.Orders as spec
use Rattle.prolog_reader.proofs.order.Turning.settle.Given as goal

abbrev pub invariant-pending : goal.invariant-pending
invariant-pending l = spec.settled l.self-inside.pending l.self-inside.written ≡ spec.settled l.fn.self.pending l.fn.self.written

abbrev pub decreases-pending : goal.decreases-pending
decreases-pending l = length l.self-inside.pending
