use Rattle.std.proofs.Common.{◌≡◌, drop}
use Rattle.call_patterns.specs.Codes.{fnv}
use Rattle.call_patterns.proofs.coding.mixed.Given as goal

abbrev pub invariant-loop-byte : goal.invariant-loop-byte
invariant-loop-byte l = fnv l.mixed (drop l.byte-index l.bytes) ≡ fnv l.fn.hash l.bytes
