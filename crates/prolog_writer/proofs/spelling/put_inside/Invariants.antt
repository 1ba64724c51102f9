use Rattle.std.proofs.Common.{◌≡◌, ◌++◌, drop}
use Rattle.std.specs.List.{flat_map}
use Rattle.prolog_writer.specs.Spelling.{escaped}
use Rattle.prolog_writer.proofs.spelling.put_inside.Given as goal

abbrev pub invariant-loop-byte : goal.invariant-loop-byte
invariant-loop-byte l = l.text.items ++ flat_map escaped (drop l.byte-index l.name) ≡ l.fn.text.items ++ flat_map escaped l.name
