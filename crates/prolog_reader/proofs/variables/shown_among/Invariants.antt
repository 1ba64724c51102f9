use Rattle.std.proofs.Common.{◌≡◌, ◌++◌, length}
use Rattle.prolog_reader.specs.Numberings.{shown_of}
use Rattle.prolog_reader.proofs.variables.shown_among.Given as goal

abbrev pub invariant-entries : goal.invariant-entries
invariant-entries l = l.shown.items ++ shown_of l.left ≡ shown_of l.fn.entries

abbrev pub decreases-entries : goal.decreases-entries
decreases-entries l = length l.left
