use Rattle.std.proofs.Common.{take}
use Rattle.term_builtins.proofs.Bytewise.{AreMade}
use Rattle.term_builtins.proofs.atoms.byte_cells.Given as goal

abbrev pub invariant-loop-byte : goal.invariant-loop-byte
invariant-loop-byte l = AreMade l.fn.names l.names l.form (take l.byte-index l.text) l.cells.items
