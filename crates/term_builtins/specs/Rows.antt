-- The table of the builtins as the code has it.
use Rattle.term_builtins.specs.declared.table.Builtin.{Builtin}
use Rattle.term_builtins.specs.Table.{Row}

-- a row of the code's table
abbrev pub told : Builtin → Row
told b = record { name = b.name.now; arity = b.arity; what = b.what }
