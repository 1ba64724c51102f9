use Rattle.std.proofs.Common.{◌≡◌, drop}
use Rattle.prolog_clauses.specs.Declarations.{permission}
use Rattle.prolog_clauses.proofs.table.permission.Given as goal

abbrev pub invariant-loop-name : goal.invariant-loop-name
invariant-loop-name l =
    permission l.ops l.declaration.priority l.declaration.kind (drop l.name-index l.names) ≡ permission l.ops l.declaration.priority l.declaration.kind l.names
