use Rattle.std.proofs.Common.{◌≡◌, None, take, drop}
use Rattle.prolog_terms.specs.Operators.{all_declared}
use Rattle.prolog_clauses.specs.Declarations.{permission}
use Rattle.prolog_clauses.proofs.table.declare_all.Given as goal

abbrev pub invariant-loop-name : goal.invariant-loop-name
invariant-loop-name l = record {
  same : l.ops ≡ all_declared l.declaration.priority l.declaration.kind (take l.name-index l.names) l.fn.ops;
  allowed : permission l.ops l.declaration.priority l.declaration.kind (drop l.name-index l.names) ≡ None;
}
