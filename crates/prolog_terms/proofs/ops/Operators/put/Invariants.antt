use Rattle.std.proofs.Common.{◌≡◌, map, drop}
use Rattle.prolog_terms.specs.Operators.{all_declared}
use Rattle.prolog_terms.proofs.ops.Operators.put.Given as goal

abbrev pub invariant-loop-name : goal.invariant-loop-name
invariant-loop-name l = all_declared l.priority l.kind (map (λ n. n.now) (drop l.name-index l.names)) l.self ≡ all_declared l.priority l.kind (map (λ n. n.now) l.names) l.fn.self
