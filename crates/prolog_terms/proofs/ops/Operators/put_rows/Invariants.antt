use Rattle.std.proofs.Common.{◌≡◌, map, drop}
use Rattle.prolog_terms.specs.Operators.{row, rows_declared}
use Rattle.prolog_terms.proofs.ops.Operators.put_rows.Given as goal

abbrev pub invariant-loop-row : goal.invariant-loop-row
invariant-loop-row l =
    rows_declared (map (λ r. row r.0 r.1 (map (λ n. n.now) r.2.now)) (drop l.row-index l.rows)) l.self
    ≡ rows_declared (map (λ r. row r.0 r.1 (map (λ n. n.now) r.2.now)) l.rows) l.fn.self
