use Rattle.std.proofs.Common.{ap}
use Rattle.term_builtins.specs.Table.{Row, builtins}
use Rattle.term_builtins.proofs.Tabled.{row_told}
use Rattle.term_builtins.proofs.table.row_in.Goals as goal

pub returns : goal.returns
returns c = record {
  name = ap (λ (r : Row). r.name) (row_told builtins c.args.place c.args.rows.now _ c.requires.rows c.requires.place);
  arity = ap (λ (r : Row). r.arity) (row_told builtins c.args.place c.args.rows.now _ c.requires.rows c.requires.place);
  what = ap (λ (r : Row). r.what) (row_told builtins c.args.place c.args.rows.now _ c.requires.rows c.requires.place);
}
