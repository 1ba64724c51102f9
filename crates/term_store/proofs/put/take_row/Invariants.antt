use Rattle.std.proofs.Common.{◌≡◌, ◌++◌, length, reverse}
use Rattle.term_store.proofs.put.take_row.Given as goal

abbrev pub invariant-loop : goal.invariant-loop
invariant-loop l = record {
  row : reverse l.fn.stack.items ≡ l.row.items ++ reverse l.stack.items;
  long : length l.row.items ≡ l.counter;
}
