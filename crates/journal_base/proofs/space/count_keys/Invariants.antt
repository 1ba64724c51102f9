use Rattle.std.proofs.Common.{◌≡◌, ◌≤◌, length, map, filter}
use Rattle.std.specs.Prelude.{is_some}
use Rattle.prolog_terms.specs.Flat.{tree}
use Rattle.journals.specs.Numbers.{numbers_from}
use Rattle.call_patterns.specs.Keys.{key_at}
use Rattle.journal_base.proofs.space.count_keys.Given as goal

abbrev pub invariant-loop-position : goal.invariant-loop-position
invariant-loop-position l = record {
  counted : l.count ≡ length (filter is_some (map (key_at (tree l.nodes)) (numbers_from 0 l.position)));
  few : l.count ≤ l.position;
}
