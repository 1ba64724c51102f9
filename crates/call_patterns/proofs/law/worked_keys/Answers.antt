use Rattle.std.proofs.Common.{refl}
use Rattle.call_patterns.specs.Codes.{codes, fnv}
use Rattle.call_patterns.specs.Keys.{could_match, keys}
use Rattle.call_patterns.specs.Patterns.{pattern, pattern_codes}
use Rattle.call_patterns.specs.Rows.{bucket}
use Rattle.call_patterns.proofs.law.worked_keys.Goals as goal

pub returns : goal.returns
unfolding could_match keys codes fnv pattern pattern_codes bucket
returns c = record {
  some_a = refl;
  no_atom = refl;
  all_of_p = refl;
  first_argument = refl;
  second_argument = refl;
  its_argument = refl;
  no_position = refl;
  forty = refl;
  each_argument = refl;
  each_inner = refl;
  agreeing_a = refl;
  agreeing_all = refl;
}
