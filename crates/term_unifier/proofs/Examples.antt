-- The rows, computed.
use Rattle.std.proofs.Common.{refl}
use Rattle.term_unifier.specs.Unifier.{unifier}
use Rattle.term_unifier.specs.Rows.{HasRows}

pub has_rows : HasRows
unfolding unifier
has_rows = record {
  both_sides = refl;
  younger_right = refl;
  younger_left = refl;
  chain = refl;
  inside = refl;
  free = refl;
  itself = refl;
  occurring = refl;
  occurring_later = refl;
  two_values = refl;
  two_names = refl;
  two_numbers = refl;
  two_atoms = refl;
  two_integers = refl;
  two_kinds = refl;
}
