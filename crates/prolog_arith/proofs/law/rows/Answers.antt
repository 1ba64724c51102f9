use Rattle.prolog_arith.proofs.Examples.{has_sums, has_divisions, has_bits, has_shifts, has_far_shifts, has_faults}
use Rattle.prolog_arith.proofs.law.rows.Goals as goal

pub returns : goal.returns
returns c = record {
  sums = has_sums;
  divisions = has_divisions;
  bits = has_bits;
  shifts = has_shifts;
  far_shifts = has_far_shifts;
  faults = has_faults;
}
