use Rattle.std.proofs.Common.{◌≡◌, ◌≤◌, length, drop, false}
use Rattle.std.specs.Prelude.{map}
use Rattle.wam_machine.specs.Terms.{is_any_open}
use Rattle.wam_machine.proofs.Tops.{seen_as}
use Rattle.wam_machine.proofs.choices.any_open.Given as goal

abbrev pub invariant-loop-left : goal.invariant-loop-left
invariant-loop-left g l = record {
  within : l.left ≤ length l.terms.choices.items;
  closed : is_any_open (map (seen_as l.terms) (drop l.left l.terms.choices.items)) ≡ false;
}

abbrev pub decreases-loop-left : goal.decreases-loop-left
decreases-loop-left g l = l.left
