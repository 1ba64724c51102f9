use Rattle.std.proofs.Common.{codes, pos, arith}
use Rattle.std.proofs.lemmas.Grind.{common_steps}
use Rattle.prolog_terms.specs.Tree.{atom, integer}
use Rattle.prolog_terms.specs.Faults.{two}
use Rattle.prolog_arith.proofs.faults.indicator.Goals as goal

pub from_prefix-requires : goal.from_prefix-requires
from_prefix-requires c =
    (two (codes "/") (atom c.args.name.now) (integer (pos c.args.arity)), ((omega arith, omega arith, (tt, (tt, tt))), grind (arith, common_steps)))
