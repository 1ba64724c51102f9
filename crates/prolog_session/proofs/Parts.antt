-- What a load needs of the parts of a text.
use Rattle.std.proofs.Common.{ℕ, get_or}
use Rattle.prolog_terms.specs.Tree.{Tree}
use Rattle.prolog_clauses.specs.Directives.{IsGoalOf, IsReady}
use Rattle.prolog_clauses.specs.declared.directive.Directive.{Directive}
use Rattle.prolog_clauses.specs.declared.directive.Directive.TheVariants.{Operators as ForOperators, Dynamic as ForProcedures, Nothing as ForNothing, Kept as ForTheEnd, Goal as ToRun}
use Rattle.prolog_reader.specs.Texts.{Reading, HasItsVariables}
use Rattle.wam_machine.specs.Runs.{AreShown}
use Rattle.prolog_session.specs.Load.{part_of_directive, asked, IsReadyPart}

-- the shown variables of a directive's goal stand in it
goal-shown : (line : ℕ) (r : Reading) (g : Tree) → HasItsVariables r → IsGoalOf r.term g → AreShown (asked line r.shown g).goal
goal-shown line r g h k = λ n d lt. k.variables (get_or r.shown n d).var (h.stand n d lt)

pub ready-directive : (line : ℕ) (r : Reading) (d : Directive) → HasItsVariables r → IsReady r.term d → IsReadyPart (part_of_directive line r.shown d)
ready-directive line r (ForOperators d) h k = k
ready-directive line r (ForProcedures d) h k = tt
ready-directive line r ForNothing h k = tt
ready-directive line r (ForTheEnd g) h k = goal-shown line r g h k
ready-directive line r (ToRun g) h k = goal-shown line r g h k
