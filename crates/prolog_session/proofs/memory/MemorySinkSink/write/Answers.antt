use Rattle.std.proofs.Common.{rules, arith, inl, inr}
use Rattle.std.proofs.lemmas.Grind.{common_steps}
use Rattle.prolog_session.proofs.memory.MemorySinkSink.write.Goals as goal
use Rattle.prolog_session.proofs.memory.MemorySinkSink.write.Goals.{then-count-eq0-via-then-count-eq0, then-count-eq0-via-else-count-eq0+then-contains}

pub returns-then-count-eq0-clause-exact : goal.returns-then-count-eq0-clause-exact
returns-then-count-eq0-clause-exact c = (
  elim c.then-count-eq0.branch [
    | then-count-eq0-via-then-count-eq0 w ↦ inr (rw (← c.self.view_is) (omega arith))
    | then-count-eq0-via-else-count-eq0+then-contains w ↦ inl (grind (arith, common_steps))
  ],
  search rules,
)
