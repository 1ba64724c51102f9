use Rattle.std.specs.Prelude.{◌≡◌}
use Rattle.journals.specs.Journal.{Journal}
use Rattle.journal_base.specs.View.{Grows}
use Rattle.wam_machine.specs.Cursors.{Begins}
use Rattle.wam_machine.specs.Terms.{said}
use Rattle.wam_machine.specs.View.{IsReady, IsLed, Makes, setting}
use Rattle.wam_machine.proofs.running.moves.Given as goal

abbrev pub invariant-loop : goal.invariant-loop
invariant-loop g l = record {
  seen : Grows (g.B.Base.view l.fn.base) (g.B.Base.view l.base);
  becomes : g.B.Base.becomes l.fn.base l.base;
  ready : IsReady (g.B.Base.view l.base) (g.B.Base.serves l.base) g.B.Base.group (g.B.Base.out l.base) g.B.Base.rest g.B.Base.may_visit g.B.Base.looked_at l.host.budget l.machine;
  shown : (said l.machine.terms).shown ≡ (said l.fn.machine.terms).shown;
  led : Makes (g.B.Base.view l.fn.base) (g.B.Base.view l.base) (λ made. (j : Journal) → Begins (g.B.Base.view l.base) j
      → IsLed g.B.Base.rest g.B.Base.may_visit g.B.Base.looked_at g.B.Base.ahead (g.B.Base.view l.base).causes made (setting l.host l.fn.machine j) l.goal.term l.machine);
}
