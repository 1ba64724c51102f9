use Rattle.std.proofs.Common.{◌+◌, ◌-◌}
use Rattle.wam_machine.proofs.SweptLeft.{IsSweeping}
use Rattle.wam_machine.proofs.sweeping.sweep_left.Given as goal

abbrev pub invariant-loop-name : goal.invariant-loop-name
invariant-loop-name g l = record {
  becomes : g.B.Base.becomes l.fn.base l.base;
  sweeps : IsSweeping (g.B.Base.view l.fn.base) (g.B.Base.view l.base) (g.B.Base.serves l.fn.base) (g.B.Base.serves l.base) g.B.Base.group (g.B.Base.out l.fn.base) (g.B.Base.out l.base)
      g.B.Base.rest g.B.Base.may_visit g.B.Base.looked_at g.B.Base.ahead l.host l.goal l.fn.machine l.machine l.fn.call l.call;
}

abbrev pub decreases-loop-name : goal.decreases-loop-name
decreases-loop-name g l = 0x8000_0000_0000_0000 + g.B.Base.ahead l.call.cursor - l.machine.tally.visits
