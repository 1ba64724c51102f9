use Rattle.std.proofs.Common.{drop}
use Rattle.prolog_session.proofs.Dynamics.{IsDeclaring}
use Rattle.prolog_session.proofs.load.declare_dynamic.Given as goal

abbrev pub invariant-procedures : goal.invariant-procedures
invariant-procedures g l = IsDeclaring l.fn.base l.base l.indicators (drop l.indicator-index l.indicators)
