use Rattle.std.proofs.Common.{◌≡◌}
use Rattle.prolog_session.proofs.Dynamics.{IsAhead}
use Rattle.prolog_session.proofs.load.first_fixed.Given as goal

abbrev pub invariant-procedures : goal.invariant-procedures
invariant-procedures l = (l.base ≡ l.fn.base) × IsAhead l.fn.base.entries l.indicators l.indicator-index
