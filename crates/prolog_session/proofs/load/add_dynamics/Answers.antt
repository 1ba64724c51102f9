use Rattle.std.proofs.Common.{refl}
use Rattle.prolog_session.proofs.Dynamics.{ok_both}
use Rattle.prolog_session.proofs.Takings.{takes_declared}
use Rattle.prolog_session.proofs.load.add_dynamics.Goals as goal

pub returns-in-Declares : goal.returns-in-Declares
returns-in-Declares g c =
    rw c.in-Declares.is (ok_both c.add_dynamic.result _ _ _ c.add_dynamic.ensures.base c.add_dynamic.ensures.loaded (λ b l. λ budget. takes_declared budget _ _ c.args.line _ b l refl refl))
