use Rattle.std.proofs.Common.{ap, ◌∙◌}
use Rattle.journal_base.specs.View.{none_out}
use Rattle.wam_machine.specs.Terms.{Said, calls_in}
use Rattle.wam_machine.specs.View.{all_out}
use Rattle.wam_machine.proofs.Cleared.{none_left}
use Rattle.wam_machine.proofs.running.clear.Goals as goal

pub returns-clause-none : goal.returns-clause-none
returns-clause-none g c = none_left c.cut_back.new.terms (ap (λ (s : Said _). s.stack) c.cut_back.ensures.said)

pub returns-clause-out : goal.returns-clause-out
returns-clause-out g c =
    c.cut_back.ensures.kept.out_is ∙ ap (λ (s : Said _). all_out g.B.Base.group none_out (calls_in s.stack)) c.cut_back.ensures.said
