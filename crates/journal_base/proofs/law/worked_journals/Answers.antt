use Rattle.journal_base.proofs.WorkedJournals.{has_journals}
use Rattle.journal_base.proofs.law.worked_journals.Goals as goal

pub returns : goal.returns
returns c = has_journals
