use Rattle.journal_base.proofs.PlainViews.{still_at}
use Rattle.journal_base.proofs.plain.PlainBaseBase.next.Goals as goal

pub returns-in_err-next-clause-seen : goal.returns-in_err-next-clause-seen
returns-in_err-next-clause-seen c = still_at c.self.inside _ c.self.view_is c.self.invariant

pub returns-clause-seen : goal.returns-clause-seen
returns-clause-seen c = still_at c.self.inside _ c.self.view_is c.self.invariant
