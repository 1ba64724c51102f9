use Rattle.std.proofs.Common.{◌<◌, ◌^◌, length, arith}
use Rattle.journal_base.proofs.PlainViews.{still_from, looked, visited, visited_few}
use Rattle.journal_base.proofs.Fated.{told_whole}
use Rattle.journal_base.proofs.plain.PlainBaseBase.look.Goals as goal

pub seek-found-requires-clause-fates : goal.seek-found-requires-clause-fates
seek-found-requires-clause-fates c = told_whole _ _ _ c.fates.ensures c.entries-seen.ensures

pub returns-clause-seen : goal.returns-clause-seen
returns-clause-seen c = still_from c.self.inside _ c.self.view_is c.self.invariant

pub returns-clause-clauses : goal.returns-clause-clauses
returns-clause-clauses c = λ J is. looked _ _ J c.entries-seen.ensures is _ c.seek-found.result.next _ c.seek-found.ensures.found

pub returns-clause-visits : goal.returns-clause-visits
returns-clause-visits c = λ J is. visited _ _ J c.entries-seen.ensures is _ _ _ _ c.seek-found.ensures.visits

pub returns-clause-raised : goal.returns-clause-raised
returns-clause-raised c =
    let few : length c.self.inside.ledger.entries < 2 ^ 24 = omega (arith, c.self.invariant.legal.few, c.self.invariant.sizes.few_updates) in
    λ J is. visited_few _ _ J c.entries-seen.ensures is _ _ _ _ c.seek-found.ensures.visits few
