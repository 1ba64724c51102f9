use Rattle.std.proofs.Common.{sym, subst}
use Rattle.std.specs.Prelude.{IsSome}
use Rattle.journals.specs.Journal.{clause_named}
use Rattle.journal_base.proofs.PlainViews.{seen_whole}
use Rattle.journal_base.proofs.plain.PlainBaseBase.fetch.Goals as goal

pub clause_at-requires : goal.clause_at-requires
clause_at-requires c =
    subst (λ J. IsSome (clause_named J c.args.clause)) (sym c.entries-entries.ensures)
    (seen_whole c.self.inside _ c.self.view_is (λ J. IsSome (clause_named J c.args.clause)) c.requires)
