use Rattle.std.proofs.Common.{◌≡◌, ◌<◌, false, length, sym, subst, arith}
use Rattle.std.specs.Prelude.{IsSome}
use Rattle.prolog_terms.specs.declared.entry.What.TheVariants.{Erase}
use Rattle.journals.specs.Journal.{clause_named, is_erased}
use Rattle.journal_base.specs.Legal.{MayChangeClause}
use Rattle.journal_base.specs.Plain.{Plain, plain_view}
use Rattle.journal_base.specs.View.{InSeen}
use Rattle.journal_base.specs.PlainInside.{AreKept}
use Rattle.journal_base.proofs.PlainViews.{seen_whole}
use Rattle.journal_base.proofs.PlainSteps.{appends_with}
use Rattle.journal_base.proofs.Kept.{kept-erased, may_erase}
use Rattle.journal_base.proofs.plain.PlainBase.erase_clause.Goals as goal
use Rattle.journal_base.proofs.plain.PlainBase.erase_clause.Goals.{After-erase}

pub eraser-requires : goal.eraser-requires
eraser-requires c = seen_whole c.self.inside _ c.self.view_is (λ J. IsSome (clause_named J c.args.clause)) c.requires.added

pub erase-requires-clause-added : goal.erase-requires-clause-added
erase-requires-clause-added c = seen_whole c.self.inside _ c.self.view_is (λ J. IsSome (clause_named J c.args.clause)) c.requires.added

kept : (c : After-erase) → AreKept c.self.inside.words c.self.inside.updates c.erase.new.self.entries c.self.inside.found c.self.inside.declared c.self.inside.used
kept c =
    let named : IsSome (clause_named c.self.inside.ledger.entries c.args.clause) = seen_whole c.self.inside _ c.self.view_is (λ J. IsSome (clause_named J c.args.clause)) c.requires.added in
    let may : MayChangeClause c.self.inside.ledger.entries c.self.inside.number c.args.clause =
    seen_whole c.self.inside _ c.self.view_is (λ J. MayChangeClause J c.self.inside.number c.args.clause)
    (subst (λ (s : Plain). InSeen (plain_view c.args.self.now) (λ J. MayChangeClause J s.number c.args.clause)) (sym c.self.view_is) c.requires.permitted) in
    let alive : is_erased c.self.inside.ledger.entries c.args.clause ≡ false = c.eraser.ensures.none c.in_default.is in
    let short : length c.self.inside.ledger.entries < c.self.inside.updates = omega (arith, c.count-updates.ensures, c.if-updates-self.false, c.self.invariant.legal.few) in
    subst (λ J. AreKept c.self.inside.words c.self.inside.updates J c.self.inside.found c.self.inside.declared c.self.inside.used) (sym c.erase.ensures)
    (kept-erased _ _ _ _ _ _ c.self.invariant c.self.inside.number c.args.clause (may_erase c.self.inside.ledger.entries c.self.inside.number c.args.clause named alive may) short)

pub invariant_of-self : goal.invariant_of-self
invariant_of-self c = kept (goal.at.invariant_of-self c).After-erase

pub returns-clause-answer : goal.returns-clause-answer
returns-clause-answer c =
    appends_with c.self.inside _ c.erase.new.self.entries (Erase c.args.clause) c.self.view_is c.erase.ensures c.self.invariant.sizes (kept (goal.at.returns-clause-answer c).After-erase).legal
