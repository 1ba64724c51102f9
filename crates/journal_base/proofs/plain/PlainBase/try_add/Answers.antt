use Rattle.std.proofs.Common.{◌≡◌, ◌+◌, ◌<◌, ◌∙◌, ◌++◌, ◌∷◌, [], length, length-append, sym, ap, subst, arith}
use Rattle.prolog_terms.specs.declared.entry.Clause.{Clause}
use Rattle.prolog_terms.specs.declared.entry.What.TheVariants.{Add}
use Rattle.journals.specs.Journal.{Journal}
use Rattle.journal_base.specs.Legal.{MayAdd}
use Rattle.journal_base.specs.Space.{used}
use Rattle.journal_base.specs.View.{InSeen}
use Rattle.journal_base.specs.Plain.{Plain, plain_view}
use Rattle.journal_base.specs.PlainInside.{AreKept}
use Rattle.journal_base.proofs.PlainViews.{seen_whole}
use Rattle.journal_base.proofs.PlainSteps.{still_with, in_seen, appends_with}
use Rattle.journal_base.proofs.Kept.{kept-added}
use Rattle.journal_base.proofs.plain.PlainBase.try_add.Goals as goal
use Rattle.journal_base.proofs.plain.PlainBase.try_add.Goals.{After-add}

pub returns-then-is_full-clause-answer : goal.returns-then-is_full-clause-answer
returns-then-is_full-clause-answer c = (
  still_with c.self.inside _ c.reserve.new.self.entries c.self.view_is c.self.invariant c.reserve.ensures.entries,
  record {
    needs = sym (c.in_ok-need.ensures c.args.end c.args.procedure);
    seen = in_seen c.self.inside c.reserve.new.self.entries (λ J. (used J ≡ c.self.inside.used) × (length J ≡ c.count-updates.result))
        (ap used c.reserve.ensures.entries ∙ sym c.self.invariant.summed, sym c.count-updates.ensures);
    full = c.is_full.ensures.full c.if-is_full.true;
  },
)

made : (c : After-add) → c.add.new.self.entries ≡ c.self.inside.ledger.entries ++ record { by = c.self.inside.number; what = Add c.args.end c.args.procedure c.args.clause.now } ∷ []
made c =
    c.add.ensures
    ∙ ap (λ (J : Journal). J ++ record { by = c.self.inside.number; what = Add c.args.end c.args.procedure c.in_ok-copy.copy } ∷ []) c.reserve.ensures.entries
    ∙ ap (λ (k : Clause). c.self.inside.ledger.entries ++ record { by = c.self.inside.number; what = Add c.args.end c.args.procedure k } ∷ []) c.in_ok-copy.ensures

kept : (c : After-add) → AreKept c.self.inside.words c.self.inside.updates c.add.new.self.entries c.self.inside.found c.self.inside.declared (c.self.inside.used + c.in_ok-need.need)
kept c =
    let may : MayAdd c.self.inside.ledger.entries c.self.inside.number c.args.procedure c.args.clause.now =
    seen_whole c.self.inside _ c.self.view_is (λ J. MayAdd J c.self.inside.number c.args.procedure c.args.clause.now)
    (subst (λ (s : Plain). InSeen (plain_view c.args.self.now) (λ J. MayAdd J s.number c.args.procedure c.args.clause.now)) (sym c.self.view_is) c.requires) in
    let room = c.is_full.ensures.room c.if-is_full.false in
    let long : c.count-updates.result ≡ length c.self.inside.ledger.entries = c.count-updates.ensures ∙ ap length c.reserve.ensures.entries in
    let apart = room.1 in
    let short : length c.self.inside.ledger.entries < c.self.inside.updates = omega (arith, long, apart, c.self.invariant.legal.few) in
    subst (λ J. AreKept c.self.inside.words c.self.inside.updates J c.self.inside.found c.self.inside.declared (c.self.inside.used + c.in_ok-need.need)) (sym (made c))
    (kept-added _ _ _ _ _ _ c.self.invariant c.self.inside.number c.args.procedure c.args.end c.args.clause.now c.in_ok-need.need may
    (c.in_ok-need.ensures c.args.end c.args.procedure) room.0 short)

pub invariant_of-self-2 : goal.invariant_of-self-2
invariant_of-self-2 c = kept (goal.at.invariant_of-self-2 c).After-add

pub returns-clause-answer : goal.returns-clause-answer
returns-clause-answer c =
    let d = (goal.at.returns-clause-answer c).After-add in
    let more : length c.add.new.self.entries ≡ length c.reserve.new.self.entries + 1 = ap length c.add.ensures ∙ length-append c.reserve.new.self.entries _ in (
      appends_with c.self.inside _ c.add.new.self.entries (Add c.args.end c.args.procedure c.args.clause.now) c.self.view_is (made d) c.self.invariant.sizes (kept d).legal,
      more ∙ ap (λ n. n + 1) (sym c.count-updates.ensures),
    )
