use Rattle.std.proofs.Common.{◌≡◌, ◌+◌, ◌<◌, ◌∙◌, ◌++◌, ◌∷◌, [], length, refl, sym, ap, subst, arith, None, Some}
use Rattle.std.specs.HashMap.{Updates}
use Rattle.prolog_terms.specs.declared.entry.Indicator.{Indicator}
use Rattle.prolog_terms.specs.declared.entry.What.TheVariants.{Declare}
use Rattle.journals.specs.Journal.{Journal, procedure_named, same_indicator}
use Rattle.journal_base.specs.Legal.{MayChange}
use Rattle.journal_base.specs.Space.{used}
use Rattle.journal_base.specs.Plain.{Plain}
use Rattle.journal_base.specs.PlainInside.{AreKept}
use Rattle.journal_base.proofs.PlainSteps.{still_with, in_seen, appends_with, continued_with}
use Rattle.journal_base.proofs.Kept.{kept-declared, kept-still, few_declared}
use Rattle.journal_base.proofs.Procedures.{no_number, declared-there}
use Rattle.journal_base.proofs.plain.PlainBase.try_declare.Goals as goal
use Rattle.journal_base.proofs.plain.PlainBase.try_declare.Goals.{After-look_up, After-declare}

-- what the map told is so of the entries
told : (c : After-look_up) → procedure_named c.reserve.new.self.entries c.args.indicator.now ≡ c.look_up.result
told c =
    ap (λ (J : Journal). procedure_named J c.args.indicator.now) c.reserve.ensures.entries
    ∙ sym (c.look_up.ensures ∙ c.make_room.ensures.same c.args.indicator.now ∙ c.self.invariant.found_in c.args.indicator.now)

pub invariant_of-self-in-Some : goal.invariant_of-self-in-Some
invariant_of-self-in-Some c = kept-still _ _ _ _ _ _ _ _ c.self.invariant c.reserve.ensures.entries c.make_room.ensures.same

pub returns-in-Some-clause-answer : goal.returns-in-Some-clause-answer
returns-in-Some-clause-answer c = (
  still_with c.self.inside _ c.reserve.new.self.entries c.self.view_is c.self.invariant c.reserve.ensures.entries,
  in_seen c.self.inside c.reserve.new.self.entries (λ J. procedure_named J c.args.indicator.now ≡ Some (c.in-Some.number, c.in-Some.kind))
      (told (goal.at.returns-in-Some-clause-answer c).After-look_up ∙ c.in-Some.is),
)

pub invariant_of-self-then-is_full : goal.invariant_of-self-then-is_full
invariant_of-self-then-is_full c = kept-still _ _ _ _ _ _ _ _ c.self.invariant c.reserve.ensures.entries c.make_room.ensures.same

pub returns-then-is_full-clause-answer : goal.returns-then-is_full-clause-answer
returns-then-is_full-clause-answer c = (
  still_with c.self.inside _ c.reserve.new.self.entries c.self.view_is c.self.invariant c.reserve.ensures.entries,
  in_seen c.self.inside c.reserve.new.self.entries (λ J. procedure_named J c.args.indicator.now ≡ None)
      (told (goal.at.returns-then-is_full-clause-answer c).After-look_up ∙ c.in_default.is),
  record {
    needs = sym (c.declaration_words-need.ensures c.args.kind);
    seen = in_seen c.self.inside c.reserve.new.self.entries (λ J. (used J ≡ c.self.inside.used) × (length J ≡ c.count-updates.result))
        (ap used c.reserve.ensures.entries ∙ sym c.self.invariant.summed, sym c.count-updates.ensures);
    full = c.is_full.ensures.full c.if-is_full.true;
  },
)

pub overflow_add-self-2 : goal.overflow_add-self-2
overflow_add-self-2 c = let few = few_declared _ _ _ _ _ _ c.self.invariant in omega (arith, few)

made : (c : After-declare) → c.declare.new.self.entries ≡ c.self.inside.ledger.entries ++ record { by = c.self.inside.number; what = Declare c.args.indicator.now c.args.kind } ∷ []
made c =
    c.declare.ensures
    ∙ ap (λ (J : Journal). J ++ record { by = c.self.inside.number; what = Declare c.in_ok-named.named c.args.kind } ∷ []) c.reserve.ensures.entries
    ∙ ap (λ (i : Indicator). c.self.inside.ledger.entries ++ record { by = c.self.inside.number; what = Declare i c.args.kind } ∷ []) c.in_ok-named.ensures

absent : (c : After-declare) → procedure_named c.self.inside.ledger.entries c.args.indicator.now ≡ None
absent c = sym (c.look_up.ensures ∙ c.make_room.ensures.same c.args.indicator.now ∙ c.self.invariant.found_in c.args.indicator.now) ∙ c.in_default.is

kept : (c : After-declare) → AreKept c.self.inside.words c.self.inside.updates c.declare.new.self.entries c.enter.new.found (c.self.inside.declared + 1) (c.self.inside.used + c.declaration_words-need.result)
kept c =
    let may : MayChange c.args.kind c.self.inside.number = subst (λ (s : Plain). MayChange c.args.kind s.number) (sym c.self.view_is) c.requires in
    let room = c.is_full.ensures.room c.if-is_full.false in
    let long : c.count-updates.result ≡ length c.self.inside.ledger.entries = c.count-updates.ensures ∙ ap length c.reserve.ensures.entries in
    let apart = room.1 in
    let short : length c.self.inside.ledger.entries < c.self.inside.updates = omega (arith, long, apart, c.self.invariant.legal.few) in
    let updates : Updates same_indicator c.make_room.new.found c.enter.new.found c.args.indicator.now (Some (c.self.inside.declared, c.args.kind)) =
    subst (λ (i : Indicator). Updates same_indicator c.make_room.new.found c.enter.new.found i (Some (c.self.inside.declared, c.args.kind))) c.in_ok-key.ensures c.enter.ensures in
    subst (λ J. AreKept c.self.inside.words c.self.inside.updates J c.enter.new.found (c.self.inside.declared + 1) (c.self.inside.used + c.declaration_words-need.result)) (sym (made c))
    (kept-declared _ _ _ _ _ _ (kept-still _ _ _ _ c.self.inside.found c.make_room.new.found _ _ c.self.invariant refl c.make_room.ensures.same) c.enter.new.found c.self.inside.number c.args.indicator.now c.args.kind c.declaration_words-need.result
    (absent c) may (c.declaration_words-need.ensures c.args.kind) room.0 short updates)

pub invariant_of-self-2 : goal.invariant_of-self-2
invariant_of-self-2 c = kept (goal.at.invariant_of-self-2 c).After-declare

pub returns-clause-answer : goal.returns-clause-answer
returns-clause-answer c =
    let d = (goal.at.returns-clause-answer c).After-declare in (
      appends_with c.self.inside _ c.declare.new.self.entries (Declare c.args.indicator.now c.args.kind) c.self.view_is (made d) c.self.invariant.sizes (kept d).legal,
      in_seen c.self.inside c.declare.new.self.entries (λ J. procedure_named J c.args.indicator.now ≡ Some (c.self.inside.declared, c.args.kind))
          (ap (λ (J : Journal). procedure_named J c.args.indicator.now) (made d)
          ∙ declared-there c.self.inside.ledger.entries (record { by = c.self.inside.number; what = Declare c.args.indicator.now c.args.kind }) c.args.indicator.now c.args.kind c.self.inside.declared refl
          (no_number c.self.inside.ledger.entries c.args.indicator.now (absent d)) c.self.invariant.counted),
    )

pub returns-clause-becomes : goal.returns-clause-becomes
returns-clause-becomes c =
    continued_with c.self.inside _ c.declare.new.self.entries (Declare c.args.indicator.now c.args.kind) c.self.view_is (made (goal.at.returns-clause-becomes c).After-declare)
