use Rattle.std.proofs.Common.{◌≡◌, ◌+◌, true, false, ◌&&◌, not, refl, ap, sym, ◌∙◌, arith, length, Some}
use Rattle.std.proofs.lemmas.Bool.{and_left, and_right}
use Rattle.journal_base.specs.Goals.{goal_of}
use Rattle.call_patterns.specs.Candidates.{head_agrees}
use Rattle.journals.specs.Journal.{is_erased}
use Rattle.journal_base.specs.Scan.{place, is_candidate, adds_here, left}
use Rattle.journal_base.proofs.Scans.{not_added, is_added, left-take, left-pass}
use Rattle.journal_base.proofs.seek.at_place.Goals as goal
use Rattle.journal_base.proofs.seek.at_place.Goals.{In-None, In-Some, else-not-erased-via-then-not-erased+else-head_agrees, else-not-erased-via-else-not-erased}

none_here : (c : In-None) → (adds_here c.args.seen.now c.args.call.now.procedure (place (length c.args.seen.now) c.args.q) ≡ false)
    × (is_candidate c.args.seen.now (goal_of c.args.call.now) (place (length c.args.seen.now) c.args.q) ≡ false)
none_here c = rw (← c.place_at-end.ensures.place) (not_added c.args.seen.now (goal_of c.args.call.now) _ _ _ c.entry_at.ensures c.in-None.ensures)

some_here : (c : In-Some) → (adds_here c.args.seen.now c.args.call.now.procedure (place (length c.args.seen.now) c.args.q) ≡ true)
    × (is_candidate c.args.seen.now (goal_of c.args.call.now) (place (length c.args.seen.now) c.args.q)
    ≡ (not (is_erased c.args.seen.now c.place_at-end.result.1) && head_agrees (goal_of c.args.call.now).keys (Some c.in-Some.clause.now)))
some_here c = rw (← c.place_at-end.ensures.place) (is_added c.args.seen.now (goal_of c.args.call.now) _ _ _ _ c.entry_at.ensures c.in-Some.ensures.0 c.in-Some.ensures.1)

pub returns-in-None-clause-none : goal.returns-in-None-clause-none
returns-in-None-clause-none c = λ _. (none_here (goal.at.returns-in-None-clause-none c).In-None).1

pub returns-in-None-clause-visits : goal.returns-in-None-clause-visits
returns-in-None-clause-visits c =
    ap (λ n. c.args.visits.now + n) (sym (left-pass _ _ _ c.requires.place (none_here (goal.at.returns-in-None-clause-visits c).In-None).0))

counted : (c : In-Some) → c.args.visits.now + 1 + left c.args.seen.now c.args.call.now.procedure (c.args.q + 1) ≡ c.args.visits.now + left c.args.seen.now c.args.call.now.procedure c.args.q
counted c = omega (arith, left-take _ _ _ c.requires.place (some_here c).0)

pub returns-then-head_agrees-clause-some : goal.returns-then-head_agrees-clause-some
returns-then-head_agrees-clause-some c = (
  rw ((some_here (goal.at.returns-then-head_agrees-clause-some c).In-Some).1, ← c.erased.ensures, ← c.head_agrees.ensures, c.if-not-erased.true, c.if-head_agrees.true) refl,
  ap (λ p. p.1) c.place_at-end.ensures.place,
)

pub returns-then-head_agrees-clause-visits : goal.returns-then-head_agrees-clause-visits
returns-then-head_agrees-clause-visits c = counted (goal.at.returns-then-head_agrees-clause-visits c).In-Some

pub returns-else-not-erased-clause-none : goal.returns-else-not-erased-clause-none
returns-else-not-erased-clause-none c =
    λ _. (some_here (goal.at.returns-else-not-erased-clause-none c).In-Some).1 ∙
    elim c.else-not-erased.branch [
      | else-not-erased-via-then-not-erased+else-head_agrees w ↦ and_right _ _ (sym w.head_agrees.ensures ∙ w.if-head_agrees.false)
      | else-not-erased-via-else-not-erased w ↦ and_left _ _ (ap not (sym c.erased.ensures ∙ w.if-not-erased.false))
    ]

pub returns-else-not-erased-clause-visits : goal.returns-else-not-erased-clause-visits
returns-else-not-erased-clause-visits c = counted (goal.at.returns-else-not-erased-clause-visits c).In-Some
