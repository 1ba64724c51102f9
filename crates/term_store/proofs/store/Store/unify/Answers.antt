use Rattle.std.proofs.Common.{◌≡◌, List, sym, ap, ◌∙◌, subst, [], ◌∷◌, length, Bool, false, arith, ◌++◌}
use Rattle.term_store.specs.declared.solve.Pair.{Pair}
use Rattle.term_store.specs.Terms.{AreNamed}
use Rattle.term_store.specs.Later.{IsLater, IsTakenBack}
use Rattle.term_store.specs.Work.{Outcome, IsStep, IsUnderWay}
use Rattle.term_store.proofs.Laws.{at-want, taken-back}
use Rattle.term_store.proofs.Ways.{way-start, way-step, way-smaller, way-later, way-end, way-clash, way-named, way-pair, later-itself}
use Rattle.term_store.proofs.store.Store.unify.Goals as goal
use Rattle.term_store.proofs.store.Store.unify.Goals.{Else-not-branch, Then-not-branch}

pub returns-in_err-push-clause-later : goal.returns-in_err-push-clause-later
returns-in_err-push-clause-later c = later-itself c.args.self.now

pub loop-pair-init : goal.loop-pair-init
loop-pair-init c =
    subst (IsUnderWay c.args.self.now c.args.self.now c.args.a c.args.b) (sym (c.in_ok-push.ensures.items ∙ ap (λ (ps : List Pair). ps ++ record { left = c.args.a; right = c.args.b } ∷ []) c.new-work.ensures.items))
    (way-start c.args.self.now c.args.a c.args.b c.requires.a c.requires.b)

pub step-requires-clause-left : goal.step-requires-clause-left
step-requires-clause-left c = (way-pair c.args.self.now c.loop-pair.self c.args.a c.args.b c.loop-pair.work.items c.pop.new.self.items c.in-Some.pair c.in-Some.ensures.items c.loop-pair.invariant).0

pub step-requires-clause-right : goal.step-requires-clause-right
step-requires-clause-right c = (way-pair c.args.self.now c.loop-pair.self c.args.a c.args.b c.loop-pair.work.items c.pop.new.self.items c.in-Some.pair c.in-Some.ensures.items c.loop-pair.invariant).1

pub returns-in_err-step-clause-later : goal.returns-in_err-step-clause-later
returns-in_err-step-clause-later c =
    subst (IsLater c.args.self.now) (sym c.in_err-step.ensures.err) (way-later c.args.self.now c.loop-pair.self c.args.a c.args.b c.loop-pair.work.items c.loop-pair.invariant)

pub returns-in_err-step-clause-named : goal.returns-in_err-step-clause-named
returns-in_err-step-clause-named c = λ count named l r.
    subst (AreNamed count) (sym c.in_err-step.ensures.err) (way-named c.args.self.now c.loop-pair.self c.args.a c.args.b c.loop-pair.work.items c.loop-pair.invariant count named l r)

-- a step that found that nothing makes the pair equal
refused : (c : Then-not-branch) → Outcome c.loop-pair.self c.step.new.self c.pop.new.self.items c.step.new.work.items c.in-Some.pair.left c.in-Some.pair.right false
refused c = subst (λ (t : Bool). Outcome c.loop-pair.self c.step.new.self c.pop.new.self.items c.step.new.work.items c.in-Some.pair.left c.in-Some.pair.right t) c.if-not-branch.true c.in_ok-step.ensures.outcome

pub returns-then-not-branch-clause-later : goal.returns-then-not-branch-clause-later
returns-then-not-branch-clause-later c =
    subst (IsLater c.args.self.now) (sym (refused (goal.at.returns-then-not-branch-clause-later c).Then-not-branch).0)
    (way-later c.args.self.now c.loop-pair.self c.args.a c.args.b c.loop-pair.work.items c.loop-pair.invariant)

pub returns-then-not-branch-clause-named : goal.returns-then-not-branch-clause-named
returns-then-not-branch-clause-named c = λ count named l r.
    subst (AreNamed count) (sym (refused (goal.at.returns-then-not-branch-clause-named c).Then-not-branch).0)
    (way-named c.args.self.now c.loop-pair.self c.args.a c.args.b c.loop-pair.work.items c.loop-pair.invariant count named l r)

pub returns-then-not-branch-clause-refused : goal.returns-then-not-branch-clause-refused
returns-then-not-branch-clause-refused c = λ t texts distinct named l r.
    way-clash c.args.self.now c.loop-pair.self c.args.a c.args.b c.loop-pair.work.items c.pop.new.self.items c.in-Some.pair c.in-Some.ensures.items c.loop-pair.invariant
    (refused (goal.at.returns-then-not-branch-clause-refused c).Then-not-branch).1 c.known.ensures texts distinct named l r

went_on : (c : Else-not-branch) → IsStep c.loop-pair.self c.step.new.self c.pop.new.self.items c.step.new.work.items c.in-Some.pair.left c.in-Some.pair.right
went_on c = subst (λ (t : Bool). Outcome c.loop-pair.self c.step.new.self c.pop.new.self.items c.step.new.work.items c.in-Some.pair.left c.in-Some.pair.right t) c.if-not-branch.false c.in_ok-step.ensures.outcome

pub loop-pair-smaller : goal.loop-pair-smaller
loop-pair-smaller c =
    way-smaller c.loop-pair.self c.step.new.self c.loop-pair.work.items c.pop.new.self.items c.step.new.work.items c.in-Some.pair c.in-Some.ensures.items
    (went_on (goal.at.loop-pair-smaller c).Else-not-branch)

pub loop-pair-preserved : goal.loop-pair-preserved
loop-pair-preserved c =
    way-step c.args.self.now c.loop-pair.self c.step.new.self c.args.a c.args.b c.loop-pair.work.items c.pop.new.self.items c.step.new.work.items c.in-Some.pair c.in-Some.ensures.items
    c.loop-pair.invariant (went_on (goal.at.loop-pair-preserved c).Else-not-branch)

pub returns-clause-later : goal.returns-clause-later
returns-clause-later c = way-later c.args.self.now c.loop-pair.self c.args.a c.args.b c.loop-pair.work.items c.loop-pair.invariant

pub returns-clause-named : goal.returns-clause-named
returns-clause-named c = way-named c.args.self.now c.loop-pair.self c.args.a c.args.b c.loop-pair.work.items c.loop-pair.invariant

pub returns-clause-unified : goal.returns-clause-unified
returns-clause-unified c = λ t.
    way-end c.args.self.now c.loop-pair.self c.args.a c.args.b c.loop-pair.work.items
    (let q = c.in_default.ensures.cases in let none : length c.loop-pair.work.items ≡ 0 = omega arith in none) c.loop-pair.invariant c.known-2.ensures

pub returns-in_err-push-clause-want : goal.returns-in_err-push-clause-want
returns-in_err-push-clause-want c = at-want _ _ (taken-back c.args.self.now c.args.self.now (later-itself c.args.self.now))

pub returns-in_err-step-clause-want : goal.returns-in_err-step-clause-want
returns-in_err-step-clause-want c =
    at-want _ _ (subst (IsTakenBack c.args.self.now) (sym c.in_err-step.ensures.err)
    (taken-back c.args.self.now c.loop-pair.self (way-later c.args.self.now c.loop-pair.self c.args.a c.args.b c.loop-pair.work.items c.loop-pair.invariant)))
