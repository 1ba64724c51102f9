use Rattle.std.proofs.Common.{◌<◌, ◌≤◌, ℕ, refl, sym, ap, ◌∙◌, subst}
use Rattle.std.proofs.lemmas.List.{take_all}
use Rattle.std.specs.Prelude.{Option}
use Rattle.wam_machine.specs.Choices.{IsCallOf}
use Rattle.wam_machine.specs.Terms.{Said, said}
use Rattle.wam_machine.proofs.Begins.{looks_refl, looks_trans}
use Rattle.wam_machine.proofs.Dropped.{dropped-call, dropped-none, shorter, taken-on, kept-beside, call-serves, call-out, kept-given}
use Rattle.wam_machine.proofs.cuts.cut_back.Goals as goal

pub loop-terms-init : goal.loop-terms-init
loop-terms-init g c = record {
  seen = looks_refl _ c.requires.sound;
  becomes = g.met.B.Base.becomes_itself _;
  kept = c.requires.kept;
  terms = λ t. t;
  said_is = refl;
  stack = refl;
}

pub give_up-requires-clause-serves : goal.give_up-requires-clause-serves
give_up-requires-clause-serves g c =
    let d = c.in-Some.ensures.dropped in
    call-serves (said c.loop-terms.terms).stack (said c.drop_newest.new.terms).stack d.0 d.1.0 g.B.Base.group (g.B.Base.serves c.loop-terms.base) (g.B.Base.out c.loop-terms.base)
    c.loop-terms.invariant.kept c.in-Some.call (dropped-call d.0.turn c.in-Some.call d.1.1)

pub give_up-requires-clause-out : goal.give_up-requires-clause-out
give_up-requires-clause-out g c =
    let d = c.in-Some.ensures.dropped in
    call-out (said c.loop-terms.terms).stack (said c.drop_newest.new.terms).stack d.0 d.1.0 g.B.Base.group (g.B.Base.serves c.loop-terms.base) (g.B.Base.out c.loop-terms.base)
    c.loop-terms.invariant.kept c.in-Some.call (dropped-call d.0.turn c.in-Some.call d.1.1)

pub loop-terms-smaller-in-Some : goal.loop-terms-smaller-in-Some
loop-terms-smaller-in-Some g c =
    let d = c.in-Some.ensures.dropped in
    shorter (said c.loop-terms.terms).stack (said c.drop_newest.new.terms).stack d.0 d.1.0

pub loop-terms-preserved-in-Some : goal.loop-terms-preserved-in-Some
loop-terms-preserved-in-Some g c =
    let i = c.loop-terms.invariant in
    let e = c.in-Some.ensures in
    let d = c.in-Some.ensures.dropped in
    let old = said c.loop-terms.terms in
    let new = said c.drop_newest.new.terms in
    let high = subst (λ (n : ℕ). c.args.height < n) c.height.ensures c.loop-terms-test.true in
    record {
      seen = looks_trans _ _ _ i.seen c.give_up.ensures.seen;
      becomes = g.met.B.Base.becomes_further _ _ _ i.becomes c.give_up.ensures.becomes;
      kept = kept-given old.stack new.stack d.0 d.1.0 g.B.Base.group (g.B.Base.serves c.loop-terms.base) (g.B.Base.out c.loop-terms.base) i.kept c.in-Some.call (dropped-call d.0.turn c.in-Some.call d.1.1)
          (g.B.Base.serves c.give_up.new.base) (g.B.Base.out c.give_up.new.base) c.give_up.ensures.others c.give_up.ensures.out;
      terms = λ t. e.terms (i.terms t);
      said_is = e.said ∙ ap (λ (s : Said _). let r : Said _ = record s { stack = new.stack } in r) i.said_is;
      stack = taken-on old.stack new.stack d.0 d.1.0 c.args.height high ∙ i.stack;
    }

pub loop-terms-smaller : goal.loop-terms-smaller
loop-terms-smaller g c =
    let d = c.drop_newest.ensures.dropped in
    shorter (said c.loop-terms.terms).stack (said c.drop_newest.new.terms).stack d.0 d.1.0

pub loop-terms-preserved : goal.loop-terms-preserved
loop-terms-preserved g c =
    let i = c.loop-terms.invariant in
    let e = c.drop_newest.ensures in
    let d = c.drop_newest.ensures.dropped in
    let old = said c.loop-terms.terms in
    let new = said c.drop_newest.new.terms in
    let high = subst (λ (n : ℕ). c.args.height < n) c.height.ensures c.loop-terms-test.true in
    record {
      seen = i.seen;
      becomes = i.becomes;
      kept = kept-beside old.stack new.stack d.0 d.1.0 g.B.Base.group (g.B.Base.serves c.loop-terms.base) (g.B.Base.out c.loop-terms.base) i.kept
          (dropped-none d.0.turn (subst (λ (r : Option _). IsCallOf d.0.turn r) c.in_default.is d.1.1));
      terms = λ t. e.terms (i.terms t);
      said_is = e.said ∙ ap (λ (s : Said _). let r : Said _ = record s { stack = new.stack } in r) i.said_is;
      stack = taken-on old.stack new.stack d.0 d.1.0 c.args.height high ∙ i.stack;
    }

pub returns-clause-seen : goal.returns-clause-seen
returns-clause-seen g c = c.loop-terms.invariant.seen

pub returns-clause-becomes : goal.returns-clause-becomes
returns-clause-becomes g c = c.loop-terms.invariant.becomes

pub returns-clause-kept : goal.returns-clause-kept
returns-clause-kept g c = c.loop-terms.invariant.kept

pub returns-clause-terms : goal.returns-clause-terms
returns-clause-terms g c = c.loop-terms.invariant.terms

pub returns-clause-said : goal.returns-clause-said
returns-clause-said g c =
    let i = c.loop-terms.invariant in
    let low = subst (λ (n : ℕ). n ≤ c.args.height) c.height.ensures c.loop-terms-test.false in
    let e = sym (take_all c.args.height (said c.loop-terms.terms).stack low) ∙ i.stack in
    i.said_is ∙ ap (λ (st : _). let r : Said _ = record (said c.args.terms.now) { stack = st } in r) e
