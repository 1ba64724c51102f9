use Rattle.std.proofs.Common.{◌∙◌, ◌-◌, sym, refl, arith}
use Rattle.term_store.specs.Terms.{term_of}
use Rattle.term_store.specs.Later.{back}
use Rattle.wam_machine.proofs.Tops.{none-seen, one-seen, found-open, all-seen}
use Rattle.wam_machine.proofs.choices.any_open.Goals as goal

pub loop-left-init : goal.loop-left-init
loop-left-init g c =
    let t = c.args.terms.now in
    let a = t.choices.ok.0 in
    let b = c.len-left.ensures in
    record { within = omega (arith, a, b); closed = none-seen t c.len-left.result (omega (arith, a, b)) }

pub index-requires : goal.index-requires
index-requires g c =
    let a = c.args.terms.now.choices.ok.0 in
    let b = c.loop-left.invariant.within in
    let d = c.loop-left-test.true in
    omega (arith, a, b, d)

pub returns-then-is_alternative : goal.returns-then-is_alternative
returns-then-is_alternative g c =
    let t = c.args.terms.now in
    let a = c.loop-left.invariant.within in
    let b = c.loop-left-test.true in
    sym (found-open t (c.loop-left.left - 1) c.index.result.now (omega (arith, a, b)) c.index.ensures
    (sym (c.is_alternative.ensures (term_of t.names (back c.index.result.now.mark t.store))) ∙ c.if-is_alternative.true))

pub loop-left-preserved : goal.loop-left-preserved
loop-left-preserved g c =
    let t = c.args.terms.now in
    let a = c.loop-left.invariant.within in
    record {
      within = omega (arith, a);
      closed = one-seen t c.loop-left.left (c.loop-left.left - 1) c.index.result.now c.loop-left-test.true a refl c.index.ensures
          (sym (c.is_alternative.ensures (term_of t.names (back c.index.result.now.mark t.store))) ∙ c.if-is_alternative.false) c.loop-left.invariant.closed;
    }

pub returns : goal.returns
returns g c = sym (all-seen c.args.terms.now c.loop-left.left c.loop-left-test.false c.loop-left.invariant.closed)
