use Rattle.std.proofs.Common.{◌+◌, ap, sym, ◌∙◌, arith, ◌∷◌}
use Rattle.journal_base.specs.Goals.{goal_of}
use Rattle.journal_base.specs.Scan.{scan}
use Rattle.journal_base.proofs.Scans.{scan-take, scan-pass, scan-end}
use Rattle.journal_base.proofs.seek.seek.Goals as goal

pub returns-in-Some-clause-found : goal.returns-in-Some-clause-found
returns-in-Some-clause-found c =
    let some = c.in-Some.ensures.some in
    c.loop-q.invariant.found ∙ scan-take c.args.seen.now (goal_of c.args.call.now) c.loop-q.q c.loop-q-test.true some.0
    ∙ ap (λ k. k ∷ scan c.args.seen.now (goal_of c.args.call.now) (c.loop-q.q + 1)) (sym some.1)

pub loop-q-preserved : goal.loop-q-preserved
loop-q-preserved c = record {
  found = c.loop-q.invariant.found ∙ scan-pass c.args.seen.now (goal_of c.args.call.now) c.loop-q.q c.loop-q-test.true (c.at_place.ensures.none c.in_default.is);
  visits = omega arith;
  few = omega arith;
  more = omega arith;
}

pub returns-clause-end : goal.returns-clause-end
returns-clause-end c = λ _. scan-end c.args.seen.now (goal_of c.args.call.now) _ (omega arith)
