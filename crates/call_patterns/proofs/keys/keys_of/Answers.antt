use Rattle.std.proofs.Common.{◌≡◌, ◌<◌, subst, refl, arith}
use Rattle.std.proofs.lemmas.List.{take_all}
use Rattle.prolog_terms.specs.Flat.{tree}
use Rattle.call_patterns.specs.Filling.{Filled}
use Rattle.call_patterns.proofs.Filled.{one_more, longer_from, numbered, all_keys}
use Rattle.call_patterns.proofs.keys.keys_of.Goals as goal

pub loop-position-init : goal.loop-position-init
loop-position-init c = (record { whole = refl; each = λ p lt. absurd (omega arith) }, (take_all _ _ (omega arith), omega arith))

pub returns-in_err-at-clause-kept : goal.returns-in_err-at-clause-kept
returns-in_err-at-clause-kept c = longer_from _ _ _ c.loop-position.invariant.1.0 c.key_at.ensures.kept

pub loop-position-preserved : goal.loop-position-preserved
loop-position-preserved c =
    let few : c.loop-position.position < 40 = c.loop-position-test.true in (
      one_more _ _ _ _ _ _ few c.key_at.ensures.kept c.loop-position.invariant.0 c.in_ok-at.ensures.key,
      (longer_from _ _ _ c.loop-position.invariant.1.0 c.key_at.ensures.kept, omega arith),
    )

pub returns-clause-numbered : goal.returns-clause-numbered
returns-clause-numbered c =
    let all : c.loop-position.position ≡ 40 = omega arith in
    numbered _ (tree c.args.nodes.now) _ (subst (λ n. Filled c.loop-position.names (tree c.args.nodes.now) c.loop-position.at n) all c.loop-position.invariant.0)

pub returns-clause-keys : goal.returns-clause-keys
returns-clause-keys c =
    let all : c.loop-position.position ≡ 40 = omega arith in
    all_keys _ (tree c.args.nodes.now) _ (subst (λ n. Filled c.loop-position.names (tree c.args.nodes.now) c.loop-position.at n) all c.loop-position.invariant.0)

pub returns-clause-kept : goal.returns-clause-kept
returns-clause-kept c = c.loop-position.invariant.1.0
