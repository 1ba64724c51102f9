use Rattle.std.proofs.Common.{◌≡◌, ◌∙◌, ap, refl, arith}
use Rattle.call_patterns.specs.Keys.{keys as keys_in}
use Rattle.term_store.specs.Terms.{term_of}
use Rattle.wam_machine.proofs.KeyPlaces.{goal_has, stands, none_yet, next_key, goal_keys_are, keys_numbered}
use Rattle.wam_machine.proofs.keys.keys.Goals as goal

pub loop-position-init : goal.loop-position-init
loop-position-init g c = none_yet c.args.terms.now.names (term_of c.args.terms.now.names c.args.terms.now.store c.args.goal) _ refl

pub key_at-requires-clause-cell : goal.key_at-requires-clause-cell
key_at-requires-clause-cell g c = goal_has c.args.terms.now c.args.goal c.requires.goal

pub loop-position-preserved : goal.loop-position-preserved
loop-position-preserved g c =
    next_key c.args.terms.now.names (term_of c.args.terms.now.names c.args.terms.now.store c.args.goal) c.loop-position.at c.loop-position.position c.key_at.result
    c.loop-position-test.true c.loop-position.invariant c.key_at.ensures

pub returns-clause-numbered : goal.returns-clause-numbered
returns-clause-numbered g c =
    let all : c.loop-position.position ≡ 40 = omega arith in
    keys_numbered c.args.terms.now.names (term_of c.args.terms.now.names c.args.terms.now.store c.args.goal) c.loop-position.at c.loop-position.position all c.loop-position.invariant

pub returns-clause-keys : goal.returns-clause-keys
returns-clause-keys g c =
    let all : c.loop-position.position ≡ 40 = omega arith in
    goal_keys_are c.args.terms.now.names (term_of c.args.terms.now.names c.args.terms.now.store c.args.goal) c.loop-position.at c.loop-position.position all c.loop-position.invariant
    ∙ ap keys_in (stands c.args.terms.now c.args.goal)
