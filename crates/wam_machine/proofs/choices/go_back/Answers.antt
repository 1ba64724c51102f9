use Rattle.std.proofs.Common.{◌≡◌, arith}
use Rattle.wam_machine.proofs.Marked.{terms-back, stack-back, turn-back, fresh-back, shown-back, stack-none, none_there, can_go}
use Rattle.wam_machine.proofs.choices.go_back.Goals as goal

pub returns-then-is_empty-clause-none : goal.returns-then-is_empty-clause-none
returns-then-is_empty-clause-none g c =
    let choices = c.args.terms.now.choices in
    let a = choices.ok.0 in
    let b = c.is_empty.ensures in
    let d = c.if-is_empty.true in
    let e : choices.len ≡ 0 = grind (arith, b, d) in
    stack-none c.args.terms.now (none_there choices.items (omega (arith, a, e)))

pub undo_to-requires : goal.undo_to-requires
undo_to-requires g c = can_go c.args.terms.now c.requires.terms c.in_ok-what.field-0 c.pop.new.self c.in_ok-what.ensures.items

pub returns-clause-terms : goal.returns-clause-terms
returns-clause-terms g c =
    terms-back c.args.terms.now c.requires.terms c.in_ok-what.field-0 c.pop.new.self c.in_ok-what.ensures.items c.truncate.new.self c.truncate.ensures.items c.undo_to.new.self c.undo_to.ensures

pub returns-clause-none : goal.returns-clause-none
returns-clause-none g c =
    stack-back c.args.terms.now c.requires.terms c.in_ok-what.field-0 c.pop.new.self c.in_ok-what.ensures.items c.truncate.new.self c.truncate.ensures.items c.undo_to.new.self c.undo_to.ensures

pub returns-clause-turn : goal.returns-clause-turn
returns-clause-turn g c =
    turn-back c.args.terms.now c.requires.terms c.in_ok-what.field-0 c.pop.new.self c.in_ok-what.ensures.items c.truncate.new.self c.truncate.ensures.items c.undo_to.new.self c.undo_to.ensures

pub returns-clause-fresh : goal.returns-clause-fresh
returns-clause-fresh g c =
    fresh-back c.args.terms.now c.requires.terms c.in_ok-what.field-0 c.pop.new.self c.in_ok-what.ensures.items c.truncate.new.self c.truncate.ensures.items c.undo_to.new.self c.undo_to.ensures

pub returns-clause-shown : goal.returns-clause-shown
returns-clause-shown g c =
    shown-back c.args.terms.now c.requires.terms c.in_ok-what.field-0 c.pop.new.self c.in_ok-what.ensures.items c.truncate.new.self c.truncate.ensures.items c.undo_to.new.self c.undo_to.ensures
