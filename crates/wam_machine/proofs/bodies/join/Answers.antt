use Rattle.term_store.specs.Terms.{text}
use Rattle.wam_machine.specs.Terms.{IsBuilt}
use Rattle.wam_machine.proofs.BodyStack.{popped, popped-rest, popped-here, two-are, put-all, put-joint}
use Rattle.wam_machine.proofs.bodies.join.Goals as goal

pub compound_of-requires-clause-valid : goal.compound_of-requires-clause-valid
compound_of-requires-clause-valid g c =
    let P = IsBuilt c.args.terms.now in
    two-are P c.in_ok-left.left c.in_ok-right.right
    (popped-here P c.args.stack.now.items c.pop.new.self.items c.pop.result c.in_ok-left.left c.pop.ensures.items c.in_ok-left.ensures.ok_part c.requires.stack)
    (popped-here P c.pop.new.self.items c.pop-2.new.self.items c.pop-2.result c.in_ok-right.right c.pop-2.ensures.items c.in_ok-right.ensures.ok_part
    (popped-rest P c.args.stack.now.items c.pop.new.self.items c.pop.result c.pop.ensures.items c.requires.stack))

pub returns-clause-stack : goal.returns-clause-stack
returns-clause-stack g c =
    let P = IsBuilt c.args.terms.now in
    put-all c.args.terms.now c.compound_of.new.terms c.in_ok-whole.ensures.grown c.pop-2.new.self.items c.push.new.self.items c.in_ok-whole.whole c.in_ok-push.ensures.items
    (popped-rest P c.pop.new.self.items c.pop-2.new.self.items c.pop-2.result c.pop-2.ensures.items
    (popped-rest P c.args.stack.now.items c.pop.new.self.items c.pop.result c.pop.ensures.items c.requires.stack))
    c.in_ok-whole.ensures.cell

pub returns-clause-grown : goal.returns-clause-grown
returns-clause-grown g c = c.in_ok-whole.ensures.grown

pub returns-clause-put : goal.returns-clause-put
returns-clause-put g c =
    let P = IsBuilt c.args.terms.now in
    put-joint c.args.terms.now c.compound_of.new.terms c.in_ok-whole.ensures.grown c.args.stack.now.items c.pop.new.self.items c.pop-2.new.self.items c.push.new.self.items
    c.in_ok-left.left c.in_ok-right.right c.in_ok-whole.whole (text c.args.terms.now.names c.args.name)
    (popped c.args.stack.now.items c.pop.new.self.items c.pop.result c.in_ok-left.left c.pop.ensures.items c.in_ok-left.ensures.ok_part)
    (popped c.pop.new.self.items c.pop-2.new.self.items c.pop-2.result c.in_ok-right.right c.pop-2.ensures.items c.in_ok-right.ensures.ok_part)
    c.in_ok-push.ensures.items
    (popped-rest P c.pop.new.self.items c.pop-2.new.self.items c.pop-2.result c.pop-2.ensures.items
    (popped-rest P c.args.stack.now.items c.pop.new.self.items c.pop.result c.pop.ensures.items c.requires.stack))
    c.in_ok-whole.ensures.term
