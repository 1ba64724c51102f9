use Rattle.std.proofs.Common.{refl}
use Rattle.term_store.proofs.Walks.{walk-variable, walk-integer, walk-atom, walk-compound, smaller-leaf, smaller-compound, found-here}
use Rattle.term_store.proofs.store.Store.occurs_in.Goals as goal

pub returns-then-other-variable : goal.returns-then-other-variable
returns-then-other-variable c =
    found-here c.args.self.now c.args.variable c.args.cells.now c.loop-next.todo.items c.pop.new.self.items c.pop.new.self.items c.in-Some.next c.look.result c.known.ensures c.loop-next.invariant
    c.in-Some.ensures.items c.look.ensures.looks c.in-Variable.other c.in-Variable.is c.if-other-variable.true

pub loop-next-smaller-else-other-variable : goal.loop-next-smaller-else-other-variable
loop-next-smaller-else-other-variable c =
    smaller-leaf c.args.self.now c.args.variable c.args.cells.now c.loop-next.todo.items c.pop.new.self.items c.pop.new.self.items c.in-Some.next c.look.result c.known.ensures c.loop-next.invariant
    c.in-Some.ensures.items c.look.ensures.looks refl

pub loop-next-smaller-in-Integer : goal.loop-next-smaller-in-Integer
loop-next-smaller-in-Integer c =
    smaller-leaf c.args.self.now c.args.variable c.args.cells.now c.loop-next.todo.items c.pop.new.self.items c.pop.new.self.items c.in-Some.next c.look.result c.known.ensures c.loop-next.invariant
    c.in-Some.ensures.items c.look.ensures.looks refl

pub loop-next-smaller-in-Atom : goal.loop-next-smaller-in-Atom
loop-next-smaller-in-Atom c =
    smaller-leaf c.args.self.now c.args.variable c.args.cells.now c.loop-next.todo.items c.pop.new.self.items c.pop.new.self.items c.in-Some.next c.look.result c.known.ensures c.loop-next.invariant
    c.in-Some.ensures.items c.look.ensures.looks refl

pub loop-next-preserved-else-other-variable : goal.loop-next-preserved-else-other-variable
loop-next-preserved-else-other-variable c =
    walk-variable c.args.self.now c.args.variable c.args.cells.now c.loop-next.todo.items c.pop.new.self.items c.pop.new.self.items c.in-Some.next c.look.result c.known.ensures c.loop-next.invariant
    c.in-Some.ensures.items c.look.ensures.looks c.in-Variable.other c.in-Variable.is c.if-other-variable.false refl

pub loop-next-preserved-in-Integer : goal.loop-next-preserved-in-Integer
loop-next-preserved-in-Integer c =
    walk-integer c.args.self.now c.args.variable c.args.cells.now c.loop-next.todo.items c.pop.new.self.items c.pop.new.self.items c.in-Some.next c.look.result c.known.ensures c.loop-next.invariant
    c.in-Some.ensures.items c.look.ensures.looks c.in-Integer.field-0 c.in-Integer.is refl

pub loop-next-preserved-in-Atom : goal.loop-next-preserved-in-Atom
loop-next-preserved-in-Atom c =
    walk-atom c.args.self.now c.args.variable c.args.cells.now c.loop-next.todo.items c.pop.new.self.items c.pop.new.self.items c.in-Some.next c.look.result c.known.ensures c.loop-next.invariant
    c.in-Some.ensures.items c.look.ensures.looks c.in-Atom.field-0 c.in-Atom.is refl

pub loop-next-smaller : goal.loop-next-smaller
loop-next-smaller c =
    smaller-compound c.args.self.now c.args.variable c.args.cells.now c.loop-next.todo.items c.pop.new.self.items c.extend_from_slice-in-Compound.new.self.items c.in-Some.next c.look.result c.known.ensures c.loop-next.invariant
    c.in-Some.ensures.items c.look.ensures.looks c.in-Compound.field-0 c.in-Compound.args c.in-Compound.is c.in_ok-extend_from_slice-in-Compound.ensures.items

pub loop-next-preserved : goal.loop-next-preserved
loop-next-preserved c =
    walk-compound c.args.self.now c.args.variable c.args.cells.now c.loop-next.todo.items c.pop.new.self.items c.extend_from_slice-in-Compound.new.self.items c.in-Some.next c.look.result c.known.ensures c.loop-next.invariant
    c.in-Some.ensures.items c.look.ensures.looks c.in-Compound.field-0 c.in-Compound.args c.in-Compound.is c.in_ok-extend_from_slice-in-Compound.ensures.items
