use Rattle.term_store.proofs.Unfolds.{unfolded-variable, unfolded-integer, unfolded-atom, unfolded-compound}
use Rattle.term_store.proofs.store.Store.unfold_cell.Goals as goal

pub returns-in_ok-place-in-Variable : goal.returns-in_ok-place-in-Variable
returns-in_ok-place-in-Variable c =
    unfolded-variable c.args.self.now c.args.cell c.deref-end.result c.node.result c.known.ensures (c.deref-end.ensures.looks c.node.result c.node.ensures.sees) c.node.ensures.sees c.deref-end.ensures.valid c.deref-end.ensures.named
    c.args.todo.now.items c.in-Variable.number c.args.seen.now c.place.new.self c.args.cells.now.items c.push.new.self.items c.in-Variable.is c.in_ok-place-in-Variable.ensures.seen c.in_ok-push.ensures.items

pub returns-in-Integer : goal.returns-in-Integer
returns-in-Integer c =
    unfolded-integer c.args.self.now c.args.cell c.deref-end.result c.node.result c.known.ensures (c.deref-end.ensures.looks c.node.result c.node.ensures.sees) c.node.ensures.sees c.deref-end.ensures.valid c.deref-end.ensures.named
    c.args.todo.now.items c.in-Integer.field-0 c.args.seen.now c.args.cells.now.items c.push.new.self.items c.in-Integer.is c.in_ok-push.ensures.items

pub returns-in-Atom : goal.returns-in-Atom
returns-in-Atom c =
    unfolded-atom c.args.self.now c.args.cell c.deref-end.result c.node.result c.known.ensures (c.deref-end.ensures.looks c.node.result c.node.ensures.sees) c.node.ensures.sees c.deref-end.ensures.valid c.deref-end.ensures.named
    c.args.todo.now.items c.in-Atom.field-0 c.args.seen.now c.args.cells.now.items c.push.new.self.items c.in-Atom.is c.in_ok-push.ensures.items

pub returns-in_ok-push_back-in-Compound : goal.returns-in_ok-push_back-in-Compound
returns-in_ok-push_back-in-Compound c =
    unfolded-compound c.args.self.now c.args.cell c.deref-end.result c.node.result c.known.ensures (c.deref-end.ensures.looks c.node.result c.node.ensures.sees) c.node.ensures.sees c.deref-end.ensures.valid c.deref-end.ensures.named
    c.args.todo.now.items c.in-Compound.field-0 c.in-Compound.args c.push_back.new.todo.items c.args.seen.now c.args.cells.now.items c.push.new.self.items c.in-Compound.is c.in_ok-push_back-in-Compound.ensures c.in_ok-push.ensures.items
