use Rattle.std.proofs.lemmas.Result.{IfOk-weaker}
use Rattle.term_store.proofs.Walks.{found-variable, found-integer, found-atom, found-compound, compound-cells}
use Rattle.term_store.proofs.store.Store.occurs.Goals as goal

pub returns-in-Variable : goal.returns-in-Variable
returns-in-Variable c = found-variable c.args.self.now c.args.variable c.args.cell c.look.result c.known.ensures c.look.ensures.looks c.in-Variable.other c.in-Variable.is

pub returns-in-Integer : goal.returns-in-Integer
returns-in-Integer c = found-integer c.args.self.now c.args.variable c.args.cell c.look.result c.known.ensures c.look.ensures.looks c.in-Integer.field-0 c.in-Integer.is

pub returns-in-Atom : goal.returns-in-Atom
returns-in-Atom c = found-atom c.args.self.now c.args.variable c.args.cell c.look.result c.known.ensures c.look.ensures.looks c.in-Atom.field-0 c.in-Atom.is

pub occurs_in-requires : goal.occurs_in-requires
occurs_in-requires c = compound-cells c.args.self.now c.args.variable c.args.cell c.look.result c.known.ensures c.look.ensures.looks c.in-Compound.field-0 c.in-Compound.args c.in-Compound.is

pub returns-in-Compound : goal.returns-in-Compound
returns-in-Compound c =
    IfOk-weaker c.occurs_in.result _ _ (λ b h. found-compound c.args.self.now c.args.variable c.args.cell c.look.result c.known.ensures c.look.ensures.looks c.in-Compound.field-0 c.in-Compound.args c.in-Compound.is b h) c.occurs_in.ensures
