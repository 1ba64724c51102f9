use Rattle.std.proofs.Common.{◌<◌, ◌+◌, ◌++◌, ◌∷◌, [], ap, ◌∙◌, subst, arith, rules, w64, SFits, Some}
use Rattle.std.proofs.Math.Facts.{to_z-of_z}
use Rattle.term_store.specs.declared.cell.Cell.TheVariants.{Integer}
use Rattle.term_store.specs.Puts.{IsFit}
use Rattle.term_store.proofs.Puts.{intern-longer, grows-names, cells-variable, cells-integer, cells-atom}
use Rattle.term_store.proofs.store.Store.put_node.Goals as goal

pub overflow_add-from : goal.overflow_add-from
overflow_add-from c =
    let low : c.args.from + c.in-Var.number < c.args.self.now.variables = subst (IsFit c.args.self.now.variables c.args.from _) c.in-Var.is c.requires.fit in
    let top = c.fits.ensures in omega (arith, low, top)

pub returns-in_err-push-in-Atom-clause-grows : goal.returns-in_err-push-in-Atom-clause-grows
returns-in_err-push-in-Atom-clause-grows c =
    grows-names c.args.self.now c.args.names.now c.intern.new.self (intern-longer c.args.names.now c.intern.new.self c.bytes.result.now c.in_ok-number-in-Atom.ensures.texts) (λ _. c.intern.ensures.distinct) c.requires.named

pub returns-in_ok-push-in-Atom-clause-grows : goal.returns-in_ok-push-in-Atom-clause-grows
returns-in_ok-push-in-Atom-clause-grows c =
    grows-names c.args.self.now c.args.names.now c.intern.new.self (intern-longer c.args.names.now c.intern.new.self c.bytes.result.now c.in_ok-number-in-Atom.ensures.texts) (λ _. c.intern.ensures.distinct) c.requires.named

pub returns-in_ok-push-in-Var-clause-cells : goal.returns-in_ok-push-in-Var-clause-cells
returns-in_ok-push-in-Var-clause-cells c = λ ts cells.
    cells-variable c.args.self.now c.args.names.now c.args.stack.now.items c.push.new.self.items ts c.args.from c.in-Var.number _ c.args.node.now cells c.in-Var.is c.requires.fit c.in_ok-push-in-Var.ensures.items

pub returns-in_ok-push-in-Int-clause-cells : goal.returns-in_ok-push-in-Int-clause-cells
returns-in_ok-push-in-Int-clause-cells c = λ ts cells.
    let fits : SFits w64 c.in-Int.value = search rules in
    cells-integer c.args.self.now c.args.names.now c.args.stack.now.items c.push-in-Int.new.self.items ts c.args.from c.in-Int.value c.args.node.now cells c.in-Int.is
    (c.in_ok-push-in-Int.ensures.items ∙ ap (λ (z : _). c.args.stack.now.items ++ Integer z ∷ []) (to_z-of_z fits))

pub returns-in_ok-push-in-Atom-clause-cells : goal.returns-in_ok-push-in-Atom-clause-cells
returns-in_ok-push-in-Atom-clause-cells c = λ ts cells.
    cells-atom c.args.self.now c.args.names.now c.intern.new.self c.args.stack.now.items c.push-in-Atom.new.self.items ts c.args.from c.in_ok-number-in-Atom.number c.in-Atom.name c.args.node.now
    c.known.ensures c.requires.named (intern-longer c.args.names.now c.intern.new.self c.bytes.result.now c.in_ok-number-in-Atom.ensures.texts) cells c.in-Atom.is
    (c.in_ok-number-in-Atom.ensures.number ∙ ap Some c.bytes.ensures) c.in_ok-push-in-Atom.ensures.items
