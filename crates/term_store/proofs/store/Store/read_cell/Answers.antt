use Rattle.std.proofs.Common.{length, ◌++◌, ◌∷◌, [], sym, ap, ◌∙◌, subst, refl, rules, w64, SFits}
use Rattle.std.proofs.Math.Facts.{to_z-of_z}
use Rattle.prolog_terms.specs.declared.node.Node.TheVariants.{Int}
use Rattle.term_store.specs.Views.{Looks}
use Rattle.term_store.proofs.Puts.{number-text}
use Rattle.term_store.proofs.Readings.{read-variable, read-integer, read-atom, read-compound, looks-atom, looks-functor}
use Rattle.term_store.proofs.store.Store.read_cell.Goals as goal

pub text-requires : goal.text-requires
text-requires c =
    looks-atom c.args.self.now (length c.args.names.now) c.in-Atom.name c.args.cell c.requires.named c.requires.valid.1 (subst (Looks c.args.self.now c.args.cell) c.in-Atom.is c.look.ensures.looks)

pub returns-in_ok-push-in-Variable : goal.returns-in_ok-push-in-Variable
returns-in_ok-push-in-Variable c =
    read-variable c.args.self.now c.args.names.now c.args.cell c.look.result c.known.ensures c.look.ensures.looks c.args.todo.now.items c.in-Variable.number c.in_ok-place-in-Variable.place c.args.seen.now c.place.new.self
    c.args.nodes.now.items c.push.new.self.items c.in-Variable.is c.in_ok-place-in-Variable.ensures.place c.in_ok-place-in-Variable.ensures.seen c.in_ok-push-in-Variable.ensures.items

pub returns-in_ok-push-in-Integer : goal.returns-in_ok-push-in-Integer
returns-in_ok-push-in-Integer c =
    read-integer c.args.self.now c.args.names.now c.args.cell c.look.result c.known.ensures c.look.ensures.looks c.args.todo.now.items c.in-Integer.value c.args.seen.now
    c.args.nodes.now.items c.push-in-Integer.new.self.items c.in-Integer.is
    (let fits : SFits w64 c.in-Integer.value = search rules in
    c.in_ok-push-in-Integer.ensures.items ∙ ap (λ (z : _). c.args.nodes.now.items ++ Int z ∷ []) (to_z-of_z fits))

pub returns-in_ok-push-in-Atom : goal.returns-in_ok-push-in-Atom
returns-in_ok-push-in-Atom c =
    read-atom c.args.self.now c.args.names.now c.args.cell c.look.result c.known.ensures c.look.ensures.looks c.args.todo.now.items c.in-Atom.name c.in_ok-text-in-Atom.text c.args.seen.now
    c.args.nodes.now.items c.push-in-Atom.new.self.items c.in-Atom.is (number-text c.args.names.now c.in-Atom.name c.text.result.now c.text.ensures ∙ sym c.in_ok-text-in-Atom.ensures) c.in_ok-push-in-Atom.ensures.items

pub returns-in_ok-push_back-in-Compound : goal.returns-in_ok-push_back-in-Compound
returns-in_ok-push_back-in-Compound c =
    let looks = subst (Looks c.args.self.now c.args.cell) c.in-Compound.is c.look.ensures.looks in
    let valid = looks-functor c.args.self.now (length c.args.names.now) c.in-Compound.name c.args.cell c.in-Compound.args c.known.ensures c.requires.named looks in
    read-compound c.args.self.now c.args.names.now c.args.cell c.look.result c.known.ensures c.look.ensures.looks c.args.todo.now.items c.in-Compound.name c.in-Compound.args c.in_ok-text-in-Compound.text
    _ c.push_back.new.todo.items c.args.seen.now c.args.nodes.now.items c.push-in-Compound.new.self.items c.in-Compound.is
    (number-text c.args.names.now c.in-Compound.name c.text-in-Compound.result.now c.text-in-Compound.ensures ∙ sym c.in_ok-text-in-Compound.ensures)
    refl c.in_ok-push_back-in-Compound.ensures c.in_ok-push-in-Compound.ensures.items valid.1
