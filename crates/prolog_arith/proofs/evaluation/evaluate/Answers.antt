use Rattle.std.proofs.Common.{◌∙◌, ◌++◌, ◌∷◌, [], length, subst, sym, ap, rules, w64, SFits}
use Rattle.std.specs.Prelude.{ℤ}
use Rattle.std.proofs.Math.Facts.{to_z-of_z}
use Rattle.term_store.specs.Views.{Looks}
use Rattle.prolog_arith.proofs.Views.{kept, named-atom, text-read}
use Rattle.prolog_arith.proofs.Evaluations.{at-variable, at-integer, at-atom, at-none, at-some}
use Rattle.prolog_arith.proofs.evaluation.evaluate.Goals as goal

pub text-requires : goal.text-requires
text-requires c =
    named-atom (length c.args.names.now) c.args.store.now c.args.cell c.in-Atom.name c.requires.named c.requires.valid.1 (subst (Looks c.args.store.now c.args.cell) c.in-Atom.is c.look.ensures.looks)

pub returns-in-Variable-clause-fault : goal.returns-in-Variable-clause-fault
returns-in-Variable-clause-fault c =
    at-variable c.args.names.now c.args.store.now c.args.cell c.look.result (c.look.ensures.term c.args.names.now) c.in-Variable.field-0 c.in-Variable.is

pub returns-in_ok-push-in-Integer-clause-evaluated :
    goal.returns-in_ok-push-in-Integer-clause-evaluated
returns-in_ok-push-in-Integer-clause-evaluated c =
    at-integer c.args.names.now c.args.store.now c.args.cell c.look.result (c.look.ensures.term c.args.names.now) c.in-Integer.value c.args.tasks.now.items c.args.values.now.items c.push.new.self.items c.in-Integer.is
    (let fits : SFits w64 c.in-Integer.value = search rules in
    c.in_ok-push-in-Integer.ensures.items ∙ ap (λ (z : ℤ). c.args.values.now.items ++ z ∷ []) (to_z-of_z fits))

pub returns-in-Atom-clause-fault : goal.returns-in-Atom-clause-fault
returns-in-Atom-clause-fault c =
    at-atom c.args.names.now c.args.store.now c.args.cell c.look.result (c.look.ensures.term c.args.names.now) c.in-Atom.name c.text.result.now c.unknown.result c.in-Atom.is
    (text-read c.args.names.now c.in-Atom.name c.text.result.now c.text.ensures) c.unknown.ensures

pub returns-in_ok-open-in-Some-clause-evaluated : goal.returns-in_ok-open-in-Some-clause-evaluated
returns-in_ok-open-in-Some-clause-evaluated c =
    let looks = subst (Looks c.args.store.now c.args.cell) c.in-Compound.is c.look.ensures.looks in
    let row = kept (length c.args.names.now) c.args.store.now c.args.cell c.in-Compound.name c.in-Compound.operands c.known.ensures c.requires.named looks in
    at-some c.args.names.now c.args.store.now c.args.cell c.look.result (c.look.ensures.term c.args.names.now) c.in-Compound.name c.in-Compound.operands c.text-text.result.now c.in-Compound.is
    (text-read c.args.names.now c.in-Compound.name c.text-text.result.now c.text-text.ensures)
    c.in-Some.found c.args.tasks.now.items c.open.new.tasks.items c.args.values.now.items (sym c.find.ensures ∙ c.in-Some.is) row.args c.in_ok-open-in-Some.ensures

pub returns-in-None-clause-fault : goal.returns-in-None-clause-fault
returns-in-None-clause-fault c =
    at-none c.args.names.now c.args.store.now c.args.cell c.look.result (c.look.ensures.term c.args.names.now) c.in-Compound.name c.in-Compound.operands c.text-text.result.now c.in-Compound.is
    (text-read c.args.names.now c.in-Compound.name c.text-text.result.now c.text-text.ensures)
    c.unknown-in-None.result (sym c.find.ensures ∙ c.in-None.is) c.unknown-in-None.ensures
