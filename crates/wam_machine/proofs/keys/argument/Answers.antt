use Rattle.std.proofs.Common.{◌∙◌, ap, subst, sym, Option, length}
use Rattle.std.specs.Prelude.{option_map, IfSome}
use Rattle.term_store.specs.declared.cell.Cell.{Cell}
use Rattle.term_store.specs.Terms.{term_of, HasTerm}
use Rattle.wam_machine.proofs.KeyPlaces.{argument_seen, argument_valid}
use Rattle.wam_machine.proofs.keys.argument.Goals as goal

pub returns-in-Compound-clause-argument : goal.returns-in-Compound-clause-argument
returns-in-Compound-clause-argument g c =
    ap (λ (o : Option Cell). option_map (term_of c.args.terms.now.names c.args.terms.now.store) o) c.cell_at.ensures
    ∙ argument_seen c.args.terms.now.names c.args.terms.now.store c.args.cell c.known.ensures c.requires.terms.named c.requires.cell c.in-Compound.field-0 c.in-Compound.arguments.now c.args.index
    (c.in-Compound.ensures.term c.args.terms.now.names)

pub returns-in-Compound-clause-valid : goal.returns-in-Compound-clause-valid
returns-in-Compound-clause-valid g c =
    subst (λ (o : Option Cell). IfSome o (HasTerm (length c.args.terms.now.names) c.args.terms.now.store)) (sym c.cell_at.ensures)
    (argument_valid c.args.terms.now.names c.args.terms.now.store c.args.cell c.known.ensures c.requires.terms.named c.requires.cell c.in-Compound.field-0 c.in-Compound.arguments c.args.index
    c.in-Compound.ensures.looks)
