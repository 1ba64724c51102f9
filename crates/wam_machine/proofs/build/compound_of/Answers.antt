use Rattle.wam_machine.proofs.Made.{cells-valid, compound-grown, compound-built, compound-term}
use Rattle.wam_machine.proofs.build.compound_of.Goals as goal

pub compound-requires-clause-valid : goal.compound-requires-clause-valid
compound-requires-clause-valid g c = cells-valid c.args.terms.now c.requires.terms c.known.ensures c.args.name c.args.arguments.now c.requires.name c.requires.valid

pub returns-clause-grown : goal.returns-clause-grown
returns-clause-grown g c =
    compound-grown c.args.terms.now c.requires.terms c.known.ensures c.args.name c.args.arguments.now c.requires.name c.requires.valid c.compound.new.self c.in_ok-whole.ensures.ok

pub returns-clause-cell : goal.returns-clause-cell
returns-clause-cell g c =
    compound-built c.args.terms.now c.requires.terms c.known.ensures c.args.name c.args.arguments.now c.requires.name c.requires.valid c.compound.new.self c.in_ok-whole.ensures.ok
    c.in_ok-whole.whole c.in_ok-whole.ensures.cell

pub returns-clause-term : goal.returns-clause-term
returns-clause-term g c =
    compound-term c.args.terms.now c.requires.terms c.known.ensures c.args.name c.args.arguments.now c.requires.name c.requires.valid c.compound.new.self c.in_ok-whole.ensures.ok
    c.in_ok-whole.whole c.in_ok-whole.ensures.cell c.requires.some c.requires.few
