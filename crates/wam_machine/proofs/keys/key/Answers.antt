use Rattle.wam_machine.proofs.KeyPlaces.{atom_numbered, atom_seen, functor_seen}
use Rattle.wam_machine.proofs.keys.key.Goals as goal

pub returns-in-Atom-clause-numbered : goal.returns-in-Atom-clause-numbered
returns-in-Atom-clause-numbered g c =
    atom_numbered c.args.terms.now.names c.args.terms.now.store c.args.cell c.known.ensures c.requires.terms.named c.requires.cell c.in-Atom.name c.in-Atom.ensures.looks

pub returns-in-Atom-clause-key : goal.returns-in-Atom-clause-key
returns-in-Atom-clause-key g c =
    atom_seen c.args.terms.now.names c.args.terms.now.store c.args.cell c.known.ensures c.requires.terms.named c.requires.cell c.in-Atom.name (c.in-Atom.ensures.term c.args.terms.now.names)

pub returns-in-Compound-clause-key : goal.returns-in-Compound-clause-key
returns-in-Compound-clause-key g c =
    functor_seen c.args.terms.now.names c.args.terms.now.store c.args.cell c.known.ensures c.requires.terms.named c.requires.cell c.in-Compound.name c.in-Compound.arguments.now
    (c.in-Compound.ensures.term c.args.terms.now.names)
