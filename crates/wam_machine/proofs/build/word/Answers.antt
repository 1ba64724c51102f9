use Rattle.wam_machine.proofs.Made.{word-grown, word-inside, word-text}
use Rattle.wam_machine.proofs.build.word.Goals as goal

pub returns-clause-grown : goal.returns-clause-grown
returns-clause-grown g c = word-grown c.args.terms.now c.requires.terms c.known.ensures c.intern.new.self c.args.name.now c.in_ok-number.ensures.texts c.intern.ensures.distinct

pub returns-clause-inside : goal.returns-clause-inside
returns-clause-inside g c = word-inside c.intern.new.self c.in_ok-number.number c.args.name.now c.in_ok-number.ensures.number

pub returns-clause-text : goal.returns-clause-text
returns-clause-text g c = word-text c.intern.new.self c.in_ok-number.number c.args.name.now c.in_ok-number.ensures.number
