use Rattle.wam_machine.specs.Terms.{built}
use Rattle.wam_machine.proofs.Built.{grown-itself}
use Rattle.wam_machine.proofs.HeadCells.{rule-parts, fact-parts}
use Rattle.wam_machine.proofs.matching.parts.Goals as goal

pub returns-in-Some-clause-grown : goal.returns-in-Some-clause-grown
returns-in-Some-clause-grown g c = grown-itself c.args.terms.now c.requires.terms

pub returns-in-Some-clause-parts : goal.returns-in-Some-clause-parts
returns-in-Some-clause-parts g c = rule-parts c.args.terms.now (built c.args.terms.now c.args.clause) _ c.in-Some.ensures

pub returns-in_ok-truth-in-None-clause-parts : goal.returns-in_ok-truth-in-None-clause-parts
returns-in_ok-truth-in-None-clause-parts g c =
    let e = c.in_ok-truth-in-None.ensures in
    fact-parts c.args.terms.now c.word.new.terms c.args.clause c.in_ok-truth-in-None.truth e.grown c.requires.clause e.inside e.text c.in-None.ensures
