use Rattle.std.proofs.Common.{ap, ◌∙◌}
use Rattle.std.proofs.lemmas.Result.{IfOk-weaker}
use Rattle.prolog_terms.specs.Tree.{atom, compound}
use Rattle.term_store.specs.Terms.{trees_of}
use Rattle.wam_machine.specs.Terms.{built}
use Rattle.wam_machine.proofs.SeenCells.{count_trees, text_read}
use Rattle.wam_machine.proofs.GoalSeen.{seen-cell, seen-leaf, seen-compound, seen-name, seen-parts}
use Rattle.wam_machine.proofs.HeadCells.{head-unbound, head-number, head-atom, head-compound}
use Rattle.wam_machine.proofs.matching.head_of.Goals as goal

pub look-requires : goal.look-requires
look-requires g c = seen-cell c.args.terms.now c.args.cell c.requires.cell

pub text-requires : goal.text-requires
text-requires g c = seen-name c.args.terms.now c.args.cell c.requires.cell c.in-Atom.name c.requires.terms c.in-Atom.ensures.looks

pub text-requires-in-Compound : goal.text-requires-in-Compound
text-requires-in-Compound g c =
    (seen-parts c.args.terms.now c.args.cell c.requires.cell c.in-Compound.name c.in-Compound.arguments c.requires.terms c.known.ensures c.in-Compound.ensures.looks).name

pub returns-in-Variable : goal.returns-in-Variable
returns-in-Variable g c = let t = c.args.terms.now in head-unbound (built t c.args.cell) _ (seen-leaf t c.args.cell c.requires.cell _ (c.in-Variable.ensures.term t.names))

pub returns-in-Integer : goal.returns-in-Integer
returns-in-Integer g c = let t = c.args.terms.now in head-number (built t c.args.cell) _ (seen-leaf t c.args.cell c.requires.cell _ (c.in-Integer.ensures.term t.names))

pub returns-in-Atom : goal.returns-in-Atom
returns-in-Atom g c =
    let t = c.args.terms.now in
    let same = seen-leaf t c.args.cell c.requires.cell _ (c.in-Atom.ensures.term t.names) ∙ ap atom (text_read t.names c.in-Atom.name c.text.result.now c.text.ensures) in
    IfOk-weaker c.named.result _ _ (λ h e. head-atom (built t c.args.cell) c.text.result.now h same e) c.named.ensures

pub returns-in-Compound : goal.returns-in-Compound
returns-in-Compound g c =
    let t = c.args.terms.now in
    let args = c.in-Compound.arguments.now in
    let same = seen-compound t c.args.cell c.requires.cell c.in-Compound.name args (c.in-Compound.ensures.term t.names)
    ∙ ap (λ n. compound n (trees_of (built t) args)) (text_read t.names c.in-Compound.name c.text-in-Compound.result.now c.text-in-Compound.ensures) in
    IfOk-weaker c.named-in-Compound.result _ _
    (λ h e. head-compound (built t c.args.cell) c.text-in-Compound.result.now (trees_of (built t) args) _ h same (count_trees (built t) args) e)
    c.named-in-Compound.ensures
