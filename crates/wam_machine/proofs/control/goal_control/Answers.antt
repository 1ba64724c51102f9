use Rattle.std.proofs.Common.{[], sym, subst, ap, ◌∙◌}
use Rattle.std.proofs.lemmas.Result.{IfOk-weaker}
use Rattle.std.proofs.lemmas.List.Elements.{All-nil}
use Rattle.prolog_terms.specs.Tree.{Tree, atom, compound}
use Rattle.term_store.specs.Terms.{trees_of}
use Rattle.wam_machine.specs.Terms.{built, IsBuilt}
use Rattle.wam_machine.specs.Goals.{IsFoundNow}
use Rattle.wam_machine.proofs.SeenCells.{text_read}
use Rattle.wam_machine.proofs.GoalSeen.{seen-cell, seen-leaf, seen-compound, seen-name, seen-parts, no_variable, no_integer}
use Rattle.wam_machine.proofs.GoalParts.{found-now, found-control}
use Rattle.wam_machine.proofs.control.goal_control.Goals as goal

pub look-requires : goal.look-requires
look-requires g c = seen-cell c.args.terms.now c.args.goal c.requires.goal.built_is

pub unreachable-requires : goal.unreachable-requires
unreachable-requires g c =
    let t = c.args.terms.now in
    no_variable t c.args.goal c.requires.goal _ (seen-leaf t c.args.goal c.requires.goal.built_is _ (c.in-Variable.ensures.term t.names))

pub unreachable-requires-in-Integer : goal.unreachable-requires-in-Integer
unreachable-requires-in-Integer g c =
    let t = c.args.terms.now in
    no_integer t c.args.goal c.requires.goal _ (seen-leaf t c.args.goal c.requires.goal.built_is _ (c.in-Integer.ensures.term t.names))

pub text-requires : goal.text-requires
text-requires g c = seen-name c.args.terms.now c.args.goal c.requires.goal.built_is c.in-Atom.name c.requires.terms c.in-Atom.ensures.looks

pub text-requires-in-Compound : goal.text-requires-in-Compound
text-requires-in-Compound g c =
    (seen-parts c.args.terms.now c.args.goal c.requires.goal.built_is c.in-Compound.name c.in-Compound.arguments c.requires.terms c.known.ensures c.in-Compound.ensures.looks).name

pub row_control-requires-clause-valid : goal.row_control-requires-clause-valid
row_control-requires-clause-valid g c =
    (seen-parts c.args.terms.now c.args.goal c.requires.goal.built_is c.in-Compound.name c.in-Compound.arguments c.requires.terms c.known.ensures c.in-Compound.ensures.looks).args

pub row_control-requires-clause-some : goal.row_control-requires-clause-some
row_control-requires-clause-some g c =
    (seen-parts c.args.terms.now c.args.goal c.requires.goal.built_is c.in-Compound.name c.in-Compound.arguments c.requires.terms c.known.ensures c.in-Compound.ensures.looks).some

pub row_control-requires-clause-few : goal.row_control-requires-clause-few
row_control-requires-clause-few g c =
    (seen-parts c.args.terms.now c.args.goal c.requires.goal.built_is c.in-Compound.name c.in-Compound.arguments c.requires.terms c.known.ensures c.in-Compound.ensures.looks).few

pub returns-in-Atom : goal.returns-in-Atom
returns-in-Atom g c =
    let t = c.args.terms.now in
    let same = seen-leaf t c.args.goal c.requires.goal.built_is _ (c.in-Atom.ensures.term t.names) ∙ ap atom (text_read t.names c.in-Atom.name c.text.result.now c.text.ensures) in
    IfOk-weaker c.atom_control.result _ _
    (λ x f. found-control t (built t c.args.goal) x c.requires.goal.body (found-now t [] _ (built t c.args.goal) x f (sym same) (All-nil (IsBuilt t))))
    c.atom_control.ensures

pub returns-in-Compound : goal.returns-in-Compound
returns-in-Compound g c =
    let t = c.args.terms.now in
    let args = c.in-Compound.arguments.now in
    let same = seen-compound t c.args.goal c.requires.goal.built_is c.in-Compound.name args (c.in-Compound.ensures.term t.names)
    ∙ ap (λ n. compound n (trees_of (built t) args)) (text_read t.names c.in-Compound.name c.text-in-Compound.result.now c.text-in-Compound.ensures) in
    IfOk-weaker c.row_control.result _ _
    (λ x f. found-control t (built t c.args.goal) x c.requires.goal.body (subst (λ (y : Tree). IsFoundNow t y x) (sym same) f))
    c.row_control.ensures
