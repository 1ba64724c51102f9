use Rattle.std.proofs.Common.{sym, ap, ◌∙◌}
use Rattle.std.proofs.lemmas.Result.{IfOk-weaker}
use Rattle.prolog_terms.specs.Tree.{Tree, atom}
use Rattle.term_store.specs.Terms.{text}
use Rattle.wam_machine.specs.Naming.{by_name}
use Rattle.wam_machine.specs.Terms.{built}
use Rattle.wam_machine.proofs.SeenCells.{text_read}
use Rattle.wam_machine.proofs.GoalSeen.{seen-cell, seen-leaf, seen-name, seen-view}
use Rattle.wam_machine.proofs.NamedTerms.{without-leaf}
use Rattle.wam_machine.proofs.naming.by_name.Goals as goal

pub look-requires : goal.look-requires
look-requires g c = seen-cell c.args.terms.now c.args.name c.requires.name

pub text-requires : goal.text-requires
text-requires g c = seen-name c.args.terms.now c.args.name c.requires.name c.in-Atom.number c.requires.terms c.in-Atom.ensures.looks

pub returns-in-Variable : goal.returns-in-Variable
returns-in-Variable g c =
    let t = c.args.terms.now in
    sym (ap (λ (x : Tree). by_name x (built t c.args.arity)) (seen-leaf t c.args.name c.requires.name _ (c.in-Variable.ensures.term t.names)))

pub returns-in-Atom : goal.returns-in-Atom
returns-in-Atom g c =
    let t = c.args.terms.now in
    let same = seen-leaf t c.args.name c.requires.name _ (c.in-Atom.ensures.term t.names) ∙ ap atom (text_read t.names c.in-Atom.number c.text.result.now c.text.ensures) in
    IfOk-weaker c.with_name.result _ _ (λ n e. e ∙ sym (ap (λ (x : Tree). by_name x (built t c.args.arity)) same)) c.with_name.ensures

pub returns-in_default : goal.returns-in_default
returns-in_default g c =
    let t = c.args.terms.now in
    IfOk-weaker c.without_name.result _ _
    (λ n e. e ∙ sym (without-leaf (text t.names) (built t) c.look.result (built t c.args.name) (built t c.args.arity) (seen-view t c.args.name c.look.result (c.look.ensures.term t.names))
    (λ k h. c.in_default.not-Variable k h) (λ k h. c.in_default.not-Atom k h)))
    c.without_name.ensures
