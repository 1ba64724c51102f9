use Rattle.std.proofs.Common.{sym, ap, ◌∙◌, rules, w64, SFits}
use Rattle.std.proofs.lemmas.Result.{IfOk-weaker}
use Rattle.std.proofs.Math.Facts.{to_z-of_z}
use Rattle.prolog_terms.specs.Tree.{integer}
use Rattle.term_store.specs.Terms.{text}
use Rattle.wam_machine.specs.Naming.{with_name}
use Rattle.wam_machine.specs.Terms.{built}
use Rattle.wam_machine.proofs.GoalSeen.{seen-cell, seen-leaf, seen-view}
use Rattle.wam_machine.proofs.NamedTerms.{arity-leaf}
use Rattle.wam_machine.proofs.naming.with_name.Goals as goal

pub look-requires : goal.look-requires
look-requires g c = seen-cell c.args.terms.now c.args.arity c.requires.arity

pub returns-in-Variable : goal.returns-in-Variable
returns-in-Variable g c =
    let t = c.args.terms.now in
    sym (ap (with_name c.args.name.now) (seen-leaf t c.args.arity c.requires.arity _ (c.in-Variable.ensures.term t.names)))

pub with_count-requires-clause-count : goal.with_count-requires-clause-count
with_count-requires-clause-count g c =
    let t = c.args.terms.now in
    let fits : SFits w64 c.in-Integer.count = search rules in
    seen-leaf t c.args.arity c.requires.arity _ (c.in-Integer.ensures.term t.names) ∙ ap integer (sym (to_z-of_z fits))

pub returns-in-Integer : goal.returns-in-Integer
returns-in-Integer g c =
    let t = c.args.terms.now in
    let fits : SFits w64 c.in-Integer.count = search rules in
    IfOk-weaker c.with_count.result _ _
    (λ n e. e ∙ sym (ap (with_name c.args.name.now) (seen-leaf t c.args.arity c.requires.arity _ (c.in-Integer.ensures.term t.names) ∙ ap integer (sym (to_z-of_z fits)))))
    c.with_count.ensures

pub returns-in_default : goal.returns-in_default
returns-in_default g c =
    let t = c.args.terms.now in
    IfOk-weaker c.not_of_type.result _ _
    (λ n e. e ∙ sym (arity-leaf (text t.names) (built t) c.look.result c.args.name.now (built t c.args.arity) (seen-view t c.args.arity c.look.result (c.look.ensures.term t.names))
    (λ k h. c.in_default.not-Variable k h) (λ z h. c.in_default.not-Integer z h)))
    c.not_of_type.ensures
